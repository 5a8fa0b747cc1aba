use Rattle.std.proofs.Common.{◌≡◌, ◌<◌, ◌++◌, length, refl}
use Rattle.l4_core_model.specs.Runs.{told}
use Rattle.l4_proc.specs.Logs.{events}
use Rattle.l4_proc.proofs.Ends.{as_many, each_within, event_at, told_between}
use Rattle.l4_proc.proofs.log.Log.places.Goals as goal

pub returns-clause-steps : goal.returns-clause-steps
returns-clause-steps c =
    let log = c.args.self.now in
    let ends = log.ends.items in
    let steps = log.buffer.before ++ log.buffer.steps in
    let before : c.args.i < length ends = rw (as_many log.cpu 0 ends steps) at c.requires.within in
    let at = event_at log.cpu 0 ends steps c.args.i _ c.get.ensures in
    let all : told (events log) ≡ steps = told_between log.cpu 0 ends steps c.requires.closed in
    rw (at, c.start.ensures, all) refl

pub returns-clause-within : goal.returns-clause-within
returns-clause-within c =
    let log = c.args.self.now in
    let ends = log.ends.items in
    let steps = log.buffer.before ++ log.buffer.steps in
    let before : c.args.i < length ends = rw (as_many log.cpu 0 ends steps) at c.requires.within in
    let place = each_within ends 0 (length steps) c.args.i _ c.requires.closed c.get.ensures in
    let all : told (events log) ≡ steps = told_between log.cpu 0 ends steps c.requires.closed in
    rw (all) place
