use Rattle.std.proofs.Common.{◌<◌, ◌++◌, length}
use Rattle.l4_proc.proofs.Ends.{as_many, each_within, event_at}
use Rattle.l4_proc.proofs.log.Log.event.Goals as goal

pub steps_between-requires : goal.steps_between-requires
steps_between-requires c =
    let ends = c.args.self.now.ends.items in
    let steps = c.args.self.now.buffer.before ++ c.args.self.now.buffer.steps in
    let before : c.args.i < length ends = rw (as_many c.args.self.now.cpu 0 ends steps) at c.requires.within in
    let place = each_within ends 0 (length steps) c.args.i _ c.requires.closed c.get-end.ensures in
    rw (c.sink.ensures) place

pub returns : goal.returns
returns c =
    let ends = c.args.self.now.ends.items in
    let steps = c.args.self.now.buffer.before ++ c.args.self.now.buffer.steps in
    let before : c.args.i < length ends = rw (as_many c.args.self.now.cpu 0 ends steps) at c.requires.within in
    let at = event_at c.args.self.now.cpu 0 ends steps c.args.i _ c.get-end.ensures in
    rw (c.steps_between.ensures, c.sink.ensures, c.start-start.ensures) at
