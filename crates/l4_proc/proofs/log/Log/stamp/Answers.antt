use Rattle.std.proofs.Common.{◌<◌, ◌++◌, length, refl}
use Rattle.l4_proc.proofs.Ends.{as_many, event_at}
use Rattle.l4_proc.proofs.log.Log.stamp.Goals as goal

pub returns : goal.returns
returns c =
    let log = c.args.self.now in
    let ends = log.ends.items in
    let steps = log.buffer.before ++ log.buffer.steps in
    let before : c.args.i < length ends = rw (as_many log.cpu 0 ends steps) at c.requires in
    let at = event_at log.cpu 0 ends steps c.args.i _ c.get.ensures in
    rw (at) refl
