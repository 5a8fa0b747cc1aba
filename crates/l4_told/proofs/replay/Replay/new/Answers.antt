use Rattle.l4_told.proofs.Going.{opening_come}
use Rattle.l4_told.proofs.replay.Replay.new.Goals as goal

pub returns : goal.returns
returns c =
    opening_come c.args.machine.now _ c.in_ok-new.ensures.run c.new-2.ensures.untold c.new-2.ensures.none
