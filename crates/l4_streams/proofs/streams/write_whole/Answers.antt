use Rattle.l4_streams.proofs.Appending.{onto}
use Rattle.l4_streams.proofs.streams.write_whole.Goals as goal

pub loop-preserved : goal.loop-preserved
loop-preserved g c = onto _ _ _ _ _ _ c.loop.invariant c.in_ok-left.ensures.some
