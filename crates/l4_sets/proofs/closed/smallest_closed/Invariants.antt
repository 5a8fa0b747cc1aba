use Rattle.l4_sets.specs.Inner.Sets.{IsClosedUnder}
use Rattle.l4_sets.proofs.closed.smallest_closed.Given as goal

abbrev pub invariant-loop-cpu : goal.invariant-loop-cpu
invariant-loop-cpu l = IsClosedUnder l.posters l.smallest
