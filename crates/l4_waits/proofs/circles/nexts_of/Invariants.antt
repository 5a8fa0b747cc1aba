use Rattle.std.proofs.Common.{◌≡◌, map, take}
use Rattle.l4_waits.specs.Circles.{next_of}
use Rattle.l4_waits.proofs.circles.nexts_of.Given as goal

abbrev pub invariant-loop-thread : goal.invariant-loop-thread
invariant-loop-thread l = l.nexts.items ≡ map (next_of l.waits) (take l.thread-index l.waits)
