use Rattle.std.proofs.Common.{◌≡◌, ◌≤◌, length}
use Rattle.l4_sets.proofs.aims.settle.Given as goal

abbrev pub invariant-loop-below : goal.invariant-loop-below
invariant-loop-below l = (l.below ≤ length l.script) × (length l.aims ≡ length l.script)

abbrev pub decreases-loop-below : goal.decreases-loop-below
decreases-loop-below l = l.below
