use Rattle.std.proofs.Common.{◌≡◌, length}
use Rattle.l4_lint.specs.Second.Names.{are_near}
use Rattle.l4_lint.proofs.second.names.are_near.Given as goal

abbrev pub invariant-letters : goal.invariant-letters
invariant-letters l = are_near l.left l.right ≡ are_near l.one l.other

abbrev pub decreases-letters : goal.decreases-letters
decreases-letters l = length l.left
