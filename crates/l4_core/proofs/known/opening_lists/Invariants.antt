use Rattle.std.proofs.Common.{◌≡◌}
use Rattle.l4_core.specs.Inner.Opening.{lists_below}
use Rattle.l4_core.proofs.known.opening_lists.Given as goal

abbrev pub invariant-loop-place : goal.invariant-loop-place
invariant-loop-place l = l.lists ≡ lists_below l.machine l.cpu l.place
