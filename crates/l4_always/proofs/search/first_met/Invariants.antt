use Rattle.std.proofs.Common.{◌≡◌}
use Rattle.l4_condition_lines.specs.Conditions.{meets}
use Rattle.l4_always.proofs.Saying.{AreNoneBefore}
use Rattle.l4_always.proofs.search.first_met.Given as goal

abbrev pub invariant-loop-place : goal.invariant-loop-place
invariant-loop-place l = record {
  same : l.way ≡ l.machine;
  none : AreNoneBefore l.machine l.found (meets l.machine l.condition) l.place;
}
