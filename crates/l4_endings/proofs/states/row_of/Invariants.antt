use Rattle.std.proofs.Common.{◌≡◌, ℕ, ◌<◌, length}
use Rattle.l4_model.specs.Machine.{Machine}
use Rattle.l4_core_model.specs.Runs.{Run}
use Rattle.l4_replay.specs.UnderWay.{IsRun}
use Rattle.l4_parts.specs.Inner.Known.{number_at, AreTrue, HasAt}
use Rattle.l4_parts.specs.Inner.Numbers.{AreLonger}
use Rattle.l4_endings.proofs.states.row_of.Given as goal

-- The places before the next one have their numbers.
abbrev pub invariant-loop-place : goal.invariant-loop-place
invariant-loop-place l = record {
  longer : AreLonger l.fn.parts.parts.items l.parts.parts.items;
  are : (m : Machine) (r : Run) → IsRun m r l.walk → AreTrue m l.fn.parts.parts.items →
      AreTrue m l.parts.parts.items;
  long : length l.row.items ≡ l.place;
  at : (m : Machine) (r : Run) → IsRun m r l.walk → (place : ℕ) → place < l.place →
      HasAt m r.system l.parts.parts.items place (number_at l.row.items place);
}
