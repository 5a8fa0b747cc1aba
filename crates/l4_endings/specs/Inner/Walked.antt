-- A core run under way in the program, behind some choices.
use Rattle.std.specs.Prelude.{ℕ, ◌*◌, ◌≤◌, ◌≡◌, Some, List, length}
use Rattle.std.specs.List.{AllByRecursion}
use Rattle.l4_model.specs.Words.{period_limit}
use Rattle.l4_model.specs.Machine.{Machine}
use Rattle.l4_core_model.specs.Runs.{Run, opening_system}
use Rattle.l4_states.specs.Choices.{after_choices}
use Rattle.l4_replay.specs.UnderWay.{UnderWay, IsRun}
use Rattle.l4_persistent.proofs.Slow.{AreSlow}
pub use Rattle.l4_endings.specs.Told.{AreChoices}

-- It is a core run to the state that these choices lead to, with one event for each.
pub record IsWalked (m : Machine) (numbers : List ℕ) (w : UnderWay) : Type 0 where
  pub run : Run
  pub is : IsRun m run w
  pub leads : after_choices m (opening_system m) numbers ≡ Some run.system
  pub events : length run.events ≡ length numbers
  -- each event brings a clock on by less than the longest period, and by half of that on the whole
  pub clocks : AllByRecursion (λ l. l.clock ≤ length numbers * period_limit) run.system.locals
  pub slow : AreSlow (length numbers) run.system.locals
