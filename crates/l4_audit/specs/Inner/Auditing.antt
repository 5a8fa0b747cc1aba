-- An audit that is under way.
use Rattle.std.specs.Prelude.{◌≡◌, Option, Some, Result, Ok, Err, List, [], ◌++◌, filter_map}
use Rattle.std.specs.Option.{option_to_list}
use Rattle.l4_model.specs.Words.{Id}
use Rattle.l4_model.specs.Machine.{Machine}
use Rattle.l4_model.specs.World.{Name, World, opening}
use Rattle.l4_model.specs.Conditions.{◌>>=◌, undecided}
use Rattle.l4_model.specs.Steps.{Step}
use Rattle.l4_model.specs.History.{reached, begun_name}
use Rattle.l4_audit.specs.declared.reasons.StepFault.{StepFault}
use Rattle.l4_audit.specs.Inner.Audited.{Audited}
use Rattle.l4_audit.specs.Inner.Taking.{IsTaken, Explains}

-- The machine and its world, and the names of the sends that were begun, in order.
pub record Auditing : Type 0 where
  pub at : Audited
  pub begun : List Name

-- Steps led from the opening to here, and they began these sends.
pub record IsUnderWay (a : Audited) (begun : List Name) : Type 0 where
  pub steps : List Step
  pub reached_by : reached a.machine steps ≡ Some a.world
  pub begun_by : filter_map begun_name steps ≡ begun

abbrev pub begins : Machine → Auditing
begins m = record { at = record { machine = m; world = opening m }; begun = [] }

-- The step was possible, and the audit has taken it.
pub record IsPassed (a : Auditing) (step : Step) (b : Auditing) : Type 0 where
  pub taken : IsTaken a.at step b.at
  pub begun : b.begun ≡ a.begun ++ option_to_list (begun_name step)

-- A step passes, or it is refused and the audit is where it was.
abbrev pub Judges : {A : Type 0} → Auditing → Step → Result A StepFault → Auditing → Type 0
Judges a step (Ok done) b = IsPassed a step b
Judges a step (Err fault) b = Explains a.at step fault × (b ≡ a)

-- A send with its destination, if it is undecided.
abbrev pub waiting_send : Machine → World → Name → Option (Name × Id)
waiting_send m w s = do
  p ← undecided m w s
  Some (s, p.send.to)
