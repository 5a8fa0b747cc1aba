-- A processor that is alone in its machine, and the core run that it has come to.
use Rattle.std.specs.Prelude.{◌≡◌, ◌⊎◌, ◌+◌, ◌<◌, ◌≤◌, ℕ, true, Option, Some, List, ◌++◌, length}
use Rattle.l4_model.specs.Machine.{Machine}
use Rattle.l4_model.specs.Steps.{Step}
use Rattle.l4_core_model.specs.Acts.{Work}
use Rattle.l4_core_model.specs.Runs.{Run, at_rest, told}
use Rattle.l4_merge.specs.Rounds.{IsInRounds}
use Rattle.l4_core.specs.Inner.Turning.{work}
use Rattle.l4_told.specs.Inner.Kept.{IsToldTo}
use Rattle.l4_told.specs.Inner.OfOne.{IsRunOfOne}
use Rattle.l4_told.specs.declared.alone.Alone.{Alone}

-- The processor is where this core run ends. The steps `before` were told, those left are kept.
pub record HasCome (m : Machine) (r : Run) (before : List Step) (a : Alone) : Type 0 where
  pub of_one : IsRunOfOne m r a.core.local
  pub machine : a.machine.now ≡ m
  pub core_machine : a.core.machine ≡ m
  pub number : a.core.cpu ≡ 0
  pub events : a.events ≡ length r.events
  pub telling : IsToldTo m (told r.events) before a.kept

-- It is where some core run ends.
abbrev pub HasRun : Alone → Type 0
HasRun a = (m : Machine) × (r : Run) × (before : List Step) × HasCome m r before a

-- The run went on as the definitions say, and nothing more was told.
abbrev pub GoesOn : (Machine → Run → Run) → (old new : Alone) → Type 0
GoesOn next old new = (m : Machine) (r : Run) (before : List Step) → HasCome m r before old →
    HasCome m (next m r) before new

-- Some of the steps that were kept were told, as a listener hears them.
abbrev pub HasTold : (List Step → Type 0) → (old new : Alone) → Type 0
HasTold hears old new = (m : Machine) (r : Run) (before : List Step) → HasCome m r before old →
    (more : List Step) × HasCome m r (before ++ more) new × hears more

-- This event was the next one.
pub record IsEventOf (event : Option Work) (old new : Alone) : Type 0 where
  pub is : event ≡ Some (work new.core.local new.kept.buffer)
  pub events : new.events ≡ old.events + 1

-- A run in rounds that has turns left went on by one event.
abbrev pub GoesOnInRounds : (old new : Alone) → Type 0
GoesOnInRounds old new = (m : Machine) (turns : ℕ) (r : Run) (before : List Step) →
    HasCome m r before old → IsInRounds m turns r → length r.events < turns →
    (after : Run) × HasCome m after before new × IsInRounds m turns after
    × (length after.events ≡ length r.events + 1)

-- Nothing is to be done or armed.
abbrev pub Rests : Alone → Type 0
Rests a = (m : Machine) (r : Run) (before : List Step) → HasCome m r before a →
    at_rest m r.system ≡ true

-- A run in rounds has ended: its turns are used up, or nothing is to be done or armed. A listener
-- has heard the steps that are not kept.
pub record HasEnded (m : Machine) (turns : ℕ) (hears : List Step → Type 0) (a : Alone) :
    Type 0 where
  pub run : Run
  pub before : List Step
  pub come : HasCome m run before a
  pub rounds : IsInRounds m turns run
  pub fewer : length run.events ≤ turns
  pub least : (turns ≤ length run.events) ⊎ (at_rest m run.system ≡ true)
  pub heard : hears before
