-- A replay whose history is told, and the core run that it has come to.
use Rattle.std.specs.Prelude.{List, ◌++◌}
use Rattle.l4_model.specs.Machine.{Machine}
use Rattle.l4_model.specs.Steps.{Step}
use Rattle.l4_core_model.specs.Runs.{Run, told}
use Rattle.l4_replay.specs.Inner.Processors.{under_way}
use Rattle.l4_replay.specs.UnderWay.{IsRun}
use Rattle.l4_told.specs.Inner.Kept.{IsToldTo}
use Rattle.l4_told.specs.declared.replay.Replay.{Replay}

-- The processors are where this core run ends. The steps `before` were told, those left are kept.
pub record HasCome (m : Machine) (r : Run) (before : List Step) (p : Replay) : Type 0 where
  pub run : IsRun m r (under_way p.processors)
  pub telling : IsToldTo m (told r.events) before p.kept

-- They are where some core run ends.
abbrev pub HasRun : Replay → Type 0
HasRun p = (m : Machine) × (r : Run) × (before : List Step) × HasCome m r before p

-- The run went on as the definitions say, and nothing more was told.
abbrev pub GoesOn : (Machine → Run → Run) → (old new : Replay) → Type 0
GoesOn next old new = (m : Machine) (r : Run) (before : List Step) → HasCome m r before old →
    HasCome m (next m r) before new

-- Some of the steps that were kept were told, as a listener hears them.
abbrev pub HasTold : (List Step → Type 0) → (old new : Replay) → Type 0
HasTold hears old new = (m : Machine) (r : Run) (before : List Step) → HasCome m r before old →
    (more : List Step) × HasCome m r (before ++ more) new × hears more

-- The same, and the run went on.
abbrev pub HasToldAnd : (Machine → Run → Run) → (List Step → Type 0) → (old new : Replay) → Type 0
HasToldAnd next hears old new = (m : Machine) (r : Run) (before : List Step) →
    HasCome m r before old →
    (more : List Step) × HasCome m (next m r) (before ++ more) new × hears more
