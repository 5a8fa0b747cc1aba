-- A history that is told step by step, and the audit of it so far.
use Rattle.std.specs.Prelude.{◌≡◌, Some, [], ◌∷◌, ◌++◌}
use Rattle.l4_model.specs.Steps.{Step}
use Rattle.l4_model.specs.History.{run}
use Rattle.l4_worlds.specs.Told.{when_due}
use Rattle.l4_audit.specs.Inner.Auditing.{IsPassed}
use Rattle.l4_all_endings.specs.declared.traces.Telling.{Telling}

-- One step more was told.
pub record Tells (old : Telling) (step : Step) (new : Telling) : Type 0 where
  pub passed : IsPassed old.auditor step new.auditor
  pub history : new.history.steps ≡ old.history.steps ++ step ∷ []

-- A step was told once it was due.
pub record Goes (old : Telling) (step : Step) (new : Telling) : Type 0 where
  pub machine : new.auditor.at.machine ≡ old.auditor.at.machine
  pub leads :
      run old.auditor.at.machine old.auditor.at.world
      (when_due old.auditor.at.machine old.auditor.at.world step)
      ≡ Some new.auditor.at.world
  pub history :
      new.history.steps
      ≡ old.history.steps ++ when_due old.auditor.at.machine old.auditor.at.world step
