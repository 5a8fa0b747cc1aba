-- A core run of a machine of one processor.
use Rattle.std.specs.Prelude.{ℕ, ◌≡◌, [], ◌∷◌}
use Rattle.l4_model.specs.Machine.{Machine}
use Rattle.l4_core_model.specs.Local.{Local}
use Rattle.l4_core_model.specs.Runs.{IsMachine, Run, letters}
use Rattle.l4_core_model.specs.Laws.{IsCoreRun}

-- A machine of one processor, the core run that it has come to, and what the processor knows there.
-- No letter is under way to it.
pub record IsRunOfOne (m : Machine) (r : Run) (l : Local) : Type 0 where
  pub one : m.cpus ≡ 1
  pub lawful : IsMachine m
  pub core_run : IsCoreRun m r
  pub locals : r.system.locals ≡ l ∷ []
  pub none : (from : ℕ) → letters r.system.mail from 0 ≡ []
