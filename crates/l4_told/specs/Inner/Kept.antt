-- What of a told history later steps need: the steps that began its undecided sends.
use Rattle.std.specs.Prelude.{◌≡◌, ◌≤◌, true, Some, List, ◌++◌, length, map}
use Rattle.l4_model.specs.Words.{Id}
use Rattle.l4_model.specs.Machine.{Machine}
use Rattle.l4_model.specs.World.{Name, World}
use Rattle.l4_model.specs.Steps.{Step, Begin}
use Rattle.l4_model.specs.History.{reached, waiting}
use Rattle.l4_model.specs.Laws.{begins_of}
use Rattle.l4_told.specs.declared.kept_steps.KeptSteps.{KeptSteps}

-- The steps that begin these sends.
abbrev pub begins : List (Name × Id) → List Step
begins sends = map (λ p. Begin p.0) sends

-- Whatever steps follow, the sends of `told` that are undecided then are those of `kept`.
abbrev pub Keeps : Machine → (kept told : List Step) → Type 0
Keeps m kept told =
    (more : List Step) (w : World) → reached m (told ++ more) ≡ Some w →
    waiting m w kept ≡ waiting m w told

-- What is kept of the steps that were told: what begins their undecided sends. No send is begun
-- there more often.
pub record IsKept (m : Machine) (kept told : List Step) : Type 0 where
  pub keeps : Keeps m kept told
  pub once : (more : List Step) (s : Name) → begins_of s (kept ++ more) ≤ begins_of s (told ++ more)

abbrev pub steps_in : KeptSteps → List Step
steps_in k = k.buffer.before ++ k.buffer.steps

-- Of a history the steps `before` were told. Of these some are kept, and behind them, from the
-- place `untold` on, those that are left to tell.
pub record IsToldTo (m : Machine) (history before : List Step) (k : KeptSteps) : Type 0 where
  pub kept : List Step
  pub left : List Step
  pub is_kept : IsKept m kept before
  pub parts : steps_in k ≡ kept ++ left
  pub untold : k.marks.untold ≡ length kept
  pub told_are : history ≡ before ++ left
  pub whole : k.marks.has_all ≡ true → kept ≡ before
