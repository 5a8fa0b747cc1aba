-- The history that entries stand for: the steps that they name, and ticks where a timeout is not due.
use Rattle.std.specs.Prelude.{ℕ, Option, None, Some, List, [], ◌∷◌}
use Rattle.l4_model.specs.Machine.{Machine}
use Rattle.l4_model.specs.World.{World, opening}
use Rattle.l4_model.specs.Steps.{Step}
use Rattle.l4_worlds.specs.Late.{next_late}
use Rattle.l4_worlds.specs.Told.{told}
use Rattle.l4_futures.specs.Choices.{step_at}

-- The steps that entries name from a world on, as far as they are possible.

abbrev pub step_then : Option Step → (Step → List Step) → List Step
step_then None rest = []
step_then (Some step) rest = step ∷ rest step

abbrev pub world_then : Option World → (World → List Step) → List Step
world_then None rest = []
world_then (Some w) rest = rest w

abbrev pub steps_along : Machine → World → List ℕ → List Step
steps_along m w [] = []
steps_along m w (entry ∷ entries) =
    step_then (step_at m w entry)
    (λ step. world_then (next_late m w step) (λ v. steps_along m v entries))

-- They are told from the opening on.
abbrev pub trace_along : Machine → List ℕ → List Step
trace_along m entries = told m (opening m) (steps_along m (opening m) entries)
