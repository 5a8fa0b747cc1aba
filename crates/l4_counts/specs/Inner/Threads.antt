-- Counts of all threads, in order of declaration.
use Rattle.std.specs.Prelude.{ℕ, Option, Some, None, List, map, flat_map}
use Rattle.std.specs.List.{zip}
use Rattle.l4_model.specs.Words.{GlobalId}
use Rattle.l4_model.specs.Machine.{Declaration}
use Rattle.l4_model.specs.Steps.{Step}
use Rattle.l4_model.specs.World.{changed}
use Rattle.l4_counts.specs.declared.counts.Counts.{Counts}
use Rattle.l4_counts.specs.Counts.{counts_of, with_step}
use Rattle.l4_counts.specs.Lines.{counts_line}

-- The counts of each thread in a history.
abbrev pub counts_of_each : List Declaration → List Step → List Counts
counts_of_each ds steps = map (λ (d : Declaration). counts_of d.id steps) ds

-- The counts of a thread after one more step.
abbrev pub with_step_of : Step → Declaration × Counts → Counts
with_step_of step (d, c) = with_step d.id step c

abbrev pub each_with_step : Step → List Declaration → List Counts → List Counts
each_with_step step ds cs = map (with_step_of step) (zip ds cs)

-- The counts of all threads after one more step of the thread at this place.
abbrev pub with_step_at : Option ℕ → GlobalId → Step → List Counts → List Counts
with_step_at None id step cs = cs
with_step_at (Some place) id step cs = changed (with_step id step) cs place

-- The line of a thread.
abbrev pub line_of : Declaration × Counts → List ℕ
line_of (d, c) = counts_line d.id c

abbrev pub counts_lines : List Declaration → List Counts → List ℕ
counts_lines ds cs = flat_map line_of (zip ds cs)
