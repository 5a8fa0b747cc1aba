-- What a listener is told of the endings of a machine.
use Rattle.std.specs.Prelude.{ℕ, ◌≤◌, ◌≡◌, ◌⊎◌, Bool, true, false, List, [], length, map, take}
use Rattle.l4_model.specs.Machine.{Machine}
use Rattle.l4_model.specs.Steps.{Step}
use Rattle.l4_explore.specs.Search.{Seen}
use Rattle.l4_explore.specs.Told.{Hears}
use Rattle.l4_futures.specs.Endings.{AreAllEndings}
use Rattle.l4_futures.specs.Traces.{trace_along}
use Rattle.l4_all_endings.specs.Tried.{AreLed}

-- The entries of found states, and their histories.

abbrev pub schedules_of : List Seen → List (List ℕ)
schedules_of ends = map (λ s. s.schedule) ends

abbrev pub traces_of : Machine → List Seen → List (List Step)
traces_of m ends = map (trace_along m) (schedules_of ends)

-- The listener was told of all endings, each by the entries that lead there.
pub record AreTold (m : Machine) (hears : Hears) (depth : ℕ) (is_whole : Bool) : Type 0 where
  pub ends : List Seen
  pub all : AreAllEndings m (traces_of m ends) depth is_whole
  pub led : AreLed m (schedules_of ends)
  pub told : hears ends true

-- A search that was not carried to its end has found all endings of at most so many steps. The
-- listener was told of the first of them: of all, if it wants to hear of more.
pub record HaveBegun (m : Machine) (hears : Hears) (more : Bool) : Type 0 where
  pub ends : List Seen
  pub depth : ℕ
  -- none was found where there was no memory for the opening
  pub are : (ends ≡ []) ⊎ AreAllEndings m (traces_of m ends) depth false
  pub led : AreLed m (schedules_of ends)
  -- so many of them
  pub count : ℕ
  pub within : count ≤ length ends
  pub all : more ≡ true → count ≡ length ends
  pub told : hears (take count ends) more
