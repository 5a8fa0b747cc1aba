-- What a listener is told of the endings of placed threads.
use Rattle.std.specs.Prelude.{ℕ, ◌≤◌, ◌≡◌, ◌⊎◌, Bool, true, false, List, [], IsSome, length, map, take}
use Rattle.l4_model.specs.Machine.{Machine}
use Rattle.l4_core_model.specs.Runs.{opening_system}
use Rattle.l4_core_model.specs.Schedules.{Entry}
use Rattle.l4_explore.specs.Search.{Seen}
use Rattle.l4_explore.specs.Told.{Hears}
use Rattle.l4_states.specs.Choices.{after_choices}
use Rattle.l4_states.specs.Endings.{entries_of}
use Rattle.l4_persistent.specs.Endings.{AreAllEndings, AreEndings}

-- Choices lead to a state.
abbrev pub AreChoices : Machine → List ℕ → Type 0
AreChoices m numbers = IsSome (after_choices m (opening_system m) numbers)

-- The entries of found states.
abbrev pub entries_to : Machine → List Seen → List (List Entry)
entries_to m ends = map (entries_of m) (map (λ s. s.schedule) ends)

-- The listener was told of all endings, each by a schedule of choices that leads there. The search
-- was limited to so many events and states.
pub record AreTold (m : Machine) (hears : Hears) (states asked most depth : ℕ)
    (is_whole : Bool) : Type 0 where
  pub ends : List Seen
  pub all : AreAllEndings m (entries_to m ends) depth is_whole
  pub found : AreEndings m (entries_to m ends) states asked most depth is_whole
  pub told : hears ends true

-- A search that was not carried to its end has found all endings of at most so many events. The
-- listener was told of the first of them: of all, if it wants to hear of more.
pub record HaveBegun (m : Machine) (hears : Hears) (more : Bool) : Type 0 where
  pub ends : List Seen
  pub depth : ℕ
  -- none was found where there was no memory for the opening
  pub are : (ends ≡ []) ⊎ AreAllEndings m (entries_to m ends) depth false
  -- so many of them
  pub count : ℕ
  pub within : count ≤ length ends
  pub all : more ≡ true → count ≡ length ends
  pub told : hears (take count ends) more
