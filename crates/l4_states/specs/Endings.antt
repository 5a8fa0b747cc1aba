-- Endings, each by the entries that lead there.
use Rattle.std.specs.Prelude.{ℕ, ◌<◌, ◌≤◌, List, [], ◌∷◌, length, map, filter, slice_index_or}
use Rattle.std.specs.List.{AllByRecursion}
use Rattle.l4_model.specs.Machine.{Machine}
use Rattle.l4_core_model.specs.Runs.{System}
use Rattle.l4_core_model.specs.Schedules.{Entry, replay_entries}
use Rattle.l4_bisimilar.specs.Shifted.{IsShifted}
use Rattle.l4_explore.specs.Search.{Seen}
use Rattle.l4_states.specs.Choices.{choice}

-- The entries of choices.
abbrev pub entries_of : Machine → List ℕ → List Entry
entries_of m schedule = map (choice m) schedule

-- The schedules of the states that are ends.
abbrev pub ends_of : List Seen → List (List ℕ)
ends_of found = map (λ s. s.schedule) (filter (λ s. s.state.is_end) found)

abbrev pub led : Machine → List Entry → System
led m entries = (replay_entries m entries).system

abbrev pub ending_at : List (List Entry) → ℕ → List Entry
ending_at endings i = slice_index_or endings i []

-- One of them is similar to this state.
pub record IsAmong (m : Machine) (endings : List (List Entry)) (g : System) : Type 0 where
  pub place : ℕ
  pub inside : place < length endings
  pub similar : IsShifted (led m (ending_at endings place)) g

-- No two of them are similar, and no longer one comes before a shorter one.
abbrev pub AreApart : Machine → List (List Entry) → Type 0
AreApart m [] = Unit {0}
AreApart m (e ∷ es) =
    AllByRecursion (λ f. (IsShifted (led m e) (led m f) → ⊥) × (length e ≤ length f)) es
    × AreApart m es
