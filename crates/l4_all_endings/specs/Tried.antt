-- What a search of all worlds goes on by, as entries.
use Rattle.std.specs.Prelude.{ℕ, ◌≡◌, ◌+◌, ◌≤◌, Option, Some, IsSome, Vec, List, filter_map, length, map}
use Rattle.std.specs.List.{AllByRecursion}
use Rattle.std.specs.Option.{option_map}
use Rattle.std.proofs.Common.{Global}
use Rattle.l4_model.specs.Machine.{Machine}
use Rattle.l4_model.specs.World.{World}
use Rattle.l4_explore.specs.Tries.{Next, deepest}
use Rattle.l4_futures.specs.Choices.{Choice, after_entry, world_after}
use Rattle.l4_futures.specs.Inner.Search.{nexts, state_in}

-- The state that an entry leads to from a world.
abbrev pub next_at : Machine → World → ℕ → Option Next
next_at m w entry =
    option_map (λ v. record { entry = entry; state = state_in m v }) (after_entry m w entry)

abbrev pub nexts_at : Machine → World → List ℕ → List Next
nexts_at m w entries = filter_map (next_at m w) entries

abbrev pub entries_of : List Choice → List ℕ
entries_of choices = map (λ c. c.entry) choices

-- Each of these entries is possible.
abbrev pub AreOpen : Machine → World → List ℕ → Type 0
AreOpen m w entries = AllByRecursion (λ entry. IsSome (after_entry m w entry)) entries

-- These are the choices of the world that entries lead to.
pub record AreChoicesAfter (m : Machine) (entries : List ℕ) (choices : List Next) : Type 0 where
  pub world : World
  pub leads : world_after m entries ≡ Some world
  pub are : choices ≡ nexts m world

-- The lists of entries that a search returns. Each leads to a world, and its history has room on the
-- clocks.

abbrev pub schedules_from : List (Vec ℕ Global) → List (List ℕ)
schedules_from endings = map (λ e. e.items) endings

pub record LeadsToWorld (m : Machine) (entries : List ℕ) : Type 0 where
  pub leads : IsSome (world_after m entries)
  pub few : length entries ≤ deepest + 1

abbrev pub AreLed : Machine → List (List ℕ) → Type 0
AreLed m schedules = AllByRecursion (LeadsToWorld m) schedules
