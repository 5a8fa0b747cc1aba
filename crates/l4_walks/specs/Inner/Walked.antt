-- Walks through the worlds of a machine.
use Rattle.std.specs.Prelude.{ℕ, ◌≡◌, ◌≤◌, true, false, Option, None, Some, IsSome, List, Vec, length}
use Rattle.std.proofs.Common.{Global}
use Rattle.l4_model.specs.Machine.{Machine}
use Rattle.l4_model.specs.World.{World}
use Rattle.l4_futures.specs.Choices.{after_entry, world_after}
use Rattle.l4_futures.specs.Endings.{length_of, IsEnding}
use Rattle.l4_futures.specs.Inner.Ends.{is_end}
use Rattle.l4_futures.specs.Traces.{trace_along}
use Rattle.l4_all_endings.specs.Tried.{LeadsToWorld}

-- One more step of a walk is possible, or nothing is.
abbrev pub IsChoice : Machine → World → Option ℕ → Type 0
IsChoice m w None = is_end m w ≡ true
IsChoice m w (Some entry) = IsSome (after_entry m w entry)

-- The history of these entries comes to an ending, by so many steps but ticks ..
pub record LeadsToEnding (m : Machine) (most : ℕ) (entries : List ℕ) : Type 0 where
  pub leads : LeadsToWorld m entries
  pub world : World
  pub ending : IsEnding m (trace_along m entries) world
  pub near : length_of (trace_along m entries) ≤ most

-- .. or as many as a walk may take lead to a world in which something is possible.
pub record LeadsOn (m : Machine) (most : ℕ) : Type 0 where
  pub entries : List ℕ
  pub world : World
  pub leads : world_after m entries ≡ Some world
  pub goes_on : is_end m world ≡ false
  pub as_many : length entries ≡ most

abbrev pub IsWalk : Machine → (most : ℕ) → Option (Vec ℕ Global) → Type 0
IsWalk m most None = LeadsOn m most
IsWalk m most (Some entries) = LeadsToEnding m most entries.items
