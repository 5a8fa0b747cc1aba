-- What a search that goes on by persistent sets lists of the core runs that come to rest.
use Rattle.std.specs.Prelude.{ℕ, ◌/◌, ◌+◌, ◌^◌, ◌<◌, ◌≤◌, ◌≡◌, Bool, true, Option, None, Some, List, length, slice_get}
use Rattle.l4_model.specs.Machine.{Machine}
use Rattle.l4_core_model.specs.Local.{Local}
use Rattle.l4_core_model.specs.Runs.{System, at_rest, opening_system}
use Rattle.l4_bisimilar.specs.Shifted.{IsShifted}
use Rattle.l4_explore.specs.Search.{Seen, seen_at}
use Rattle.l4_states.specs.Choices.{after_choices, IsLeastRun}
use Rattle.l4_states.specs.Listed.{IsListed}

-- The processor that a choice is of.
abbrev pub processor_of : Machine → (number : ℕ) → ℕ
processor_of m number = number / (m.cpus + 2)

-- How far clocks may go on: 73,000 years.
abbrev pub horizon : ℕ
horizon = 2 ^ 61

abbrev pub clock_in : Option Local → ℕ
clock_in None = 0
clock_in (Some l) = l.clock

abbrev pub clock_at : System → (cpu : ℕ) → ℕ
clock_at g cpu = clock_in (slice_get g.locals cpu)

-- A core run of so many events, whose ticks go to least deadlines, comes to rest there. No clock has
-- gone on as far as `horizon`.
pub record ComesToRest (m : Machine) (events : ℕ) (g : System) : Type 0 where
  pub run : IsLeastRun m events g
  pub rest : at_rest m g ≡ true
  pub soon : (cpu : ℕ) → clock_at g cpu < horizon

-- All such core runs of at most so many events.
pub record AreRestsListed (m : Machine) (found : List Seen) (depth : ℕ)
    (is_whole : Bool) : Type 0 where
  -- complete: where such a run comes to rest is listed, by no more events
  pub complete : (g : System) (events : ℕ) → ComesToRest m events g → events ≤ depth →
      IsListed m found g events
  -- and where the search is whole, where any longer one does too
  pub whole : is_whole ≡ true → (g : System) (events : ℕ) → ComesToRest m events g →
      IsListed m found g events
  -- shortest: none comes to rest in a similar state by fewer events
  pub shortest : (i : ℕ) (h g : System) (events : ℕ) → i < length found →
      after_choices m (opening_system m) (seen_at found i).schedule ≡ Some h →
      ComesToRest m events g → IsShifted h g → length (seen_at found i).schedule ≤ events
