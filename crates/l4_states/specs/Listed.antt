-- What a search finds of the core runs of a machine.
use Rattle.std.specs.Prelude.{ℕ, ◌<◌, ◌≤◌, ◌≡◌, Some, List, length}
use Rattle.l4_model.specs.Machine.{Machine}
use Rattle.l4_core_model.specs.Runs.{System, opening_system}
use Rattle.l4_bisimilar.specs.Shifted.{IsShifted}
use Rattle.l4_explore.specs.Search.{Seen, seen_at}
use Rattle.l4_states.specs.Choices.{after_choices}

-- A listed schedule leads to a state that is similar to this one, in no more than so many events.
pub record IsListed (m : Machine) (found : List Seen) (g : System) (events : ℕ) : Type 0 where
  pub place : ℕ
  pub inside : place < length found
  pub system : System
  pub leads : after_choices m (opening_system m) (seen_at found place).schedule ≡ Some system
  pub similar : IsShifted system g
  pub short : length (seen_at found place).schedule ≤ events
