-- What a search for ends needs of persistent sets.
use Rattle.std.specs.Prelude.{ℕ, ◌+◌, ◌<◌, ◌≤◌, ◌≡◌, Bool, true, Some, List, [], ◌∷◌, ◌++◌, length, slice_get}
use Rattle.l4_model.specs.Words.{clock_limit}
use Rattle.l4_model.specs.Machine.{Machine}
use Rattle.l4_core_model.specs.Runs.{System, Action, at_rest, opening_system}
use Rattle.l4_explore.specs.Tries.{State, Next}
use Rattle.l4_explore.specs.Search.{Seen}
use Rattle.l4_states.specs.Choices.{after_choices, state_in, state_after, IsLeastRun}
use Rattle.l4_persistent.specs.Persistent.{Leads, IsPersistent}
use Rattle.l4_persistent.specs.Rests.{horizon, clock_at, processor_of}

-- So many more events may lead from this state to that end, at rest, and no clock goes on by
-- `horizon` meanwhile.
pub record MayRest (m : Machine) (state : State) (more : ℕ) (end : State) : Type 0 where
  pub before : ℕ
  pub system : System
  pub reached : IsLeastRun m before system
  pub is : state_in m system ≡ state
  pub events : List Action
  pub as_many : length events ≡ more
  pub last : System
  pub leads : Leads m system events last
  pub rest : at_rest m last ≡ true
  pub soon : (cpu : ℕ) → clock_at last cpu < clock_at system cpu + horizon
  pub ends : state_in m last ≡ end

-- It stands among the choices.
pub record IsOffered (choices : List Next) (n : Next) : Type 0 where
  pub place : ℕ
  pub is : slice_get choices place ≡ Some n

abbrev pub everybody : ℕ → Bool
everybody cpu = true

-- A choice of a processor of the set can be made.
pub record CanGoOn (m : Machine) (schedule : List ℕ) (set : ℕ → Bool) : Type 0 where
  pub number : ℕ
  pub inside : set (processor_of m number) ≡ true
  pub state : State
  pub leads : state_after m (schedule ++ number ∷ []) ≡ Some state

-- The schedule of a found state leads to a system of that state, whose clocks may go on as far as
-- `horizon`. The choices are all that can be made by processors of a set that is persistent there.
-- Some can, if any choice can be made.
pub record AreOfSet (m : Machine) (before : List Seen) (seen : Seen)
    (choices : List Next) : Type 0 where
  pub system : System
  pub leads : after_choices m (opening_system m) seen.schedule ≡ Some system
  pub is : state_in m system ≡ seen.state
  pub early : (cpu : ℕ) → clock_at system cpu + horizon ≤ clock_limit
  pub set : ℕ → Bool
  pub persistent : IsPersistent m system set
  pub some : CanGoOn m seen.schedule everybody → CanGoOn m seen.schedule set
  pub all : (number : ℕ) (state : State) → set (processor_of m number) ≡ true →
      state_after m (seen.schedule ++ number ∷ []) ≡ Some state →
      IsOffered choices (record { entry = number; state = state })
