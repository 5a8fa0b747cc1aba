-- The endings of a machine, as a search lists them that goes on by persistent sets.
use Rattle.std.specs.Prelude.{ℕ, ◌+◌, ◌<◌, ◌≤◌, ◌≡◌, ◌⊎◌, Bool, true, false, Some, List, [], ◌∷◌, ◌++◌, length, map}
use Rattle.std.specs.List.{AllByRecursion}
use Rattle.l4_model.specs.Machine.{Machine}
use Rattle.l4_core_model.specs.Runs.{System, at_rest, opening_system}
use Rattle.l4_core_model.specs.Schedules.{Entry, replay_entries}
use Rattle.l4_bisimilar.specs.Shifted.{IsShifted}
use Rattle.l4_explore.specs.Orders.{IsBefore}
use Rattle.l4_explore.specs.Search.{Seen, seen_at, depth_of, IsCutByDepth}
use Rattle.l4_states.specs.Choices.{after_choices, IsLeastRun}
use Rattle.l4_states.specs.Endings.{entries_of, ends_of, led, AreApart, IsAmong}
use Rattle.l4_states.specs.Listed.{IsListed}
use Rattle.l4_persistent.specs.Persistent.{IsPersistent}
use Rattle.l4_persistent.specs.Rests.{processor_of, AreRestsListed, ComesToRest}

-- The replay of entries is a core run, of as many events, to a state at rest. No core run that comes
-- to rest leads to a similar one in fewer events.
pub record IsEnding (m : Machine) (entries : List Entry) : Type 0 where
  pub run : IsLeastRun m (length entries) (led m entries)
  pub events : length (replay_entries m entries).events ≡ length entries
  pub rest : at_rest m (led m entries) ≡ true
  pub shortest : (g : System) (events : ℕ) → ComesToRest m events g → IsShifted (led m entries) g →
      length entries ≤ events

-- These are all endings of core runs of at most so many events that come to rest. Where the search
-- is whole, they are those of all such core runs.
pub record AreAllEndings (m : Machine) (endings : List (List Entry)) (depth : ℕ)
    (is_whole : Bool) : Type 0 where
  pub sound : AllByRecursion (IsEnding m) endings
  pub complete : (g : System) (events : ℕ) → ComesToRest m events g → events ≤ depth →
      IsAmong m endings g
  pub whole : is_whole ≡ true → (g : System) (events : ℕ) → ComesToRest m events g →
      IsAmong m endings g
  pub apart : AreApart m endings

-- So many events lead to a state that is similar to none of these.
pub record IsOneMore (m : Machine) (found : List Seen) (events : ℕ) : Type 0 where
  pub system : System
  pub run : IsLeastRun m events system
  pub new : (i : ℕ) (g : System) → i < length found →
      after_choices m (opening_system m) (seen_at found i).schedule ≡ Some g → IsShifted g system → ⊥

-- A search that is not whole has as many states as it may have, and there is one more.
pub record IsCutByStates (m : Machine) (found : List Seen) (asked most depth : ℕ) : Type 0 where
  pub shallow : depth < asked
  pub full : length found ≡ most
  pub one_more : IsOneMore m found (depth + 1)

-- Or it has come to a state as deep as it may go.
abbrev pub IsCutOff : Machine → (found : List Seen) → (asked most depth : ℕ) → Type 0
IsCutOff m found asked most depth =
    IsCutByDepth found asked depth ⊎ IsCutByStates m found asked most depth

-- What a search by persistent sets has looked at

-- A choice of a processor of the set can be made behind a schedule.
pub record IsPossible (m : Machine) (schedule : List ℕ) (set : ℕ → Bool) : Type 0 where
  pub number : ℕ
  pub inside : set (processor_of m number) ≡ true
  pub system : System
  pub leads : after_choices m (opening_system m) (schedule ++ number ∷ []) ≡ Some system

-- From a found state the search went on by all choices of a persistent set, some if any choice can
-- be made. Each leads to a state that is similar to a found one.
pub record IsGoneOn (m : Machine) (found : List Seen) (seen : Seen) : Type 0 where
  pub system : System
  pub leads : after_choices m (opening_system m) seen.schedule ≡ Some system
  pub set : ℕ → Bool
  pub persistent : IsPersistent m system set
  pub some : IsPossible m seen.schedule (λ cpu. true) → IsPossible m seen.schedule set
  pub all : (number : ℕ) (h : System) → set (processor_of m number) ≡ true →
      after_choices m (opening_system m) (seen.schedule ++ number ∷ []) ≡ Some h →
      IsListed m found h (length seen.schedule + 1)

-- A found schedule leads to a state.
pub record LeadsThere (m : Machine) (seen : Seen) : Type 0 where
  pub system : System
  pub leads : after_choices m (opening_system m) seen.schedule ≡ Some system
  pub run : IsLeastRun m (length seen.schedule) system
  pub is_end : seen.state.is_end ≡ at_rest m system

pub record AreLookedAt (m : Machine) (found : List Seen) (depth : ℕ) (is_whole : Bool) : Type 0 where
  -- the opening is among them
  pub opening : IsListed m found (opening_system m) 0
  pub led : (i : ℕ) → i < length found → LeadsThere m (seen_at found i)
  -- it went on from each state that fewer than `depth` events lead to, and if it is whole, from all
  pub gone_on : (i : ℕ) → i < length found →
      (length (seen_at found i).schedule < depth) ⊎ (is_whole ≡ true) →
      IsGoneOn m found (seen_at found i)
  -- once: no two of them are similar
  pub once : (i j : ℕ) (g h : System) → i < length found → j < length found →
      after_choices m (opening_system m) (seen_at found i).schedule ≡ Some g →
      after_choices m (opening_system m) (seen_at found j).schedule ≡ Some h → IsShifted g h → i ≡ j
  -- in the order of their schedules
  pub rising : (i j : ℕ) → i < j → j < length found →
      IsBefore (seen_at found i).schedule (seen_at found j).schedule

-- Such a search, limited to this depth and this number of states, has looked at so many states. The
-- endings are those at rest, each by the entries that lead there.
pub record AreEndings (m : Machine) (endings : List (List Entry)) (states asked most depth : ℕ)
    (is_whole : Bool) : Type 0 where
  pub found : List Seen
  pub count : states ≡ length found
  pub looked : AreLookedAt m found depth is_whole
  pub rests : AreRestsListed m found depth is_whole
  pub deep : is_whole ≡ true → depth ≡ depth_of found
  pub cut : is_whole ≡ false → IsCutOff m found asked most depth
  pub endings_are : endings ≡ map (entries_of m) (ends_of found)
