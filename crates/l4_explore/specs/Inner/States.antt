-- What a search finds that tries all entries: all states that schedules lead to.
use Rattle.std.specs.Prelude.{ℕ, ◌+◌, ◌<◌, ◌≤◌, ◌≡◌, ◌⊎◌, Bool, true, Option, Some, List, length}
use Rattle.l4_explore.specs.Orders.{IsBefore, IsNotAfter}
use Rattle.l4_explore.specs.Tries.{State, Next, AreNexts, StandsForAll}
use Rattle.l4_explore.specs.Search.{Seen, seen_at, IsCutByDepth, IsFound}

-- The choices of a state are all entries that lead on, and its schedule stands for all that lead
-- there.
pub record AreAllEntries (state_of : List ℕ → Option State) (before : List Seen) (seen : Seen)
    (choices : List Next) : Type 0 where
  pub nexts : AreNexts state_of seen.schedule 0 choices
  pub stands : StandsForAll state_of seen.schedule

-- The states that schedules of at most `depth` entries lead to. If the search is whole, longer
-- schedules lead to no more states.
pub record AreAllStates (state_of : List ℕ → Option State) (found : List Seen) (depth : ℕ)
    (is_whole : Bool) : Type 0 where
  -- complete: each state that such a schedule leads to is found
  pub complete : (s : List ℕ) (state : State) → state_of s ≡ Some state → length s ≤ depth →
      IsFound found state s
  pub whole : is_whole ≡ true → (s : List ℕ) (state : State) → state_of s ≡ Some state →
      IsFound found state s
  -- sound: each found state is reached by its schedule
  pub reached : (i : ℕ) → i < length found →
      state_of (seen_at found i).schedule ≡ Some (seen_at found i).state
  -- first: of all schedules that lead to a found state, its own is the first
  pub first : (i : ℕ) (s : List ℕ) → i < length found → state_of s ≡ Some (seen_at found i).state →
      IsNotAfter (seen_at found i).schedule s
  -- once: no two found states have equal codes
  pub once : (i j : ℕ) → i < length found → j < length found →
      (seen_at found i).state.code ≡ (seen_at found j).state.code → i ≡ j
  -- rising: the found states stand in the order of their schedules
  pub rising : (i j : ℕ) → i < j → j < length found →
      IsBefore (seen_at found i).schedule (seen_at found j).schedule

-- This schedule leads to a state that was not found, though every state that an earlier schedule
-- leads to was found.
pub record IsLeftOut (state_of : List ℕ → Option State) (found : List Seen)
    (schedule : List ℕ) : Type 0 where
  pub state : State
  pub leads : state_of schedule ≡ Some state
  pub new : (i : ℕ) → i < length found → (seen_at found i).state ≡ state → ⊥
  pub before : (s : List ℕ) (other : State) → state_of s ≡ Some other → IsBefore s schedule →
      IsFound found other s

-- The search found as many states as were asked for, and left out one more state.
pub record IsFull (state_of : List ℕ → Option State) (found : List Seen)
    (depth most reached : ℕ) : Type 0 where
  pub shallow : reached < depth
  pub full : length found ≡ most
  pub schedule : List ℕ
  pub long : length schedule ≡ reached + 1
  pub one_more : IsLeftOut state_of found schedule

-- Why not all states were found.
abbrev pub AreCut : (state_of : List ℕ → Option State) → List Seen → (depth most reached : ℕ) →
    Type 0
AreCut state_of found depth most reached =
    IsCutByDepth found depth reached ⊎ IsFull state_of found depth most reached
