-- What a breadth-first search finds, and what is true of it on the way.
use Rattle.std.specs.Prelude.{ℕ, ◌+◌, ◌-◌, ◌<◌, ◌≤◌, ◌≡◌, ◌⊎◌, nat_lt, Bool, true, false, if◌then◌else◌, Option, Some, List, [], ◌∷◌, ◌++◌, length, slice_index_or, take}
use Rattle.std.specs.List.{list_any, AllByRecursion}
use Rattle.std.specs.Str.{bytes_eq}
use Rattle.l4_explore.specs.Orders.{IsBefore, IsNotAfter}
use Rattle.l4_explore.specs.Tries.{State, Next}

-- A state that was found, and a schedule that leads to it.
pub record Seen : Type 0 where
  pub state : State
  pub schedule : List ℕ

-- What `seen_at` gives past the end.
abbrev pub unseen : Seen
unseen = record { state = record { code = []; is_end = false }; schedule = [] }

abbrev pub seen_at : List Seen → ℕ → Seen
seen_at found i = slice_index_or found i unseen

-- The state was found, by a schedule that is not after the given one.
pub record IsFound (found : List Seen) (state : State) (schedule : List ℕ) : Type 0 where
  pub place : ℕ
  pub inside : place < length found
  pub is : (seen_at found place).state ≡ state
  pub early : IsNotAfter (seen_at found place).schedule schedule

-- No two of these states have equal codes.
abbrev pub AreApart : List Seen → Type 0
AreApart found =
    (i j : ℕ) → i < length found → j < length found →
    (seen_at found i).state.code ≡ (seen_at found j).state.code → i ≡ j

pub record AreFound (state_of : List ℕ → Option State) (found : List Seen) : Type 0 where
  -- the opening state is among them
  pub opening : (state : State) → state_of [] ≡ Some state → IsFound found state []
  -- sound: each found state is reached by its schedule
  pub reached : (i : ℕ) → i < length found →
      state_of (seen_at found i).schedule ≡ Some (seen_at found i).state
  -- once: no two found states have equal codes
  pub once : AreApart found
  -- rising: the found states stand in the order of their schedules
  pub rising : (i j : ℕ) → i < j → j < length found →
      IsBefore (seen_at found i).schedule (seen_at found j).schedule

-- What is so of the choices of a found state, whose search has gone on from those before it.
abbrev pub Offers : Type 1
Offers = (before : List Seen) → (seen : Seen) → (choices : List Next) → Type 0

-- Both say the same of all choices.
abbrev pub OfferTheSame : Offers → Offers → Type 0
OfferTheSame a b =
    (before : List Seen) (seen : Seen) (choices : List Next) →
    (a before seen choices → b before seen choices) × (b before seen choices → a before seen choices)

-- Each of these choices of a schedule leads to a found state, which was found no later than by it.
abbrev pub AreMet : List Seen → (schedule : List ℕ) → List Next → Type 0
AreMet found schedule choices =
    AllByRecursion (λ n. IsFound found n.state (schedule ++ n.entry ∷ [])) choices

-- The search went on from the state at a place: it met all choices that it had there.
pub record IsGoneOn (offers : Offers) (found : List Seen) (i : ℕ) : Type 0 where
  pub choices : List Next
  pub offered : offers (take i found) (seen_at found i) choices
  pub all_met : AreMet found (seen_at found i).schedule choices

abbrev pub AreWithin : List Seen → ℕ → Type 0
AreWithin found depth = (i : ℕ) → i < length found → length (seen_at found i).schedule ≤ depth

-- What a search finds: the opening state, and with a state all that its choices lead to. It goes on
-- from each state that fewer than `depth` entries lead to, and if it is whole, from all.
pub record IsExplored (state_of : List ℕ → Option State) (offers : Offers) (found : List Seen)
    (depth : ℕ) (is_whole : Bool) : Type 0 where
  pub all : AreFound state_of found
  pub gone_on : (i : ℕ) → i < length found →
      (length (seen_at found i).schedule < depth) ⊎ (is_whole ≡ true) → IsGoneOn offers found i
  pub near : AreWithin found (depth + 1)

-- How many entries the longest schedule has.
abbrev pub depth_of : List Seen → ℕ
depth_of found = length (seen_at found (length found - 1)).schedule

-- Why a search is not whole: the longest schedule has as many entries as it may have ..
pub record IsCutByDepth (found : List Seen) (depth reached : ℕ) : Type 0 where
  pub all : reached ≡ depth
  pub deep : depth_of found ≡ depth

-- A choice of the state at a place leads to a state that was not found. The search met all choices
-- before it, and all found states are before it in their order.
pub record IsStopped (state_of : List ℕ → Option State) (offers : Offers) (found : List Seen)
    (place : ℕ) : Type 0 where
  pub inside : place < length found
  pub gone_on : (i : ℕ) → i < place → IsGoneOn offers found i
  pub first : List Next
  pub one_more : Next
  pub others : List Next
  pub offered : offers (take place found) (seen_at found place) (first ++ one_more ∷ others)
  pub all_met : AreMet found (seen_at found place).schedule first
  pub leads :
      state_of ((seen_at found place).schedule ++ one_more.entry ∷ []) ≡ Some one_more.state
  pub new : (i : ℕ) → i < length found → (seen_at found i).state.code ≡ one_more.state.code → ⊥
  pub before : (i : ℕ) → i < length found →
      IsBefore (seen_at found i).schedule ((seen_at found place).schedule ++ one_more.entry ∷ [])

-- .. or the search found as many states as were asked for, and one more choice leads to a new one.
pub record IsCutByStates (state_of : List ℕ → Option State) (offers : Offers) (found : List Seen)
    (depth most reached : ℕ) : Type 0 where
  pub shallow : reached < depth
  pub full : length found ≡ most
  pub place : ℕ
  pub far : length (seen_at found place).schedule ≡ reached
  pub stopped : IsStopped state_of offers found place

abbrev pub IsCut : (List ℕ → Option State) → Offers → List Seen → (depth most reached : ℕ) → Type 0
IsCut state_of offers found depth most reached =
    IsCutByDepth found depth reached ⊎ IsCutByStates state_of offers found depth most reached

-- On the way

-- Whether a state with this code was found.
abbrev pub has_code : List Seen → List ℕ → Bool
has_code found code = list_any (λ s. bytes_eq code s.state.code) found

-- What one more entry leads to from the state at a place.
abbrev pub seen_next : List Seen → (from : ℕ) → Next → Seen
seen_next found from n =
    record { state = n.state; schedule = (seen_at found from).schedule ++ n.entry ∷ [] }

-- The found states after one more entry led to a state. False if that state is new and there is no
-- room for it.
abbrev pub met : List Seen → (from most : ℕ) → Next → List Seen × Bool
met found from most n =
    if has_code found n.state.code then (found, true)
    else if nat_lt (length found) most then (found ++ seen_next found from n ∷ [], true)
    else (found, false)

-- The search has gone on from the found states before `next`. All found states are before those
-- that come next.
pub record IsSearched (state_of : List ℕ → Option State) (offers : Offers) (found : List Seen)
    (next : ℕ) : Type 0 where
  pub all : AreFound state_of found
  pub within : next ≤ length found
  pub gone_on : (i : ℕ) → i < next → IsGoneOn offers found i
  pub before : (j e : ℕ) → next < length found → j < length found →
      IsBefore (seen_at found j).schedule ((seen_at found next).schedule ++ e ∷ [])
