-- What a search finds that leaves out choices, but none that an end needs: all ends.
use Rattle.std.specs.Prelude.{ℕ, ◌+◌, ◌<◌, ◌≤◌, ◌≡◌, ◌⊎◌, Bool, true, List, [], ◌∷◌, length}
use Rattle.l4_explore.specs.Tries.{State, Next}
use Rattle.l4_explore.specs.Search.{Seen, seen_at, Offers}

-- From a state so many more entries may lead to an end.
abbrev pub EndsIn : Type 1
EndsIn = (state : State) → (more : ℕ) → (end : State) → Type 0

-- One of these choices is nearer to the end.
abbrev pub IsNearer : EndsIn → List Next → (more : ℕ) → (end : State) → Type 0
IsNearer ends_in [] more end = ⊥
IsNearer ends_in (n ∷ ns) more end = ends_in n.state more end ⊎ IsNearer ends_in ns more end

-- Whichever end more entries may lead to from a found state, one of its choices is nearer to it.
abbrev pub AreEnough : EndsIn → (before : List Seen) → (seen : Seen) → (choices : List Next) →
    Type 0
AreEnough ends_in before seen choices =
    (more : ℕ) (end : State) → ends_in seen.state (more + 1) end →
    IsNearer ends_in choices more end

-- Where no more entries are needed, the state is the end. Else the choices that are offered are
-- enough.
pub record AreKept (ends_in : EndsIn) (offers : Offers) : Type 0 where
  pub here : (state end : State) → ends_in state 0 end → state ≡ end
  pub nearer : (before : List Seen) (seen : Seen) (choices : List Next) →
      offers before seen choices → AreEnough ends_in before seen choices

-- The state was found, by a schedule of at most so many entries.
pub record IsFoundIn (found : List Seen) (state : State) (entries : ℕ) : Type 0 where
  pub place : ℕ
  pub inside : place < length found
  pub is : (seen_at found place).state ≡ state
  pub short : length (seen_at found place).schedule ≤ entries

-- The ends that at most `depth` entries may lead to. If the search is whole, more entries lead to no
-- more ends.
pub record AreAllEnds (ends_in : EndsIn) (opening : State) (found : List Seen) (depth : ℕ)
    (is_whole : Bool) : Type 0 where
  -- complete: each such end is found, by no more entries than may lead there
  pub complete : (entries : ℕ) (end : State) → ends_in opening entries end → entries ≤ depth →
      IsFoundIn found end entries
  pub whole : is_whole ≡ true → (entries : ℕ) (end : State) → ends_in opening entries end →
      IsFoundIn found end entries
  -- shortest: no fewer entries may lead to a found end
  pub shortest : (i entries : ℕ) → i < length found →
      ends_in opening entries (seen_at found i).state →
      length (seen_at found i).schedule ≤ entries
