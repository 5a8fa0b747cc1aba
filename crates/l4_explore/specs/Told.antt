-- What a listener is told of the ends that a search finds.
use Rattle.std.specs.Prelude.{ℕ, ◌≤◌, ◌≡◌, ◌⊎◌, Bool, true, false, Option, List, [], filter, length, take}
use Rattle.l4_explore.specs.Tries.{State}
use Rattle.l4_explore.specs.Search.{Seen, IsExplored, Offers}

-- The ends among found states, in their order.
abbrev pub ends_among : List Seen → List Seen
ends_among found = filter (λ s. s.state.is_end) found

-- What being told of these ends may do to a listener. `more` says whether it wants to hear of more.
abbrev pub Hears : Type 1
Hears = (ends : List Seen) → (more : Bool) → Type 0

-- A search of at most so many entries that was not carried to its end has found states as one does
-- that is cut. The listener was told of the first of the ends among them, in their order: of all, if
-- it wants to hear of more.
pub record HasBegun (state_of : List ℕ → Option State) (offers : Offers) (asked : ℕ)
    (hears : Hears) (more : Bool) : Type 0 where
  pub found : List Seen
  pub depth : ℕ
  pub shallow : depth ≤ asked
  -- none was found where there was no memory for the opening state
  pub explored : (found ≡ []) ⊎ IsExplored state_of offers found depth false
  -- so many of them
  pub count : ℕ
  pub within : count ≤ length (ends_among found)
  pub all : more ≡ true → count ≡ length (ends_among found)
  pub told : hears (take count (ends_among found)) more
