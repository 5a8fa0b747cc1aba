-- What a search goes on by that judges a condition in each world that it looks at.
use Rattle.std.specs.Prelude.{ℕ, ◌≡◌, ◌≤◌, ◌⊎◌, Bool, true, false, Some, List, [], ◌∷◌, length, slice_get}
use Rattle.l4_model.specs.Machine.{Machine}
use Rattle.l4_model.specs.World.{World}
use Rattle.l4_explore.specs.Tries.{Next}
use Rattle.l4_explore.specs.Search.{Seen, seen_at}
use Rattle.l4_futures.specs.Choices.{Choice, possible, world_after}
use Rattle.l4_futures.specs.Inner.Search.{next_by, state_in}
use Rattle.l4_forever.specs.Inner.Graph.{IsWorldAt}
use Rattle.l4_forever.specs.Inner.Walks.{all_nexts, is_fresh}
use Rattle.l4_invariants.specs.Inner.Reads.{Reads, goes_unseen}

-- One choice alone: its step goes unseen, and it leads to a state that is neither this one nor one
-- of those before it.
pub record IsLone (m : Machine) (reads : Reads) (before : List Seen) (seen : Seen) (w : World)
    (choices : List Next) : Type 0 where
  pub place : ℕ
  pub choice : Choice
  pub is_possible : slice_get (possible m w) place ≡ Some choice
  pub unseen : goes_unseen m reads w choice.step ≡ true
  pub next : Next
  pub leads : next_by m w choice ≡ Some next
  pub fresh : is_fresh before seen next ≡ true
  pub are : choices ≡ next ∷ []

-- The choices of a found state, after the search has gone on from those before it: all that are
-- possible, or one alone that the condition does not see and that does not lead back.
pub record AreWatched (m : Machine) (reads : Reads) (before : List Seen) (seen : Seen)
    (choices : List Next) : Type 0 where
  pub world : World
  pub leads : world_after m seen.schedule ≡ Some world
  pub is : state_in m world ≡ seen.state
  pub are : (choices ≡ all_nexts m world) ⊎ IsLone m reads before seen world choices

-- The choices are all that are possible, in any case.
pub record AreAllTried (m : Machine) (before : List Seen) (seen : Seen) (choices : List Next) :
    Type 0 where
  pub world : World
  pub leads : world_after m seen.schedule ≡ Some world
  pub is : state_in m world ≡ seen.state
  pub are : choices ≡ all_nexts m world

-- No found world meets a condition, the opening among them.
abbrev pub IsNoneMet : Machine → List Seen → (condition : World → Bool) → Type 0
IsNoneMet m found condition =
    (place : ℕ) (w : World) → IsWorldAt m found place w → condition w ≡ false

-- The world at a place meets it, and none that has a shorter schedule does.
pub record IsFirstMet (m : Machine) (found : List Seen) (condition : World → Bool)
    (place : ℕ) : Type 0 where
  pub world : World
  pub at : IsWorldAt m found place world
  pub met : condition world ≡ true
  pub first : (other : ℕ) (v : World) → IsWorldAt m found other v → condition v ≡ true →
      length (seen_at found place).schedule ≤ length (seen_at found other).schedule
