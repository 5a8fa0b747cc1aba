-- What the search of this crate has of worlds and of what was found.
use Rattle.std.specs.Prelude.{ℕ, ◌≡◌, ◌⊎◌, ◌<◌, ◌≤◌, ◌+◌, true, Some, List, length}
use Rattle.l4_model.specs.Machine.{Machine}
use Rattle.l4_model.specs.World.{World}
use Rattle.l4_model.specs.Steps.{Step}
use Rattle.l4_explore.specs.Tries.{Next, deepest}
use Rattle.l4_explore.specs.Search.{Seen, seen_at}
use Rattle.l4_futures.specs.Choices.{choice_at, world_after}
use Rattle.l4_forever.specs.Inner.Walks.{all_nexts}
use Rattle.l4_all_endings.specs.Tried.{next_at}
use Rattle.l4_invariants.specs.Inner.Reads.{Reads, goes_unseen}
use Rattle.l4_invariants.specs.Inner.Searched.{IsLone}

-- The choices of a found state, to whose world these entries lead: all that are possible, or one
-- alone that the condition does not see and that does not lead back.
pub record AreWatchedAfter (m : Machine) (reads : Reads) (before : List Seen) (seen : Seen)
    (entries : List ℕ) (choices : List Next) : Type 0 where
  pub world : World
  pub leads : world_after m entries ≡ Some world
  pub are : (choices ≡ all_nexts m world) ⊎ IsLone m reads before seen world choices

-- They are all that are possible, in any case.
pub record AreAllAfter (m : Machine) (entries : List ℕ) (choices : List Next) : Type 0 where
  pub world : World
  pub leads : world_after m entries ≡ Some world
  pub are : choices ≡ all_nexts m world

-- The choice of an entry goes unseen, and leads to this state.
pub record IsUnseenBy (m : Machine) (reads : Reads) (w : World) (entry : ℕ) (next : Next) :
    Type 0 where
  pub step : Step
  pub is : choice_at m w entry ≡ Some (record { entry = entry; step = step })
  pub unseen : goes_unseen m reads w step ≡ true
  pub leads : next_at m w entry ≡ Some next

-- The histories of the schedules have room on the clocks.
abbrev pub AreShort : List Seen → Type 0
AreShort found = (i : ℕ) → i < length found → length (seen_at found i).schedule ≤ deepest + 1
