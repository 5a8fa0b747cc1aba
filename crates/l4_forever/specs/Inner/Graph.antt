-- Found states, and the steps that lead from one to another.
use Rattle.std.specs.Prelude.{ℕ, ◌≡◌, ◌<◌, ◌⊎◌, true, Some, List, length, slice_get}
use Rattle.l4_model.specs.Machine.{Machine}
use Rattle.l4_model.specs.World.{World, opening}
use Rattle.l4_model.specs.Steps.{Step}
use Rattle.l4_worlds.specs.Late.{next_late}
use Rattle.l4_first.specs.First.{stands_alone}
use Rattle.l4_explore.specs.Search.{Seen, seen_at}
use Rattle.l4_futures.specs.Choices.{world_after}
use Rattle.l4_futures.specs.Inner.Search.{state_after, state_in}
use Rattle.l4_forever.specs.declared.edges.Edge.{Edge}

-- Each found state is the one that its schedule leads to.
abbrev pub AreReached : Machine → List Seen → Type 0
AreReached m found =
    (i : ℕ) → i < length found →
    state_after m (seen_at found i).schedule ≡ Some (seen_at found i).state

-- The world at a place: the schedule of the state leads there.
pub record IsWorldAt (m : Machine) (found : List Seen) (place : ℕ) (w : World) : Type 0 where
  pub inside : place < length found
  pub leads : world_after m (seen_at found place).schedule ≡ Some w

-- The state of a world stands at a place.
pub record StandsAt (m : Machine) (found : List Seen) (w : World) (place : ℕ) : Type 0 where
  pub inside : place < length found
  pub is : state_in m w ≡ (seen_at found place).state

abbrev pub HasEdge : List Edge → (from to : ℕ) → Type 0
HasEdge edges from to = (k : ℕ) × (slice_get edges k ≡ Some (record { from = from; to = to }))

-- An edge leads from a place to that of the state of this world.
pub record GoesTo (m : Machine) (found : List Seen) (edges : List Edge) (from : ℕ)
    (w : World) : Type 0 where
  pub to : ℕ
  pub edge : HasEdge edges from to
  pub there : StandsAt m found w to

-- By each step that is possible in the world at a place an edge goes on from there ..
abbrev pub AllGo : Machine → List Seen → List Edge → (from : ℕ) → World → Type 0
AllGo m found edges from w =
    (step : Step) (v : World) → next_late m w step ≡ Some v → GoesTo m found edges from v

-- .. or by a step that stands alone, to a later place.
pub record OneGoes (m : Machine) (found : List Seen) (edges : List Edge) (from : ℕ)
    (w : World) : Type 0 where
  pub step : Step
  pub alone : stands_alone m step ≡ true
  pub behind : World
  pub possible : next_late m w step ≡ Some behind
  pub goes : GoesTo m found edges from behind
  pub later : from < goes.to

pub record IsGoneOn (m : Machine) (found : List Seen) (edges : List Edge)
    (from : ℕ) : Type 0 where
  pub world : World
  pub at : IsWorldAt m found from world
  pub goes : AllGo m found edges from world ⊎ OneGoes m found edges from world

-- The opening is found, and from each place edges go on.
pub record IsGraph (m : Machine) (found : List Seen) (edges : List Edge) : Type 0 where
  pub first : ℕ
  pub opening : StandsAt m found (opening m) first
  pub gone_on : (i : ℕ) → i < length found → IsGoneOn m found edges i
