-- What is known of found worlds: in which phases their threads wait, and the steps between them.
use Rattle.std.specs.Prelude.{ℕ, ◌≡◌, ◌<◌, ◌≤◌, ◌⊎◌, Bool, true, false, Some, List, [], length, slice_get, slice_index_or}
use Rattle.l4_model.specs.Machine.{Machine}
use Rattle.l4_model.specs.World.{World}
use Rattle.l4_model.specs.Steps.{Step}
use Rattle.l4_worlds.specs.Late.{next_late}
use Rattle.l4_explore.specs.Search.{Seen, has_code}
use Rattle.l4_futures.specs.Inner.Search.{state_in}
use Rattle.l4_forever.specs.Waits.{waits_in, is_waiting}
use Rattle.l4_forever.specs.Inner.Graph.{GoesTo, IsWorldAt, StandsAt}
use Rattle.l4_forever.specs.Moves.{moves_at}
use Rattle.l4_forever.specs.declared.edges.Edge.{Edge}
use Rattle.l4_forever.specs.declared.waits.Wait.{Wait}
use Rattle.l4_forever.specs.declared.waits.Wait.TheVariants.{Neither}

-- For each place a row: in which phase each thread waits there.

abbrev pub row_at : List (List Wait) → (place : ℕ) → List Wait
row_at rows place = slice_index_or rows place []

abbrev pub wait_by : List (List Wait) → (place thread : ℕ) → Wait
wait_by rows place thread = slice_index_or (row_at rows place) thread Neither

-- A step leads from the world at a place to one whose state stands at another.
pub record IsEdge (m : Machine) (found : List Seen) (from to : ℕ) : Type 0 where
  pub world : World
  pub at : IsWorldAt m found from world
  pub step : Step
  pub behind : World
  pub goes : next_late m world step ≡ Some behind
  pub there : StandsAt m found behind to

-- From a place an edge leads to each found state that a step comes to.
pub record HasAll (m : Machine) (found : List Seen) (edges : List Edge) (place : ℕ) : Type 0 where
  pub world : World
  pub at : IsWorldAt m found place world
  pub all : (step : Step) (v : World) → next_late m world step ≡ Some v →
      has_code found (state_in m v).code ≡ true → GoesTo m found edges place v

-- The rows and the edges of what was found.
pub record AreOf (m : Machine) (found : List Seen) (rows : List (List Wait))
    (edges : List Edge) : Type 0 where
  pub counted : length rows ≡ length found
  pub waits : (i : ℕ) (w : World) → IsWorldAt m found i w → row_at rows i ≡ waits_in w
  pub steps : (k : ℕ) (e : Edge) → slice_get edges k ≡ Some e → IsEdge m found e.from e.to
  pub all : (i : ℕ) → i < length found → HasAll m found edges i

-- How marks spread: where a thread waits and a search has gone on from all that is known, a place is
-- not marked at first ..
pub record AreStarted (rows : List (List Wait)) (known thread : ℕ) (moves : List Bool) :
    Type 0 where
  pub free : (place : ℕ) → moves_at moves place ≡ false →
      (place < known) × (is_waiting (wait_by rows place thread) ≡ true)
  pub marked : (place : ℕ) → place < known → moves_at moves place ≡ true →
      is_waiting (wait_by rows place thread) ≡ false

-- .. and one from which an edge leads to a marked place, or to one where the thread does not wait as
-- here, is marked in the end.

abbrev pub IsLedOn : List (List Wait) → (thread : ℕ) → (moves : List Bool) → Edge → Type 0
IsLedOn rows thread moves e =
    (moves_at moves e.to ≡ true) ⊎ (wait_by rows e.from thread ≡ wait_by rows e.to thread → ⊥)

abbrev pub AreSpread : List (List Wait) → List Edge → (thread : ℕ) → (moves : List Bool) → Type 0
AreSpread rows edges thread moves =
    (k : ℕ) (e : Edge) → slice_get edges k ≡ Some e → moves_at moves e.from ≡ false →
    (moves_at moves e.to ≡ false) × (wait_by rows e.from thread ≡ wait_by rows e.to thread)
