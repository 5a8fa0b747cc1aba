-- Places from which a thread may yet do something.
use Rattle.std.specs.Prelude.{ℕ, ◌≡◌, ◌⊎◌, Bool, true, false, Some, List, slice_index_or}
use Rattle.l4_model.specs.Machine.{Machine}
use Rattle.l4_model.specs.World.{World}
use Rattle.l4_model.specs.Steps.{Step}
use Rattle.l4_worlds.specs.Late.{run_late}
use Rattle.l4_explore.specs.Search.{Seen}
use Rattle.l4_forever.specs.Waits.{wait_at, is_waiting}
use Rattle.l4_forever.specs.Forever.{IsStuckForEver}
use Rattle.l4_forever.specs.Inner.Graph.{HasEdge, IsGoneOn, IsWorldAt}
use Rattle.l4_forever.specs.declared.edges.Edge.{Edge}

-- Whether a place is marked. Past the end all are.
abbrev pub moves_at : List Bool → (place : ℕ) → Bool
moves_at moves place = slice_index_or moves place true

-- From this world steps lead to one where the thread does not wait as it does here.
pub record Moves (m : Machine) (w : World) (thread : ℕ) : Type 0 where
  pub steps : List Step
  pub last : World
  pub leads : run_late m w steps ≡ Some last
  pub moved : wait_at last thread ≡ wait_at w thread → ⊥

-- The thread does not wait in a world, or may yet do something else.
abbrev pub MayMove : Machine → World → (thread : ℕ) → Type 0
MayMove m w thread = (is_waiting (wait_at w thread) ≡ false) ⊎ Moves m w thread

-- Each marked place is one where that is so.
abbrev pub AreJustified : Machine → List Seen → (thread : ℕ) → (moves : List Bool) → Type 0
AreJustified m found thread moves =
    (i : ℕ) (w : World) → IsWorldAt m found i w → moves_at moves i ≡ true → MayMove m w thread

-- At this place the thread waits, and edges lead to places alone that are not marked and where it
-- waits in the same phase.
pub record HoldsAt (m : Machine) (found : List Seen) (edges : List Edge) (thread : ℕ)
    (moves : List Bool) (place : ℕ) : Type 0 where
  pub on : IsGoneOn m found edges place
  pub waits : is_waiting (wait_at on.world thread) ≡ true
  pub stays : (to : ℕ) → HasEdge edges place to → moves_at moves to ≡ false
  pub same : (to : ℕ) (v : World) → HasEdge edges place to → IsWorldAt m found to v →
      wait_at v thread ≡ wait_at on.world thread

-- So it is at each place that is not marked.
abbrev pub StandsStill : Machine → List Seen → List Edge → (thread : ℕ) → (moves : List Bool) →
    Type 0
StandsStill m found edges thread moves =
    (place : ℕ) → moves_at moves place ≡ false → HoldsAt m found edges thread moves place

-- No history makes the thread stuck for ever.
abbrev pub IsNeverStuck : Machine → (thread : ℕ) → Type 0
IsNeverStuck m thread = (h : List Step) → IsStuckForEver m h thread → ⊥
