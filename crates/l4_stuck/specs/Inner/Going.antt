-- What the code of this crate has of worlds and of what was found.
use Rattle.std.specs.Prelude.{ℕ, ◌≡◌, ◌⊎◌, ◌+◌, ◌^◌, ◌<◌, Bool, true, false, Option, None, Some, List, [], ◌∷◌, ◌++◌, length, map, slice_get, slice_set}
use Rattle.l4_model.specs.Machine.{Machine}
use Rattle.l4_model.specs.World.{World}
use Rattle.l4_explore.specs.Tries.{Next}
use Rattle.l4_explore.specs.Search.{Seen, seen_at, has_code}
use Rattle.l4_futures.specs.Choices.{after_entry, possible, world_after}
use Rattle.l4_futures.specs.Inner.Search.{nexts, state_in}
use Rattle.l4_forever.specs.Inner.Graph.{GoesTo, IsWorldAt}
use Rattle.l4_forever.specs.Inner.Rows.{wait_by, IsEdge, IsLedOn, AreOf}
use Rattle.l4_forever.specs.Moves.{moves_at}
use Rattle.l4_forever.specs.Inner.Walks.{all_nexts, are_fresh}
use Rattle.l4_forever.specs.declared.edges.Edge.{Edge}
use Rattle.l4_forever.specs.declared.waits.Wait.{Wait}
use Rattle.l4_outlooks.specs.Inner.Foreseen.{Foreseen}
use Rattle.l4_stuck.specs.declared.graph.Graph.{Graph}

-- Choices

-- The choices of a found state, to whose world these entries lead: all that are possible, or those
-- that a search of endings tries, where none leads back.
pub record AreWalkedAfter (m : Machine) (before : List Seen) (seen : Seen) (entries : List ℕ)
    (choices : List Next) : Type 0 where
  pub world : World
  pub leads : world_after m entries ≡ Some world
  pub are : (choices ≡ all_nexts m world)
      ⊎ ((choices ≡ nexts m world) × (are_fresh before seen choices ≡ true))

-- Graphs

abbrev pub rows_of : Graph → List (List Wait)
rows_of g = map (λ row. row.items) g.waits.items

abbrev pub IsGraphOf : Machine → List Seen → Graph → Type 0
IsGraphOf m found g = AreOf m found (rows_of g) g.edges.items

-- The schedule of each found state has room on the clocks for one step more.
abbrev pub AreShort : List Seen → Type 0
AreShort found = (i : ℕ) → i < length found → length (seen_at found i).schedule + 1 < 2 ^ 20

-- The world at a place, with room for one step more.
pub record IsOutlookAt (m : Machine) (found : List Seen) (place : ℕ) (o : Foreseen) : Type 0 where
  pub machine : o.machine ≡ m
  pub at : IsWorldAt m found place o.world
  pub room : o.taken + 1 < 2 ^ 20

-- One more edge, to the state behind an entry; or none, where that was not found.

pub record IsEdgeAdded (m : Machine) (found : List Seen) (place : ℕ) (w v : World)
    (old new : List Edge) (to : ℕ) : Type 0 where
  pub added : new ≡ old ++ record { from = place; to = to } ∷ []
  pub edge : IsEdge m found place to
  pub goes : GoesTo m found new place v

abbrev pub IsAdded : (m : Machine) (found : List Seen) (place : ℕ) (w v : World) →
    (old new : List Edge) → Option ℕ → Type 0
IsAdded m found place w v old new (Some to) = IsEdgeAdded m found place w v old new to
IsAdded m found place w v old new None =
    (new ≡ old) × (has_code found (state_in m v).code ≡ false)

-- More edges, each of a step from this place.
pub record AreAdded (m : Machine) (found : List Seen) (place : ℕ) (old new : List Edge) :
    Type 0 where
  pub more : List Edge
  pub added : new ≡ old ++ more
  pub edges : (k : ℕ) (e : Edge) → slice_get more k ≡ Some e →
      (e.from ≡ place) × IsEdge m found e.from e.to

-- Of the possible choices below a number each has its edge, where the state behind it was found.
abbrev pub HaveEdges : Machine → List Seen → List Edge → (place : ℕ) → World → (count : ℕ) → Type 0
HaveEdges m found edges place w count =
    (j : ℕ) (entry : ℕ) (v : World) → j < count →
    slice_get (map (λ c. c.entry) (possible m w)) j ≡ Some entry →
    after_entry m w entry ≡ Some v → has_code found (state_in m v).code ≡ true →
    GoesTo m found edges place v

-- All edges from a place were added.
pub record IsLeft (m : Machine) (found : List Seen) (place : ℕ) (w : World)
    (old new : List Edge) : Type 0 where
  pub added : AreAdded m found place old new
  pub all : HaveEdges m found new place w (length (possible m w))

-- Marks

-- How many places are not marked.
abbrev pub unmarked : List Bool → ℕ
unmarked [] = 0
unmarked (true ∷ moves) = unmarked moves
unmarked (false ∷ moves) = 1 + unmarked moves

-- The place that an edge comes from is marked now, since it leads on.
pub record IsMarkedBy (rows : List (List Wait)) (thread : ℕ) (edge : Edge)
    (old new : List Bool) : Type 0 where
  pub inside : edge.from < length old
  pub free : moves_at old edge.from ≡ false
  pub led : IsLedOn rows thread old edge
  pub marked : new ≡ slice_set old edge.from true

-- The place that an edge comes from is marked, or the edge does not lead on.
abbrev pub IsSpread : List (List Wait) → (thread : ℕ) → (moves : List Bool) → Edge → Type 0
IsSpread rows thread moves edge =
    moves_at moves edge.from ≡ false →
    (moves_at moves edge.to ≡ false)
    × (wait_by rows edge.from thread ≡ wait_by rows edge.to thread)
