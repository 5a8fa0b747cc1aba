-- Threads that may get stuck for ever.
use Rattle.std.specs.Prelude.{ℕ, ◌≡◌, ◌<◌, ◌+◌, ◌⊎◌, Bool, true, Some, List, length, map, slice_get}
use Rattle.l4_model.specs.Machine.{Machine}
use Rattle.l4_model.specs.World.{opening}
use Rattle.l4_model.specs.Steps.{Step}
use Rattle.l4_explore.specs.Search.{Seen}
use Rattle.l4_forever.specs.Inner.Graph.{StandsAt}
use Rattle.l4_futures.specs.Endings.{AreWorlds, IsCutByDepth, IsCutByWorlds}
use Rattle.l4_futures.specs.Traces.{trace_along}
use Rattle.l4_forever.specs.Forever.{IsStuckForEver}
use Rattle.l4_forever.specs.Moves.{IsNeverStuck}
use Rattle.l4_all_endings.specs.Tried.{LeadsToWorld}
use Rattle.l4_stuck.specs.declared.search.StuckThread.{StuckThread}

-- The opening is among what was found.
pub record IsFirst (m : Machine) (found : List Seen) : Type 0 where
  pub place : ℕ
  pub there : StandsAt m found (opening m) place

-- A thread, by its place in the order of declaration, and the entries after which it is stuck.
pub record Stuck : Type 0 where
  pub thread : ℕ
  pub entries : List ℕ

abbrev pub stuck_from : StuckThread → Stuck
stuck_from s = record { thread = s.thread; entries = s.entries.items }

abbrev pub stuck_of : List StuckThread → List Stuck
stuck_of threads = map stuck_from threads

-- A history of these entries makes the thread stuck for ever.
pub record IsStuck (m : Machine) (s : Stuck) : Type 0 where
  pub led : LeadsToWorld m s.entries
  pub stuck : IsStuckForEver m (trace_along m s.entries) s.thread

-- What a search has found of the threads below a place.
pub record AreStuckBelow (m : Machine) (found : List Stuck) (is_whole : Bool) (below : ℕ) :
    Type 0 where
  -- sound: each of them gets stuck for ever by its entries
  pub sound : (k : ℕ) (s : Stuck) → slice_get found k ≡ Some s → (s.thread < below) × IsStuck m s
  -- complete: where the search is whole, no history makes another one stuck for ever
  pub complete : is_whole ≡ true → (thread : ℕ) → thread < below →
      ((k : ℕ) (s : Stuck) → slice_get found k ≡ Some s → s.thread ≡ thread → ⊥) →
      IsNeverStuck m thread
  -- once: they stand in order of declaration
  pub rising : (i j : ℕ) (s t : Stuck) → i < j → slice_get found i ≡ Some s →
      slice_get found j ≡ Some t → s.thread < t.thread

-- The threads of a machine that may get stuck for ever, each once. Where the search was cut, there
-- may be more.
abbrev pub AreStuckThreads : Machine → List Stuck → (is_whole : Bool) → Type 0
AreStuckThreads m found is_whole = AreStuckBelow m found is_whole (length m.threads)

-- Why a search of at most `asked` steps but ticks and `most` worlds was cut: a history that it looked
-- at has as many steps as it may take, or there is one world more than it may keep.
pub record IsCutOff (m : Machine) (asked most : ℕ) : Type 0 where
  pub histories : List (List Step)
  pub depth : ℕ
  pub are : AreWorlds m histories (depth + 1)
  pub cut :
      IsCutByDepth histories asked depth ⊎ IsCutByWorlds m (length histories) asked most depth
