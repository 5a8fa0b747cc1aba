-- A thread that is stuck for ever.
use Rattle.std.specs.Prelude.{ℕ, ◌≡◌, true, Some, List}
use Rattle.l4_model.specs.Machine.{Machine}
use Rattle.l4_model.specs.World.{World}
use Rattle.l4_model.specs.Steps.{Step}
use Rattle.l4_model.specs.History.{reached}
use Rattle.l4_worlds.specs.Timeless.{timeless}
use Rattle.l4_worlds.specs.Late.{run_late}
use Rattle.l4_forever.specs.Waits.{wait_at, is_waiting}

-- The thread at this place waits, and in each world that may come, whatever time passes, it waits in
-- the same phase. (It can't have left the phase between: there it would not wait so.)
pub record WaitsForEver (m : Machine) (w : World) (place : ℕ) : Type 0 where
  pub waits : is_waiting (wait_at w place) ≡ true
  pub stays : (steps : List Step) (v : World) → run_late m w steps ≡ Some v →
      wait_at v place ≡ wait_at w place

-- So it is after this history.
pub record IsStuckForEver (m : Machine) (h : List Step) (place : ℕ) : Type 0 where
  pub world : World
  pub reaches : reached m h ≡ Some world
  pub for_ever : WaitsForEver m (timeless world) place
