-- What the worlds have in common that core runs to similar states reach: to shifted ones.
use Rattle.std.specs.Prelude.{ℕ, ◌<◌, ◌≡◌, ◌⊎◌, true, Some, length, slice_index_or}
use Rattle.std.specs.Option.{option_map}
use Rattle.l4_model.specs.Words.{GlobalId}
use Rattle.l4_model.specs.Machine.{Machine}
use Rattle.l4_model.specs.World.{Deleted, Thread, World, opening_thread}
use Rattle.l4_model.specs.History.{reached, report_of}
use Rattle.l4_core_model.specs.Laws.{IsCoreRun}
use Rattle.l4_core_model.specs.Runs.{Run, at_rest, told}
use Rattle.l4_bisimilar.specs.Shifted.{IsShifted, timeless_send}

abbrev pub AreDeleted : Thread → Thread → Type 0
AreDeleted a b = (a.phase ≡ Deleted) × (b.phase ≡ Deleted)

-- A report tells both alike, or both as deleted, and then with registers that may differ. Whether
-- they have a send that waits, and where it goes, is the same in any case. Its number may differ,
-- and the clock at which it began.
pub record AreToldAlike (a b : Thread) : Type 0 where
  pub report : ((id : GlobalId) → report_of id a ≡ report_of id b) ⊎ AreDeleted a b
  pub send : option_map timeless_send a.send ≡ option_map timeless_send b.send

abbrev pub thread_at : World → (place : ℕ) → Thread
thread_at w place = slice_index_or w.threads place opening_thread

abbrev pub HaveInCommon : Machine → World → World → Type 0
HaveInCommon m w v =
    (place : ℕ) → place < length m.threads → AreToldAlike (thread_at w place) (thread_at v place)

-- So it is of any two core runs that end at rest in similar states, whatever their histories.
abbrev pub EndingsHaveInCommon : Machine → Type 0
EndingsHaveInCommon m =
    (r s : Run) (w v : World) → IsCoreRun m r → IsCoreRun m s → at_rest m r.system ≡ true →
    IsShifted r.system s.system → reached m (told r.events) ≡ Some w →
    reached m (told s.events) ≡ Some v → HaveInCommon m w v
