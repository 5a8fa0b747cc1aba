-- What is true of a core run in order of stamp.
use Rattle.l4_model.specs.Machine.{Machine}
use Rattle.l4_core_model.specs.Runs.{Run}
use Rattle.l4_merge.specs.Merges.{IsReorderedRun}
use Rattle.l4_refines.specs.Laws.{IsLawfulRun}

-- The other run is the first with its events in order of stamp and processor, and ends as the first
-- does. All is true of it that is true of each core run.
pub record IsLawfulMergedRun (m : Machine) (r other : Run) : Type 0 where
  pub reordered : IsReorderedRun m r other
  pub lawful : IsLawfulRun m other

abbrev pub HasLawfulMergedRun : Machine → Run → Type 0
HasLawfulMergedRun m r = (other : Run) × IsLawfulMergedRun m r other
