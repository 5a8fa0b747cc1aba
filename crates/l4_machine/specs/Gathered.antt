-- The outcome of processors in one hand.
use Rattle.std.specs.Prelude.{List}
use Rattle.l4_model.specs.Machine.{Machine}
use Rattle.l4_core_model.specs.Runs.{Run}
use Rattle.l4_merge.specs.Merges.{IsWholeRun}
use Rattle.l4_proc.specs.declared.processor.Processor.{Processor}
use Rattle.l4_machine.specs.Gathers.{pasts_of}
use Rattle.l4_machine.specs.Outcomes.{Findings, IsOutcomeOf}

-- What the processors came to together: the outcome of the core run whose events are those of all
-- their logs, in order of stamp and processor.
pub record IsGathered (m : Machine) (ps : List Processor) (o : Findings) : Type 0 where
  pub run : Run
  pub whole : IsWholeRun m (pasts_of m ps) run
  pub outcome : IsOutcomeOf m run o
