use Rattle.l4_core_model.specs.Runs.{Run}
use Rattle.l4_replay.specs.UnderWay.{IsRun}
use Rattle.l4_host_tests.proofs.refused.walked.Given as goal

-- It is a core run of the machine.
abbrev pub invariant-loop-number : goal.invariant-loop-number
invariant-loop-number l = (r : Run) × IsRun l.machine r l.walk
