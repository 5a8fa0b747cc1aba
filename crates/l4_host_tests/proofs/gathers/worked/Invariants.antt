use Rattle.l4_machine.specs.Gathers.{AreOfOne}
use Rattle.l4_host_tests.proofs.gathers.worked.Given as goal

abbrev pub invariant-loop-cpu : goal.invariant-loop-cpu
invariant-loop-cpu g l = AreOfOne l.machine l.processors.items
