use Rattle.l4_machine.specs.Gathers.{AreOfOne}
use Rattle.l4_host_tests.proofs.rooms.mixed.Given as goal

abbrev pub invariant-loop : goal.invariant-loop
invariant-loop g l = AreOfOne l.machine l.processors.items
