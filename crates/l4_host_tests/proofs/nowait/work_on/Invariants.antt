use Rattle.l4_proc.specs.Working.{HasGoneOn}
use Rattle.l4_host_tests.proofs.nowait.work_on.Given as goal

abbrev pub invariant-loop : goal.invariant-loop
invariant-loop l = HasGoneOn l.fn.processor l.processor
