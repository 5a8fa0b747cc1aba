use Rattle.std.proofs.Common.{subst, arith}
use Rattle.l4_proc.specs.Working.{HasGoneOn}
use Rattle.l4_machine.proofs.InOneHand.{one_gone_on}
use Rattle.l4_host_tests.proofs.gathers.worked.Goals as goal

pub loop-cpu-init : goal.loop-cpu-init
loop-cpu-init g c = c.in_ok-processors.ensures

pub loop-cpu-preserved : goal.loop-cpu-preserved
loop-cpu-preserved g c =
    one_gone_on c.args.machine.now c.loop-cpu.processors.items _ c.takes.new.processor c.index_mut.result.now (omega (arith, c.len.ensures))
    (subst (λ p. HasGoneOn p c.takes.new.processor) c.index_mut.ensures.value c.takes.ensures) c.loop-cpu.invariant
