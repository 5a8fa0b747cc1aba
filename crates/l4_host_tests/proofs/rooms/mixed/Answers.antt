use Rattle.std.proofs.Common.{subst, arith}
use Rattle.l4_proc.specs.Working.{HasGoneOn}
use Rattle.l4_machine.proofs.InOneHand.{one_gone_on}
use Rattle.l4_host_tests.proofs.rooms.mixed.Goals as goal

pub loop-init : goal.loop-init
loop-init g c = c.in_ok-processors.ensures

pub loop-preserved : goal.loop-preserved
loop-preserved g c =
    one_gone_on c.args.machine.now c.loop.processors.items _ c.work.new.processor c.index_mut.result.now (omega (arith, c.len.ensures))
    (subst (λ p. HasGoneOn p c.work.new.processor) c.index_mut.ensures.value c.work.ensures) c.loop.invariant
