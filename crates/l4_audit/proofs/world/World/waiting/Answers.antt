use Rattle.std.proofs.Common.{arith}
use Rattle.l4_audit.specs.Inner.Auditing.{waiting_send}
use Rattle.l4_audit.proofs.Auditing.{waiting_more}
use Rattle.l4_audit.proofs.world.World.waiting.Goals as goal

pub loop-name-preserved : goal.loop-name-preserved
loop-name-preserved c =
    let a = c.args.self.now in
    waiting_more (waiting_send a.machine a.world) c.args.begun.now c.loop-name.sends.items _ c.loop-name.name-index c.name-item.result (omega (arith, c.loop-name-test.true)) c.name-item.is c.loop-name.invariant
    c.in_ok-push_waiting.ensures
