use Rattle.std.proofs.Common.{ap, ◌∙◌, arith}
use Rattle.std.specs.Prelude.{filter_map}
use Rattle.l4_audit.specs.Inner.Audited.{senders_of}
use Rattle.l4_audit.proofs.Replaying.{take_whole}
use Rattle.l4_audit.proofs.Waited.{waiting_block, waits-all, waits_more}
use Rattle.l4_audit.proofs.world.World.waits.Goals as goal

pub loop-tcb-preserved : goal.loop-tcb-preserved
loop-tcb-preserved c =
    waits_more (waiting_block c.args.self.now.machine c.args.self.now.world) c.deref-tcb-items.result.now c.loop-tcb.waits.items _ c.loop-tcb.tcb-index c.tcb-item.result (omega (arith, c.loop-tcb-test.true)) c.tcb-item.is c.loop-tcb.invariant
    c.in_ok-push_wait.ensures

pub returns : goal.returns
returns c =
    let i = c.self.inside in
    let items = c.deref-tcb-items.result.now in
    c.loop-tcb.invariant
    ∙ ap (filter_map (waiting_block c.args.self.now.machine c.args.self.now.world)) (take_whole items c.loop-tcb.tcb-index (omega arith) ∙ c.deref-tcb-items.ensures.value)
    ∙ waits-all i.machine.now i.threads.items (senders_of i.lists.waiting) i.clocks.items _ c.args.self.now c.self.view_is c.self.invariant
