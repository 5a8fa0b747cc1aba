use Rattle.std.proofs.Common.{map, ap, ◌∙◌, arith}
use Rattle.l4_model.specs.History.{report_of}
use Rattle.l4_thread.specs.Inner.Parts.{Block}
use Rattle.l4_audit.specs.Inner.Audited.{senders_of}
use Rattle.l4_audit.proofs.Replaying.{take_whole}
use Rattle.l4_audit.proofs.Reporting.{reports-all}
use Rattle.l4_audit.proofs.world.World.threads.Goals as goal

pub returns : goal.returns
returns c =
    let i = c.self.inside in
    let items = c.deref-tcb-items.result.now in
    c.loop-tcb.invariant
    ∙ ap (map (λ (b : Block). report_of b.id b.thread)) (take_whole items c.loop-tcb.tcb-index (omega arith) ∙ c.deref-tcb-items.ensures.value)
    ∙ reports-all i.machine.now i.threads.items (senders_of i.lists.waiting) i.clocks.items _ c.args.self.now c.self.view_is c.self.invariant
