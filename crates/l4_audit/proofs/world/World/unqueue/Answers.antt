use Rattle.std.proofs.Common.{◌∙◌}
use Rattle.std.proofs.lemmas.List.{length-map}
use Rattle.l4_audit.proofs.Lists.{left, senders_within}
use Rattle.l4_audit.proofs.world.World.unqueue.Goals as goal

pub unqueue_send-requires : goal.unqueue_send-requires
unqueue_send-requires c =
    let i = c.self.inside in
    senders_within i.machine.now i.threads.items i.lists.waiting i.clocks.items _ c.args.self.now c.args.sender c.self.view_is c.self.invariant c.requires

pub invariant_of-self : goal.invariant_of-self
invariant_of-self c =
    let i = c.self.inside in
    record { ids = c.self.invariant.ids; counted = rw c.unqueue_send.ensures (length-map i.lists.waiting _ ∙ c.self.invariant.counted) }

pub returns : goal.returns
returns c =
    let i = c.self.inside in
    rw c.unqueue_send.ensures (left i.machine.now i.threads.items i.lists i.clocks.items _ c.args.self.now c.args.sender c.self.view_is)
