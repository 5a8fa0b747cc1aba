use Rattle.std.proofs.Common.{ap, sym, ◌∙◌, false}
use Rattle.l4_model.specs.World.{is_queued}
use Rattle.l4_model.proofs.Chains.{length-changed}
use Rattle.l4_core_model.proofs.Waiting.{queued_same}
use Rattle.l4_audit.specs.Inner.Audited.{Audited}
use Rattle.l4_audit.proofs.Lists.{arrived, senders_within}
use Rattle.l4_audit.proofs.world.World.queue.Goals as goal

pub queue_send-requires-clause-receiver : goal.queue_send-requires-clause-receiver
queue_send-requires-clause-receiver c =
    let i = c.self.inside in
    senders_within i.machine.now i.threads.items i.lists.waiting i.clocks.items _ c.args.self.now c.args.receiver c.self.view_is c.self.invariant c.requires.receiver

pub queue_send-requires-clause-block : goal.queue_send-requires-clause-block
queue_send-requires-clause-block c =
    let i = c.self.inside in
    senders_within i.machine.now i.threads.items i.lists.waiting i.clocks.items _ c.args.self.now c.args.sender c.self.view_is c.self.invariant c.requires.sender

pub queue_send-requires-clause-free : goal.queue_send-requires-clause-free
queue_send-requires-clause-free c =
    let i = c.self.inside in
    sym (queued_same c.args.sender i.lists.waiting) ∙ ap (λ (b : Audited). is_queued b.world.waiting c.args.sender) c.self.view_is ∙ c.requires.free

pub invariant_of-self : goal.invariant_of-self
invariant_of-self c =
    let i = c.self.inside in
    record { ids = c.self.invariant.ids; counted = rw c.queue_send.ensures (length-changed _ i.lists.waiting c.args.receiver ∙ c.self.invariant.counted) }

pub returns : goal.returns
returns c =
    let i = c.self.inside in
    rw c.queue_send.ensures
    (arrived i.machine.now i.threads.items i.lists i.clocks.items _ c.args.self.now c.args.receiver (record { block = c.args.sender; shown = c.default.result; local = false }) c.self.view_is)
