use Rattle.std.proofs.Common.{ap, sym, ◌∙◌}
use Rattle.std.specs.Result.{result_err}
use Rattle.l4_model.specs.World.{queued}
use Rattle.l4_model.specs.Conditions.{Found}
use Rattle.l4_audit.specs.Inner.Audited.{with_world}
use Rattle.l4_audit.proofs.Taking.{queues_on}
use Rattle.l4_audit.proofs.Places.{receiver_within, sender_within}
use Rattle.l4_audit.proofs.world.World.queue_send.Goals as goal

pub queue-requires-clause-receiver : goal.queue-requires-clause-receiver
queue-requires-clause-receiver c =
    let a = c.args.self.now in
    rw c.place-place.ensures (receiver_within a.machine a.world _ _ c.in_ok-pending.ensures.receiver)

pub queue-requires-clause-sender : goal.queue-requires-clause-sender
queue-requires-clause-sender c =
    let a = c.args.self.now in
    rw (c.place-sender.ensures, c.sender.ensures) (sender_within a.machine a.world c.args.name _ c.in_ok-pending.ensures.send)

pub returns : goal.returns
returns c =
    let a = c.args.self.now in
    let none = sym c.may_queue.ensures.reason ∙ ap result_err c.in_ok-pending.was in
    let at = c.place-sender.ensures ∙ ap (λ (t : Found). t.at) c.sender.ensures in
    queues_on a _ c.args.name _ _ c.in_ok-pending.ensures.send c.in_ok-pending.ensures.receiver none
    (c.queue.ensures ∙ ap (λ x. with_world a (queued a.world x c.place-sender.result)) c.place-place.ensures ∙ ap (λ x. with_world a (queued a.world c.in_ok-pending.receiver.at x)) at)
