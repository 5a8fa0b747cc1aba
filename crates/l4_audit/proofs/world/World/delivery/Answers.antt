use Rattle.std.proofs.Common.{ap, sym, ◌∙◌}
use Rattle.l4_audit.specs.Inner.Audited.{Audited}
use Rattle.l4_audit.proofs.Delivering.{sender_is_found, receiver_is_found}
use Rattle.l4_audit.proofs.world.World.delivery.Goals as goal

pub is_cross-cross-requires-clause-sender : goal.is_cross-cross-requires-clause-sender
is_cross-cross-requires-clause-sender c =
    let a = c.args.self.now in
    rw (ap (λ (x : Audited). x.machine) c.self.view_is) (sender_is_found a.machine a.world c.args.name c.in_ok-pending.pending (sym c.undecided.ensures ∙ c.in_ok-pending.was))

pub is_cross-cross-requires-clause-receiver : goal.is_cross-cross-requires-clause-receiver
is_cross-cross-requires-clause-receiver c =
    let a = c.args.self.now in
    rw (ap (λ (x : Audited). x.machine) c.self.view_is)
    (receiver_is_found a.machine a.world c.in_ok-pending.pending.send.to c.in_ok-receiver.receiver (sym c.receiver_of.ensures ∙ c.in_ok-receiver.was))
