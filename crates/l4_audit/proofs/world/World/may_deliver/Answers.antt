use Rattle.std.proofs.Common.{ap, sym, ◌∙◌}
use Rattle.l4_audit.specs.Inner.Audited.{Audited}
use Rattle.l4_audit.proofs.Delivering.{sender_is_found, receiver_is_found}
use Rattle.l4_audit.proofs.world.World.may_deliver.Goals as goal

pub tells-requires-clause-sender : goal.tells-requires-clause-sender
tells-requires-clause-sender c = rw (ap (λ (x : Audited). x.machine) c.self.view_is) (sender_is_found c.args.self.now.machine c.args.self.now.world c.args.delivery.now.name c.in_ok-pending.pending (sym c.undecided.ensures ∙ c.in_ok-pending.ensures.ok))

pub tells-requires-clause-receiver : goal.tells-requires-clause-receiver
tells-requires-clause-receiver c = rw (ap (λ (x : Audited). x.machine) c.self.view_is) (receiver_is_found c.args.self.now.machine c.args.self.now.world c.in_ok-pending.pending.send.to c.in_ok-receiver.receiver (sym c.receiver_of.ensures ∙ c.in_ok-receiver.ensures.ok))
