use Rattle.std.proofs.Common.{ap, sym, ◌∙◌, refl}
use Rattle.std.specs.Result.{result_err}
use Rattle.l4_model.specs.Rules.{owed_by}
use Rattle.l4_audit.specs.Inner.Audited.{Audited}
use Rattle.l4_audit.proofs.Delivering.{delivers_now}
use Rattle.l4_audit.proofs.Places.{receiver_within, sender_within}
use Rattle.l4_audit.proofs.world.World.deliver.Goals as goal

pub take_over-requires-clause-sender : goal.take_over-requires-clause-sender
take_over-requires-clause-sender c =
    let a = c.args.self.now in
    rw (c.in_ok-owe.ensures.ok, ap (λ x. x.0) c.sender_now-sender.ensures) (sender_within a.machine a.world c.args.delivery.now.name _ c.in_ok-pending.ensures.send)

pub take_over-requires-clause-receiver : goal.take_over-requires-clause-receiver
take_over-requires-clause-receiver c =
    let a = c.args.self.now in
    rw (c.in_ok-owe.ensures.ok, c.place-place.ensures) (receiver_within a.machine a.world _ _ c.in_ok-pending.ensures.receiver)

pub returns : goal.returns
returns c =
    let a = c.args.self.now in
    let none = sym c.may_deliver.ensures.reason ∙ ap result_err c.in_ok-pending.was in
    delivers_now a c.owe.new.self _ c.args.delivery.now _ _ _ c.in_ok-pending.ensures.send c.in_ok-pending.ensures.receiver none
    (c.owed_by-owed.ensures ∙ ap (λ (x : Audited). owed_by x.machine c.args.delivery.now.name c.send.result.now.message c.args.delivery.now.receiver) c.self.view_is ∙ rw c.send.ensures refl) c.in_ok-owe.ensures.ok
    (c.take_over.ensures ∙ rw (c.place-place.ensures, c.sender_now-sender.ensures) refl)
