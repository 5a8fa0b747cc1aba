use Rattle.std.proofs.Common.{ap, sym, ◌∙◌}
use Rattle.std.specs.Result.{result_err}
use Rattle.l4_model.specs.World.{change, unqueued}
use Rattle.l4_model.specs.Effects.{decided}
use Rattle.l4_model.specs.Conditions.{Found}
use Rattle.l4_audit.specs.Inner.Audited.{with_world}
use Rattle.l4_audit.proofs.Taking.{is_dropped}
use Rattle.l4_audit.proofs.Places.{sender_within}
use Rattle.l4_audit.proofs.world.World.drop_deleted.Goals as goal

pub unqueue-requires : goal.unqueue-requires
unqueue-requires c =
    let a = c.args.self.now in
    rw (c.place-sender.ensures, c.sender.ensures) (sender_within a.machine a.world c.args.name c.in_ok-pending.pending c.in_ok-pending.ensures.send)

pub returns : goal.returns
returns c =
    let a = c.args.self.now in
    let none = sym c.may_drop.ensures.reason ∙ ap result_err c.in_ok-pending.was in
    let p = c.in_ok-pending.pending in
    let at = c.place-sender.ensures ∙ ap (λ (t : Found). t.at) c.sender.ensures in
    is_dropped a c.unqueue.new.self _ c.args.name p c.in_ok-pending.ensures.send none (c.unqueue.ensures ∙ ap (λ x. with_world a (unqueued a.world x)) at)
    (c.drop_send.ensures ∙ ap (λ x. with_world c.unqueue.new.self (change c.unqueue.new.self.world x decided)) at)
