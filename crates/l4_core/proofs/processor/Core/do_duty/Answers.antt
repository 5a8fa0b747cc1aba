use Rattle.std.proofs.Common.{Some, subst, sym, ap, ◌∙◌}
use Rattle.l4_core_model.specs.Turns.{does_duty}
use Rattle.l4_core.specs.Inner.Choosing.{duty_of, kept_beside}
use Rattle.l4_core.specs.Inner.Parts.{AreCore}
use Rattle.l4_core.specs.Inner.Turning.{Does}
use Rattle.l4_core.proofs.Dues.{kept_there, refused_sends, delivered_sends, zero_sends}
use Rattle.l4_core.proofs.processor.Core.do_duty.Goals as goal

pub refuse-requires-in-RefuseFirst-clause-sender : goal.refuse-requires-in-RefuseFirst-clause-sender
refuse-requires-in-RefuseFirst-clause-sender g c =
    let core = subst AreCore c.self.view_is c.facts.ensures.core in
    refused_sends c.args.self.now c.args.place c.in-RefuseFirst.sender core (c.requires.first.has_duty ∙ ap (λ d. Some (duty_of c.args.self.now.local.owed c.args.place d)) c.in-RefuseFirst.is)

pub deliver-requires-clause-sender : goal.deliver-requires-clause-sender
deliver-requires-clause-sender g c =
    let core = subst AreCore c.self.view_is c.facts.ensures.core in
    delivered_sends c.args.self.now c.args.place c.in-DeliverFirst.sender core (c.requires.first.has_duty ∙ ap (λ d. Some (duty_of c.args.self.now.local.owed c.args.place d)) c.in-DeliverFirst.is)

pub refuse-requires-in-RefuseZero-clause-sender : goal.refuse-requires-in-RefuseZero-clause-sender
refuse-requires-in-RefuseZero-clause-sender g c =
    let core = subst AreCore c.self.view_is c.facts.ensures.core in
    zero_sends c.args.self.now c.args.place c.in-RefuseZero.sender core (c.requires.first.has_duty ∙ ap (λ d. Some (duty_of c.args.self.now.local.owed c.args.place d)) c.in-RefuseZero.is)

pub returns-in-Retarget : goal.returns-in-Retarget
returns-in-Retarget g c =
    let p = c.args.self.now in
    let there = kept_there p c.args.place (kept_beside p.local.owed c.args.place) (c.requires.first.has_duty ∙ ap (λ d. Some (duty_of p.local.owed c.args.place d)) c.in-Retarget.is) in
    subst (λ d. Does (does_duty p.machine p.cpu c.args.place (duty_of p.local.owed c.args.place d)) p c.retarget_owed.new.self c.args.buffer.now c.retarget_owed.new.buffer) (sym c.in-Retarget.is) (c.retarget_owed.ensures _ there)
