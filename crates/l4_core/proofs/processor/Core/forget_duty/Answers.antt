use Rattle.std.proofs.Common.{◌∙◌, sym}
use Rattle.std.proofs.lemmas.Bool.{or_parts}
use Rattle.l4_core.specs.Inner.Covered.{duty_at}
use Rattle.l4_core.proofs.Covering.{covers-removed, no_duty}
use Rattle.l4_core.proofs.processor.Core.forget_duty.Goals as goal

pub invariant_of-self : goal.invariant_of-self
invariant_of-self c =
    let s = c.self.inside in
    let p = s.known in
    let none = no_duty (duty_at p.machine p.cpu p.local c.args.place) (or_parts _ _ (sym c.may_have_duty.ensures ∙ c.if-may_have_duty.false)).1 in
    record {
      covers = covers-removed s.duties c.remove.new.self p.machine p.cpu p.local c.args.place c.self.invariant.covers c.remove.ensures none;
      waiting = c.self.invariant.waiting;
    }
