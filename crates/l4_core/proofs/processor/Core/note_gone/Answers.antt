use Rattle.std.proofs.Common.{sym, subst, ◌∙◌}
use Rattle.l4_core_model.specs.Local.{is_gone_now}
use Rattle.l4_core.specs.Processor.{Processor}
use Rattle.l4_core.specs.Inner.Tasks.{IsForeign}
use Rattle.l4_core.proofs.Arriving.{covered-gone}
use Rattle.l4_core.proofs.Fitting.{fits-gone}
use Rattle.l4_core.proofs.Writing.{change-written, kept-changed, state}
use Rattle.l4_core.proofs.processor.Core.note_gone.Goals as goal

pub invariant_of-known : goal.invariant_of-known
invariant_of-known c =
    let s = c.known.inside in
    let away = subst (λ (p : Processor). IsForeign p c.args.place) (sym (c.known.view_is ∙ c.self.view_is)) c.requires in
    kept-changed s c.args.place is_gone_now _ _ c.known.invariant c.index_mut.ensures.value c.note_gone.ensures (fits-gone s.machine.now s.cpu (state s) c.args.place c.known.invariant.core.settled away.within away.foreign)

pub invariant_of-self : goal.invariant_of-self
invariant_of-self c =
    let w = c.self.inside in
    let away = subst (λ (p : Processor). IsForeign p c.args.place) (sym c.self.view_is) c.requires in
    let here = subst (λ (p : Processor). IsForeign p c.args.place) (sym c.known.view_is) away in
    covered-gone w.duties c.note_all.new.duties w.zeros w.known _ c.args.place c.self.invariant c.note_all.ensures.core away.within c.note_all.ensures.all c.note_all.ensures.own
    (change-written c.known.inside c.args.place is_gone_now _ _ _ c.known.invariant here.within c.index_mut.ensures.value c.note_gone.ensures c.known.view_is)

pub returns : goal.returns
returns c =
    let v = c.known.view_is ∙ c.self.view_is in
    let away = subst (λ (p : Processor). IsForeign p c.args.place) (sym v) c.requires in
    change-written c.known.inside c.args.place is_gone_now _ _ _ c.known.invariant away.within c.index_mut.ensures.value c.note_gone.ensures v
