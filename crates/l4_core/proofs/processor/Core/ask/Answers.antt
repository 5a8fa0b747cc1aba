use Rattle.std.proofs.Common.{sym, subst, ◌∙◌, arith}
use Rattle.l4_model.specs.Effects.{asked}
use Rattle.l4_types.specs.StepView.{order_kind_of}
use Rattle.l4_core.specs.Processor.{Processor}
use Rattle.l4_core.specs.Inner.Turning.{IsOwnOf}
use Rattle.l4_core.proofs.Asking.{asks_other, not_delete}
use Rattle.l4_core.proofs.Fitting.{fits-asked}
use Rattle.l4_core.proofs.Noting.{covered-asked, covered-put, put_there}
use Rattle.l4_core.proofs.Writing.{change-written, kept-changed, state}
use Rattle.l4_core.proofs.processor.Core.ask.Goals as goal

pub invariant_of-known : goal.invariant_of-known
invariant_of-known c =
    let s = c.known.inside in
    let what = order_kind_of c.args.what in
    let own = subst (λ (p : Processor). IsOwnOf p c.args.place) (sym (c.known.view_is ∙ c.self.view_is)) c.requires in
    kept-changed s c.args.place (asked what) _ _ c.known.invariant c.index_mut.ensures.value c.ask.ensures (fits-asked s.machine.now s.cpu (state s) c.args.place what (not_delete c.args.what c.in_default.not-Delete) c.known.invariant.core.settled own.within)

pub invariant_of-self : goal.invariant_of-self
invariant_of-self c =
    let w = c.self.inside in
    let what = order_kind_of c.args.what in
    let own = subst (λ (p : Processor). IsOwnOf p c.args.place) (sym c.self.view_is) c.requires in
    let here = subst (λ (p : Processor). IsOwnOf p c.args.place) (sym c.known.view_is) own in
    covered-asked c.insert_place.new.duties w.zeros w.known _ c.args.place what (not_delete c.args.what c.in_default.not-Delete)
    (covered-put w.duties c.insert_place.new.duties w.zeros w.known c.args.place c.self.invariant own c.insert_place.ensures.put) (omega (arith, own.within, c.insert_place.ensures.core.settled.threads)) (put_there w.duties c.insert_place.new.duties c.args.place c.insert_place.ensures.put)
    (change-written c.known.inside c.args.place (asked what) _ _ _ c.known.invariant here.within c.index_mut.ensures.value c.ask.ensures c.known.view_is ∙ asks_other w.known c.args.what c.args.place c.in_default.not-Delete)

pub returns-in_default : goal.returns-in_default
returns-in_default c =
    let v = c.known.view_is ∙ c.self.view_is in
    let own = subst (λ (p : Processor). IsOwnOf p c.args.place) (sym v) c.requires in
    change-written c.known.inside c.args.place (asked (order_kind_of c.args.what)) _ _ _ c.known.invariant own.within c.index_mut.ensures.value c.ask.ensures v
    ∙ asks_other c.args.self.now c.args.what c.args.place c.in_default.not-Delete
