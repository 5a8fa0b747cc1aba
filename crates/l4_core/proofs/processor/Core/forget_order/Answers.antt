use Rattle.std.proofs.Common.{refl, set, sym, subst, ◌∙◌, inr, arith}
use Rattle.l4_core.specs.Inner.Changing.{forgets_order}
use Rattle.l4_core.specs.Inner.Covered.{IsCovered}
use Rattle.l4_core.specs.Inner.Parts.{AreCore}
use Rattle.l4_core.specs.Processor.{Processor}
use Rattle.l4_core.specs.Inner.Turning.{IsOwnOf}
use Rattle.l4_core.proofs.Fitting.{fits-forgotten_order}
use Rattle.l4_core.proofs.Noting.{covered-changed, covered-put, covered-relisted, put_there}
use Rattle.l4_core.proofs.Writing.{change-written, come-written, kept-changed, of_parts, state, with_blocks}
use Rattle.l4_core.proofs.processor.Core.forget_order.Goals as goal

pub invariant_of-known : goal.invariant_of-known
invariant_of-known c =
    let s = c.known.inside in
    let own = subst (λ (p : Processor). IsOwnOf p c.args.place) (sym (c.known.view_is ∙ c.self.view_is)) c.requires.own in
    kept-changed s c.args.place forgets_order _ _ c.known.invariant c.index_mut.ensures.value c.forget_order.ensures (fits-forgotten_order s.machine.now s.cpu (state s) c.args.place c.known.invariant.core.settled own.within)

pub invariant_of-self : goal.invariant_of-self
invariant_of-self c =
    let sets = c.self.inside in
    let s = c.known.inside in
    let p : Processor = c.args.self.now in
    let v = c.known.view_is ∙ c.self.view_is in
    let own = subst (λ (q : Processor). IsOwnOf q c.args.place) (sym v) c.requires.own in
    let core = subst AreCore v c.known.invariant.core in
    let q : Processor = of_parts s (with_blocks s (set s.threads.items c.args.place c.forget_order.new.self)) in
    let noted = covered-put sets.duties c.insert_place.new.duties sets.zeros p c.args.place (subst (IsCovered sets.duties sets.zeros) c.self.view_is c.self.invariant) c.requires.own c.insert_place.ensures.put in
    covered-relisted c.insert_place.new.duties sets.zeros q c.enter_lists.new.self _
    (covered-changed c.insert_place.new.duties sets.zeros p q c.args.place forgets_order noted (omega (arith, c.requires.own.within, core.settled.threads))
    (λ mine. put_there sets.duties c.insert_place.new.duties c.args.place c.insert_place.ensures.put) refl (inr refl)
    (change-written s c.args.place forgets_order _ _ p c.known.invariant own.within c.index_mut.ensures.value c.forget_order.ensures v)) refl c.enter_lists.ensures

pub returns : goal.returns
returns c =
    let v = c.known.view_is ∙ c.self.view_is in
    let own = subst (λ (p : Processor). IsOwnOf p c.args.place) (sym v) c.requires.own in
    come-written c.known.inside c.args.place forgets_order _ _ _ _ c.known.invariant own.within c.index_mut.ensures.value c.forget_order.ensures v c.enter_lists.ensures
