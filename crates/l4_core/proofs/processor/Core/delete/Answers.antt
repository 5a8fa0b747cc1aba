use Rattle.std.proofs.Common.{sym, subst, ◌∙◌, arith}
use Rattle.l4_core.specs.Processor.{Processor}
use Rattle.l4_core.specs.Inner.Turning.{IsOwnOf}
use Rattle.l4_core.proofs.Asking.{deleted-written, kept-deleted, unready-dropped}
use Rattle.l4_core.proofs.Noting.{covered-deleted}
use Rattle.l4_core.proofs.processor.Core.delete.Goals as goal

pub invariant_of-known : goal.invariant_of-known
invariant_of-known c =
    let own = subst (λ (p : Processor). IsOwnOf p c.args.place) (sym (c.known.view_is ∙ c.self.view_is)) c.requires in
    kept-deleted c.known.inside _ c.args.place _ _ c.known.invariant own.within c.drop_ready.ensures c.index_mut.ensures.value c.ask.ensures

pub enter_lists-requires-clause-unready : goal.enter_lists-requires-clause-unready
enter_lists-requires-clause-unready c = unready-dropped c.known.inside.lists _ c.args.place c.drop_ready.ensures

pub invariant_of-self : goal.invariant_of-self
invariant_of-self c =
    let w = c.self.inside in
    let own = subst (λ (p : Processor). IsOwnOf p c.args.place) (sym c.self.view_is) c.requires in
    let here = subst (λ (p : Processor). IsOwnOf p c.args.place) (sym c.known.view_is) own in
    covered-deleted c.note_all.new.duties w.zeros w.known c.enter_lists.new.self c.args.place c.self.invariant.waiting (omega (arith, own.within, c.note_all.ensures.core.settled.threads)) c.note_all.ensures.all c.note_all.ensures.own
    (deleted-written c.known.inside _ c.args.place _ _ _ _ c.known.invariant here.within c.drop_ready.ensures c.index_mut.ensures.value c.ask.ensures c.known.view_is c.enter_lists.ensures)

pub returns : goal.returns
returns c =
    let v = c.known.view_is ∙ c.self.view_is in
    let own = subst (λ (p : Processor). IsOwnOf p c.args.place) (sym v) c.requires in
    deleted-written c.known.inside _ c.args.place _ _ _ _ c.known.invariant own.within c.drop_ready.ensures c.index_mut.ensures.value c.ask.ensures v c.enter_lists.ensures
