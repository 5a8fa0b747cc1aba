use Rattle.std.proofs.Common.{refl, ◌∙◌, sym, subst}
use Rattle.std.specs.Prelude.{IsSome}
use Rattle.l4_core_model.specs.Plain.{due_block, popped_due}
use Rattle.l4_core.specs.Processor.{Processor}
use Rattle.l4_core.proofs.Noting.{covered-relisted}
use Rattle.l4_core.proofs.Settling.{due-popped, settled-popped_due}
use Rattle.l4_core.proofs.Writing.{kept-settled, lists-written, state}
use Rattle.l4_core.proofs.processor.Core.pop_due.Goals as goal

pub invariant_of-known : goal.invariant_of-known
invariant_of-known c =
    let s = c.known.inside in
    let due = subst (λ (p : Processor). IsSome (due_block p.local.clock p.local.lists.armed)) (sym (c.known.view_is ∙ c.self.view_is)) c.requires in
    rw (c.pop_due.ensures.rest ∙ due-popped s.clock s.lists due) (kept-settled s _ _ _ _ _ c.known.invariant (settled-popped_due s.machine.now s.cpu (state s) c.known.invariant.core.settled))

pub invariant_of-self : goal.invariant_of-self
invariant_of-self c =
    let w = c.self.inside in
    let s = c.known.inside in
    let due = subst (λ (p : Processor). IsSome (due_block p.local.clock p.local.lists.armed)) (sym (c.known.view_is ∙ c.self.view_is)) c.requires in
    covered-relisted w.duties w.zeros w.known _ _ c.self.invariant refl (lists-written s popped_due _ _ (c.pop_due.ensures.rest ∙ due-popped s.clock s.lists due) c.known.view_is)
