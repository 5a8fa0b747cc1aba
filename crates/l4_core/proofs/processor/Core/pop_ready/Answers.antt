use Rattle.std.proofs.Common.{refl, ◌∙◌}
use Rattle.l4_core_model.specs.Plain.{popped}
use Rattle.l4_core.proofs.Noting.{covered-relisted}
use Rattle.l4_core.proofs.Settling.{settled-popped}
use Rattle.l4_core.proofs.Writing.{kept-settled, lists-written, state}
use Rattle.l4_core.proofs.processor.Core.pop_ready.Goals as goal

pub invariant_of-known : goal.invariant_of-known
invariant_of-known c =
    let s = c.known.inside in
    rw c.pop_ready.ensures.rest (kept-settled s _ _ _ _ _ c.known.invariant (settled-popped s.machine.now s.cpu (state s) c.known.invariant.core.settled))

pub invariant_of-self : goal.invariant_of-self
invariant_of-self c =
    let w = c.self.inside in
    covered-relisted w.duties w.zeros w.known _ _ c.self.invariant refl (lists-written c.known.inside popped _ _ c.pop_ready.ensures.rest c.known.view_is)

pub returns-clause-rest : goal.returns-clause-rest
returns-clause-rest c = lists-written c.known.inside popped _ _ c.pop_ready.ensures.rest (c.known.view_is ∙ c.self.view_is)
