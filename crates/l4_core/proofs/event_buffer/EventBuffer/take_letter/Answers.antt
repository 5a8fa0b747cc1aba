use Rattle.std.proofs.Common.{◌≡◌, [], sym, subst, ◌∙◌}
use Rattle.l4_core.specs.EventBuffers.{EventBuffer}
use Rattle.l4_core.proofs.Outboxes.{nothing-first}
use Rattle.l4_core.proofs.event_buffer.EventBuffer.take_letter.Goals as goal

pub returns-in_err-to-clause-none : goal.returns-in_err-to-clause-none
returns-in_err-to-clause-none g c =
    let none = nothing-first c.self.inside.letters.letters (sym c.first.ensures ∙ c.in_err-to.was) in
    rw (c.from_residual.ensures) (subst (λ (t : EventBuffer). t.letters ≡ []) c.self.view_is none)
