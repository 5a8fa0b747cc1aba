use Rattle.std.proofs.Common.{◌≡◌, is_some, subst, sym, ◌∙◌, ap}
use Rattle.std.specs.Prelude.{slice_get}
use Rattle.l4_core_model.specs.Turns as turns
use Rattle.l4_core.specs.Inner.Covered.{HasNoDuty}
use Rattle.l4_core.specs.Processor.{Processor}
use Rattle.l4_core.proofs.Busy.{with_duty, no_duty, with_ready}
use Rattle.l4_core.proofs.processor.Core.busy.Goals as goal

pub returns-then-is_some : goal.returns-then-is_some
returns-then-is_some c = with_duty c.args.self.now c.next_duty.result c.next_duty.ensures
    (sym c.is_some.ensures ∙ c.if-is_some.true)

pub returns-else-has_due : goal.returns-else-has_due
returns-else-has_due c =
    let p = c.self.inside.known in
    let none = subst (λ (q : Processor). HasNoDuty q.machine q.cpu q.local) (sym c.self.view_is)
    (no_duty c.args.self.now c.next_duty.result c.next_duty.ensures (sym c.is_some.ensures ∙ c.if-is_some.false)) in
    c.is_some-else-has_due.ensures ∙ ap is_some c.first_ready.ensures
    ∙ subst (λ (q : Processor). is_some (slice_get c.self.inside.known.local.lists.ready 0)
    ≡ turns.is_busy q.machine q.cpu q.local) c.self.view_is
    (with_ready p none (sym c.has_due.ensures ∙ c.if-has_due.false))
