use Rattle.std.proofs.Common.{sym, ◌∙◌}
use Rattle.l4_core.proofs.Parting.{deleted_is, living_is, none_refusable}
use Rattle.l4_core.proofs.known.ProcessorState.duty_at.Goals as goal

pub living_duty-requires-clause-zeros : goal.living_duty-requires-clause-zeros
living_duty-requires-clause-zeros c = λ e. none_refusable c.args.self.now.machine c.args.self.now.local c.args.place (c.requires.zeros e)

pub returns-then-is_deleted : goal.returns-then-is_deleted
returns-then-is_deleted c =
    let p = c.args.self.now in
    c.deleted_duty.ensures ∙ sym (deleted_is p.machine p.cpu p.local c.args.place (sym c.keeps_owed.ensures ∙ c.if-keeps_owed.false) (sym c.is_deleted.ensures ∙ c.if-is_deleted.true))

pub returns-else-is_deleted : goal.returns-else-is_deleted
returns-else-is_deleted c =
    let p = c.args.self.now in
    c.living_duty.ensures ∙ sym (living_is p.machine p.cpu p.local c.args.place (sym c.keeps_owed.ensures ∙ c.if-keeps_owed.false) (sym c.is_deleted.ensures ∙ c.if-is_deleted.false))
