use Rattle.std.proofs.Common.{ap, sym, ◌∙◌}
use Rattle.std.specs.Prelude.{is_none, is_some}
use Rattle.l4_types.specs.StepView.{seen}
use Rattle.l4_audit.proofs.Late.{as_now, none_from, now_exactly}
use Rattle.l4_audit.proofs.world.World.is_possible_late.Goals as goal

pub returns-in_default : goal.returns-in_default
returns-in_default c =
    let a = c.args.self.now in
    let d = c.in_default in
    let same = as_now a.machine a.world c.args.step.now d.not-SendTimeout d.not-ReceiveTimeout d.not-Tick in
    none_from c.is_none.result c.reason.result (sym c.is_none.ensures) ∙ ap is_none c.reason.ensures ∙ sym (ap is_some same ∙ now_exactly a.machine a.world (seen c.args.step.now))
