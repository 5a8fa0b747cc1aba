use Rattle.std.proofs.Common.{subst}
use Rattle.l4_types.specs.StepView.{seen}
use Rattle.l4_audit.specs.Inner.Taking.{Explains}
use Rattle.l4_audit.proofs.Reasoning.{is_impossible}
use Rattle.l4_audit.proofs.world.World.take_now.Goals as goal

pub returns-in-Err-Refused-clause-ok : goal.returns-in-Err-Refused-clause-ok
returns-in-Err-Refused-clause-ok c =
    let a = c.args.self.now in
    let arm = c.in-Err-Refused in
    let told = subst (Explains a (seen c.args.step.now)) arm.field-0-is arm.ensures.0 in
    (is_impossible a.machine a.world (seen c.args.step.now) arm.field-0-0 told, arm.ensures.1)
