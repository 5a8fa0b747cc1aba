use Rattle.std.proofs.Common.{subst}
use Rattle.l4_audit.specs.Audits.{Blames}
use Rattle.l4_machine.proofs.Outcomes.{no_fault}
use Rattle.l4_machine.proofs.outcome.audited_outcome.Goals as goal

pub unreachable-requires : goal.unreachable-requires
unreachable-requires c = no_fault c.args.machine.now c.args.history.steps c.in-Err-Refused.field-0-0 c.requires
    (subst (Blames c.args.machine.now c.args.history.steps) c.in-Err-Refused.field-0-is c.in-Err-Refused.ensures.refused)
