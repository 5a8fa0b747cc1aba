use Rattle.std.proofs.Common.{subst, ◌∙◌}
use Rattle.l4_audit.specs.Audits.{Blames}
use Rattle.l4_questions.proofs.Audited.{found_is, never_refused}
use Rattle.l4_questions.proofs.found.FoundEnding.new.Goals as goal

pub unreachable-requires : goal.unreachable-requires
unreachable-requires c =
    let m = c.args.machine.now in
    let h = c.args.trace.steps in
    never_refused m h c.in-Err-Refused.field-0-0 c.requires
    (subst (Blames m h) c.in-Err-Refused.field-0-is c.in-Err-Refused.ensures.refused)

pub returns : goal.returns
returns c =
    found_is c.args.machine.now c.args.trace.steps c.in-Ok.auditor c.args.head.items
    c.in_ok-report.report.items c.in_ok-stuck.stuck.items c.deref.result.now
    c.in-Ok.ensures.reached c.in_ok-report.ensures (c.deref.ensures.value ∙ c.in_ok-waits.ensures)
    c.in_ok-stuck.ensures
