use Rattle.std.proofs.Common.{ap, ◌∙◌}
use Rattle.l4_audit.proofs.Replaying.{opened, one_more}
use Rattle.l4_types.specs.StepView.{seen}
use Rattle.l4_explain.specs.Reasons.{cause}
use Rattle.l4_explain.proofs.Stopping.{stops_here}
use Rattle.l4_explain.proofs.accounts.steps_taken.Goals as goal

pub loop-place-init : goal.loop-place-init
loop-place-init c = opened c.args.machine.now c.args.history.now.steps c.in_ok-auditor.auditor c.in_ok-auditor.ensures

pub loop-place-preserved : goal.loop-place-preserved
loop-place-preserved c =
    let l = c.loop-place in
    one_more c.args.machine.now c.args.history.now.steps l.place l.auditor c.step.new.self _ l.invariant c.step-step.ensures c.in-Ok.ensures

pub returns-in-Err-Refused : goal.returns-in-Err-Refused
returns-in-Err-Refused c =
    let l = c.loop-place in
    let e = c.in-Err-Refused in
    let m = c.args.machine.now in
    stops_here m c.args.history.now.steps l.place l.auditor c.step.new.self _ e.field-0 e.reason _ l.invariant c.step-step.ensures e.field-0-is (c.cause_of-cause.ensures ∙ ap (cause m (seen c.step-step.result)) e.reason-is) e.ensures
