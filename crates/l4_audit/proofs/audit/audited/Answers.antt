use Rattle.l4_audit.proofs.Replaying.{blames_here, opened, one_more}
use Rattle.l4_audit.proofs.audit.audited.Goals as goal

pub loop-place-init : goal.loop-place-init
loop-place-init c = opened c.args.machine.now c.args.history.now.steps c.in_ok-auditor.auditor c.in_ok-auditor.ensures

pub returns-in-Err-clause-refused : goal.returns-in-Err-clause-refused
returns-in-Err-clause-refused c =
    let l = c.loop-place in
    rw c.at.ensures (blames_here c.args.machine.now c.args.history.now.steps l.place l.auditor _ c.in-Err.fault l.invariant c.step-step.ensures c.in-Err.ensures.0)

pub loop-place-preserved : goal.loop-place-preserved
loop-place-preserved c =
    let l = c.loop-place in
    one_more c.args.machine.now c.args.history.now.steps l.place l.auditor c.step.new.self _ l.invariant c.step-step.ensures c.in-Ok.ensures
