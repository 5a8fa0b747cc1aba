use Rattle.std.proofs.Common.{arith}
use Rattle.l4_audit.proofs.Replaying.{blames_here, opened, one_more}
use Rattle.l4_audit.specs.declared.reasons.StepFault.TheVariants.{Refused}
use Rattle.l4_waits.proofs.lines.audited_until.Goals as goal

pub loop-place-init : goal.loop-place-init
loop-place-init c = opened c.args.machine.now c.args.history.now.steps c.in_ok-auditor.auditor c.in_ok-auditor.ensures

-- No step of a history is refused.
pub unreachable-requires : goal.unreachable-requires
unreachable-requires c =
    let l = c.loop-place in
    let blamed = blames_here c.args.machine.now c.args.history.now.steps l.place l.auditor _ (Refused c.in-Err-Refused.field-0-0) l.invariant c.step-step.ensures
    (rw c.in-Err-Refused.field-0-is at c.in-Err-Refused.ensures.0) in
    omega (arith, blamed.place_is, blamed.is_longest c.args.count c.requires.within c.requires.possible, c.loop-place-test.true)

pub loop-place-preserved : goal.loop-place-preserved
loop-place-preserved c =
    let l = c.loop-place in
    one_more c.args.machine.now c.args.history.now.steps l.place l.auditor c.step.new.self _ l.invariant c.step-step.ensures c.in-Ok.ensures
