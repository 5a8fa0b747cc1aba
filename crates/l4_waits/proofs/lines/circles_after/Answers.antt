use Rattle.std.proofs.Common.{take}
use Rattle.std.proofs.lemmas.Result.{IfOk-weaker}
use Rattle.l4_waits.proofs.After.{circles_are}
use Rattle.l4_waits.proofs.lines.circles_after.Goals as goal

pub returns : goal.returns
returns c =
    IfOk-weaker c.circles_of.result _ _
    (λ lines. circles_are c.args.machine.now (take c.args.count c.args.history.now.steps) c.in_ok-auditor.auditor lines.items c.in_ok-auditor.ensures.machine
    c.in_ok-auditor.ensures.reached)
    c.circles_of.ensures
