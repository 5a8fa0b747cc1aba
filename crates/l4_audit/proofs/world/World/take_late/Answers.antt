use Rattle.l4_types.specs.StepView.{seen}
use Rattle.l4_audit.proofs.Late.{as_now, judged_late}
use Rattle.l4_audit.proofs.world.World.take_late.Goals as goal

pub returns-in_default-clause-ok : goal.returns-in_default-clause-ok
returns-in_default-clause-ok c =
    let a = c.args.self.now in
    let d = c.in_default in
    judged_late c.take_now.result a c.take_now.new.self (seen c.args.step.now)
    (as_now a.machine a.world c.args.step.now d.not-SendTimeout d.not-ReceiveTimeout d.not-Tick) c.take_now.ensures.ok
