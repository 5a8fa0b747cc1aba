use Rattle.l4_model.specs.Steps.{Begin}
use Rattle.l4_audit.proofs.Auditing.{goes_on}
use Rattle.l4_audit.proofs.auditor.Auditor.begin.Goals as goal

pub invariant_of-self-in-Ok : goal.invariant_of-self-in-Ok
invariant_of-self-in-Ok c =
    let i = c.self.inside in
    goes_on i.world c.begin.new.self i.begun.items _ (Begin c.args.name) c.self.invariant c.in-Ok.ensures c.in_ok-keep.ensures.ok
