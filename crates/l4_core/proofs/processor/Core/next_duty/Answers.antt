use Rattle.std.proofs.Common.{subst}
use Rattle.l4_core.specs.Inner.Covered.{HasNoDuty}
use Rattle.l4_core.specs.Processor.{Processor}
use Rattle.l4_core.proofs.processor.Core.next_duty.Goals as goal

pub returns-in-None : goal.returns-in-None
returns-in-None c =
    subst (λ (q : Processor). HasNoDuty q.machine q.cpu q.local) c.self.view_is
    (λ place own. c.self.invariant.covers.others place own (c.in-None.ensures place))
