use Rattle.std.proofs.Common.{◌+◌, ◌<◌, ◌^◌, subst}
use Rattle.std.specs.Prelude.{IfSome}
use Rattle.l4_core.specs.Processor.{Processor}
use Rattle.l4_core.proofs.Settling.{least-near}
use Rattle.l4_core.proofs.known.ProcessorState.least_deadline.Goals as goal

pub returns-clause-near : goal.returns-clause-near
returns-clause-near c =
    let s = c.self.inside in
    let near = least-near s.clock s.lists.armed c.least_deadline.result c.self.invariant.core.settled.near c.least_deadline.ensures in
    subst (λ (p : Processor). IfSome c.least_deadline.result (λ deadline. deadline < p.local.clock + 2 ^ 42)) c.self.view_is near
