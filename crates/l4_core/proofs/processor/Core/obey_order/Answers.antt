use Rattle.std.proofs.Common.{ap, arith}
use Rattle.l4_core.specs.EventBuffers.{EventBuffer}
use Rattle.l4_core.proofs.processor.Core.obey_order.Goals as goal

pub returns-in-Some-clause-slots : goal.returns-in-Some-clause-slots
returns-in-Some-clause-slots g c =
    let same = ap (λ (t : EventBuffer). t.slots) c.emit.ensures in
    let least = c.requires.slots in
    omega (arith, same, least, c.withdraw.ensures.slots)
