use Rattle.l4_audit.specs.Inner.Audited.{senders_of}
use Rattle.l4_audit.proofs.Lists.{lists_as_many}
use Rattle.l4_audit.proofs.Writing.{as_many}
use Rattle.l4_audit.proofs.world.World.facts.Goals as goal

pub returns-clause-threads : goal.returns-clause-threads
returns-clause-threads c =
    let i = c.self.inside in
    as_many i.machine.now i.threads.items (senders_of i.lists.waiting) i.clocks.items _ c.args.self.now c.self.view_is c.self.invariant

pub returns-clause-lists : goal.returns-clause-lists
returns-clause-lists c =
    let i = c.self.inside in
    lists_as_many i.machine.now i.threads.items i.lists.waiting i.clocks.items _ c.args.self.now c.self.view_is c.self.invariant
