use Rattle.l4_audit.specs.Inner.Audited.{senders_of}
use Rattle.l4_audit.proofs.Owing.{owes_more}
use Rattle.l4_audit.proofs.world.World.owe.Goals as goal

pub returns-clause-ok : goal.returns-clause-ok
returns-clause-ok c =
    let i = c.self.inside in
    owes_more i.machine.now i.threads.items (senders_of i.lists.waiting) i.clocks.items i.owed.items _ c.args.self.now c.args.owed c.in-Some.owed c.in-Some.is c.self.view_is c.in_ok-push.ensures.items
