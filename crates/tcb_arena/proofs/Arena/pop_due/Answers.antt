use Rattle.tcb_arena.proofs.Showing.{shown-undue}
use Rattle.tcb_arena.proofs.Arena.pop_due.Goals as goal

pub returns-clause-rest : goal.returns-clause-rest
returns-clause-rest c =
    let f = c.self.inside in
    shown-undue c.args.now f.waiting f.senders.items f.ready f.wheel c.pop_due.new.self c.args.self.now c.self.view_is c.pop_due.ensures.armed
