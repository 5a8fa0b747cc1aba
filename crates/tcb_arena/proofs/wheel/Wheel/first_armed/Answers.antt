use Rattle.tcb_arena.proofs.Once.{once-shown}
use Rattle.tcb_arena.proofs.wheel.Wheel.first_armed.Goals as goal

pub returns-clause-once : goal.returns-clause-once
returns-clause-once c =
    let f = c.self.inside in
    once-shown 64 f.deadlines.items f.rings c.args.self.now c.self.invariant.placed c.names-once.ensures.sound c.self.view_is
