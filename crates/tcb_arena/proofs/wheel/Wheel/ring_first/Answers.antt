use Rattle.tcb_arena.proofs.Wheels.{are-rings}
use Rattle.tcb_arena.proofs.wheel.Wheel.ring_first.Goals as goal

pub returns-clause-rings : goal.returns-clause-rings
returns-clause-rings c =
    let f = c.self.inside in
    are-rings f.deadlines.items f.rings c.args.self.now c.self.invariant.placed c.self.view_is
