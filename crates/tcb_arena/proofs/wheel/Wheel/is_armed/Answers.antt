use Rattle.std.proofs.Common.{◌∙◌}
use Rattle.tcb_arena.proofs.Wheels.{linked-due}
use Rattle.tcb_arena.proofs.wheel.Wheel.is_armed.Goals as goal

pub returns : goal.returns
returns c =
    let f = c.self.inside in
    c.is_linked.ensures.linked ∙ linked-due f.deadlines.items f.rings c.args.self.now c.args.block c.self.view_is
