use Rattle.std.proofs.Common.{◌∙◌}
use Rattle.tcb_arena.proofs.Showing.{free-shown}
use Rattle.tcb_arena.proofs.Arena.is_queued.Goals as goal

pub returns : goal.returns
returns c =
    let f = c.self.inside in
    c.is_linked.ensures.linked ∙ free-shown f.waiting f.senders.items f.ready f.wheel c.args.self.now c.args.block c.self.view_is
