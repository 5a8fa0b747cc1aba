use Rattle.tcb_arena.proofs.Showing.{shown-unqueued}
use Rattle.tcb_arena.proofs.Arena.unqueue_send.Goals as goal

pub returns : goal.returns
returns c =
    let f = c.self.inside in
    shown-unqueued f.waiting c.take_out.new.self f.senders.items f.ready f.wheel c.args.self.now c.args.block c.self.view_is c.take_out.ensures
