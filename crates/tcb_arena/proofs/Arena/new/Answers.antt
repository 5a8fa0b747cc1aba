use Rattle.tcb_arena.proofs.Showing.{shown-empty}
use Rattle.tcb_arena.proofs.Arena.new.Goals as goal

pub returns : goal.returns
returns c =
    shown-empty c.args.blocks c.in_ok-waiting.waiting c.in_ok-senders.senders.items c.in_ok-ready.ready c.in_ok-wheel.wheel c.in_ok-waiting.ensures c.in_ok-ready.ensures c.in_ok-wheel.ensures
