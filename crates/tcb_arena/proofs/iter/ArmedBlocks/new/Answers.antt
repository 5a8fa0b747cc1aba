use Rattle.tcb_arena.proofs.Leaving.{left-armed}
use Rattle.tcb_arena.proofs.iter.ArmedBlocks.new.Goals as goal

pub returns : goal.returns
returns c = left-armed c.args.wheel.now c.first_armed.result 0 c.first_armed.ensures.once c.first_armed.ensures.first
