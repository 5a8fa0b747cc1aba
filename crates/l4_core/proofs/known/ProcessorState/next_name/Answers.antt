use Rattle.std.proofs.Common.{arith}
use Rattle.l4_core.proofs.known.ProcessorState.next_name.Goals as goal

pub unwrap-requires : goal.unwrap-requires
unwrap-requires c = c.new.ensures.when.1 (omega arith)
