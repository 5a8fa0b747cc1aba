use Rattle.l4_sets.proofs.Bits.{one_has}
use Rattle.l4_sets.proofs.processors.Processors.one.Goals as goal

pub returns : goal.returns
returns c = λ other. one_has c.args.cpu other c.requires
