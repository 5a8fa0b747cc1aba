use Rattle.l4_sets.proofs.Bits.{from_has}
use Rattle.l4_sets.proofs.processors.Processors.from.Goals as goal

pub returns : goal.returns
returns c = λ cpu from below. from_has c.args.first cpu c.requires from below
