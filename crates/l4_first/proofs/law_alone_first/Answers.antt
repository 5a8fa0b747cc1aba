use Rattle.l4_first.proofs.First.{alone_first}
use Rattle.l4_first.proofs.law_alone_first.Goals as goal

pub returns : goal.returns
returns c = alone_first
