use Rattle.l4_first.proofs.First.{alone_anyway}
use Rattle.l4_first.proofs.law_alone_anyway.Goals as goal

pub returns : goal.returns
returns c = alone_anyway
