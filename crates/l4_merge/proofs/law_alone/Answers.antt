use Rattle.l4_merge.proofs.Alone.{alone}
use Rattle.l4_merge.proofs.law_alone.Goals as goal

pub returns : goal.returns
returns c = alone
