use Rattle.l4_bisimilar.proofs.Numbers.{happen_similar}
use Rattle.l4_bisimilar.proofs.law_similar.Goals as goal

pub returns : goal.returns
returns c = happen_similar
