use Rattle.l4_bisimilar.proofs.Stamps.{happen_alike}
use Rattle.l4_bisimilar.proofs.law_alike.Goals as goal

pub returns : goal.returns
returns c = happen_alike
