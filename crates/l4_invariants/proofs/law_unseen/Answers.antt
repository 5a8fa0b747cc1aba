use Rattle.l4_invariants.proofs.Unseen.{unseen}
use Rattle.l4_invariants.proofs.law_unseen.Goals as goal

pub returns : goal.returns
returns c = λ m reads w v step hidden goes. unseen m reads w v step hidden goes
