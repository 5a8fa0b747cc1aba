use Rattle.l4_persistent.proofs.Marked.{are_aims}
use Rattle.l4_persistent.proofs.law_aims.Goals as goal

pub returns : goal.returns
returns c = λ m. are_aims m
