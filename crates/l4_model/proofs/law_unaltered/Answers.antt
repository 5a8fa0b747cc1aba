use Rattle.l4_model.proofs.Unaltered.{unaltered}
use Rattle.l4_model.proofs.law_unaltered.Goals as goal

pub returns : goal.returns
returns c = λ m h is. unaltered m h is.0 is.1
