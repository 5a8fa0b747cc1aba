use Rattle.l4_model.proofs.Lawful.{lawful}
use Rattle.l4_model.proofs.law_of_histories.Goals as goal

pub returns : goal.returns
returns c = λ m h is. lawful m h is.0 is.1
