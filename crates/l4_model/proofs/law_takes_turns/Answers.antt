use Rattle.l4_model.proofs.Turns.{takes_turns}
use Rattle.l4_model.proofs.law_takes_turns.Goals as goal

pub returns : goal.returns
returns c = λ m h is. takes_turns m h is.0 is.1
