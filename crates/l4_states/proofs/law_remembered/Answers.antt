use Rattle.l4_states.proofs.Remembered.{are_remembered}
use Rattle.l4_states.proofs.law_remembered.Goals as goal

pub returns : goal.returns
returns c = are_remembered
