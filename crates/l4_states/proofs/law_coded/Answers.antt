use Rattle.l4_states.proofs.Systems.{are_coded}
use Rattle.l4_states.proofs.law_coded.Goals as goal

pub returns : goal.returns
returns c = are_coded
