use Rattle.l4_first.proofs.First.{choices}
use Rattle.l4_first.proofs.law_choices.Goals as goal

pub returns : goal.returns
returns c = choices
