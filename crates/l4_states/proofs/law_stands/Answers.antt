use Rattle.l4_states.proofs.Following.{stands_for_all}
use Rattle.l4_states.proofs.law_stands.Goals as goal

pub returns : goal.returns
returns c = λ m s machine early. stands_for_all m machine s early
