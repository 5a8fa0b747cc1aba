use Rattle.l4_machine.proofs.OneOutcome.{one_outcome}
use Rattle.l4_machine.proofs.laws.law_one_outcome.Goals as goal

pub returns : goal.returns
returns c = one_outcome
