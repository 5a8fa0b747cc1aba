use Rattle.l4_expect.proofs.Kept.{nothing_lost, told_again}
use Rattle.l4_expect.proofs.laws.law_nothing_is_lost.Goals as goal

pub returns-clause-all : goal.returns-clause-all
returns-clause-all c = nothing_lost

pub returns-clause-again : goal.returns-clause-again
returns-clause-again c = told_again
