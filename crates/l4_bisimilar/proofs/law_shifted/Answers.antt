use Rattle.l4_bisimilar.proofs.Times.{handles_shifted, ticks_shifted, turns_shifted}
use Rattle.l4_bisimilar.proofs.law_shifted.Goals as goal

pub returns-clause-letters : goal.returns-clause-letters
returns-clause-letters c = handles_shifted

pub returns-clause-turns : goal.returns-clause-turns
returns-clause-turns c = λ m r s cpu shifted. turns_shifted m r.system s.system cpu shifted

pub returns-clause-ticks : goal.returns-clause-ticks
returns-clause-ticks c = λ m r s cpu to then shifted far.
    ticks_shifted m r.system s.system cpu to then shifted far
