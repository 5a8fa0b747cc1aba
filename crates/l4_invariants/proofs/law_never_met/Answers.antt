use Rattle.l4_invariants.proofs.Finding.{never_met}
use Rattle.l4_invariants.proofs.law_never_met.Goals as goal

pub returns : goal.returns
returns c = λ m reads condition found depth timed tells read explored none.
    never_met m reads condition found depth timed tells read explored none
