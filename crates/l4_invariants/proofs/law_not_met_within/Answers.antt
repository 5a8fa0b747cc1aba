use Rattle.l4_invariants.proofs.Shortest.{not_met_within}
use Rattle.l4_invariants.proofs.law_not_met_within.Goals as goal

pub returns : goal.returns
returns c = λ m condition found depth is_whole timed tells explored none.
    not_met_within m condition found depth is_whole timed tells explored none
