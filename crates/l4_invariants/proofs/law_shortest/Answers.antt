use Rattle.l4_invariants.proofs.Shortest.{shortest}
use Rattle.l4_invariants.proofs.law_shortest.Goals as goal

pub returns : goal.returns
returns c = λ m condition found depth place is_whole timed tells low explored first.
    shortest m condition found depth is_whole timed tells explored place low first
