use Rattle.std.proofs.Common.{arith}
use Rattle.l4_invariants.proofs.Shortest.{met}
use Rattle.l4_invariants.proofs.law_met.Goals as goal

pub returns : goal.returns
returns c = λ m condition entries w timed tells short leads holds.
    met m condition entries w timed tells (omega (arith, short)) leads holds
