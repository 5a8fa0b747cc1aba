use Rattle.std.proofs.Common.{◌≡◌, None}
use Rattle.std.specs.Prelude.{replicate}
use Rattle.l4_core.proofs.known.nothing_owed.Given as goal

abbrev pub invariant-loop : goal.invariant-loop
invariant-loop l = l.owed.items ≡ replicate l.counter None
