use Rattle.std.proofs.Common.{◌≡◌}
use Rattle.std.specs.Prelude.{replicate}
use Rattle.l4_core.proofs.known.none_notified.Given as goal

abbrev pub invariant-loop : goal.invariant-loop
invariant-loop l = l.notified.items ≡ replicate l.counter 0
