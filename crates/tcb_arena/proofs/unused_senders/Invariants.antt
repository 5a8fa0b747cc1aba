use Rattle.std.proofs.Common.{◌≡◌, length}
use Rattle.tcb_arena.proofs.unused_senders.Given as goal

abbrev pub invariant-loop : goal.invariant-loop
invariant-loop l = length l.senders.items ≡ l.counter
