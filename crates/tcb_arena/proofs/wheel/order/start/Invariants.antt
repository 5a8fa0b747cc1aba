use Rattle.std.proofs.Common.{◌<◌, length}
use Rattle.tcb_arena.proofs.wheel.order.start.Given as goal

abbrev pub invariant-loop : goal.invariant-loop
invariant-loop l = l.at < length l.latest.items
