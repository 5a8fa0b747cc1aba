use Rattle.std.proofs.Common.{◌≡◌, ◌+◌, ◌-◌, length}
use Rattle.l4_parts.proofs.events.Events.put_last.Given as goal

abbrev pub invariant-loop-self : goal.invariant-loop-self
invariant-loop-self l = l.self.events ≡ l.fn.self.events

abbrev pub decreases-loop-self : goal.decreases-loop-self
decreases-loop-self l = (l.part + 1) - length l.self.lasts.items
