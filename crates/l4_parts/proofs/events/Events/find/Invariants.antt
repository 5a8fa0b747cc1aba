use Rattle.l4_parts.proofs.events.Events.find.Given as goal

abbrev pub decreases-loop-next : goal.decreases-loop-next
decreases-loop-next l = l.next
