use Rattle.l4_parts.proofs.parts.Parts.find.Given as goal

abbrev pub decreases-loop-next : goal.decreases-loop-next
decreases-loop-next l = l.next
