use Rattle.std.proofs.Common.{length}
use Rattle.l4_explore.proofs.Chains.{IsComeTo}
use Rattle.l4_explore.proofs.row_table.RowTable.find.Given as goal

abbrev pub invariant-loop-self : goal.invariant-loop-self
invariant-loop-self l =
    IsComeTo (length l.self-inside.lasts.items) l.self-inside.codes l.code l.place

abbrev pub decreases-loop-self : goal.decreases-loop-self
decreases-loop-self l = l.place
