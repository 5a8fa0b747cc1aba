use Rattle.std.proofs.Common.{length}
use Rattle.l4_explore.specs.Inner.Rows.{AreMore}
use Rattle.l4_explore.proofs.Parted.{IsBegun}
use Rattle.l4_explore.proofs.pieces.row_of.Given as goal

-- The row has the parts of the piece before those that are left.
abbrev pub invariant-loop-rest : goal.invariant-loop-rest
invariant-loop-rest l = record {
  begun : IsBegun l.parts l.row.items l.piece l.rest;
  more : AreMore l.fn.parts l.parts;
}

abbrev pub decreases-loop-rest : goal.decreases-loop-rest
decreases-loop-rest l = length l.rest
