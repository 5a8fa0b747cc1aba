use Rattle.std.proofs.Common.{length}
use Rattle.l4_explore.specs.Inner.Rows.{AreLonger}
use Rattle.l4_explore.proofs.Parted.{IsBegun}
use Rattle.l4_explore.proofs.rows.row_of.Given as goal

-- The row has the pieces of the code before those that are left.
abbrev pub invariant-loop-rest : goal.invariant-loop-rest
invariant-loop-rest l = record {
  begun : IsBegun l.pieces l.row.items l.code l.rest;
  more : AreLonger l.fn.pieces l.pieces;
}

abbrev pub decreases-loop-rest : goal.decreases-loop-rest
decreases-loop-rest l = length l.rest
