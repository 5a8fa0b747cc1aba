use Rattle.std.proofs.Common.{◌≡◌, ◌++◌, length}
use Rattle.l4_explore.specs.Inner.Codes.{code_at}
use Rattle.l4_explore.specs.Inner.Rows.{joined, numbers_of, AreBelow}
use Rattle.l4_explore.proofs.pieces.Pieces.append.Given as goal

-- The parts so far, and those of what is left of the row, are the piece.
abbrev pub invariant-loop-part : goal.invariant-loop-part
invariant-loop-part l = record {
  below : AreBelow (length l.self-inside.parts) (numbers_of l.row);
  same : l.code.items ++ joined l.self-inside.parts (numbers_of l.row)
      ≡ l.fn.code.items ++ code_at l.self l.number;
}

abbrev pub decreases-loop-part : goal.decreases-loop-part
decreases-loop-part l = length l.row
