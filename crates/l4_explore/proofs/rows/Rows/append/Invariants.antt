use Rattle.std.proofs.Common.{◌≡◌, ◌++◌, length}
use Rattle.l4_explore.specs.Inner.Codes.{code_at}
use Rattle.l4_explore.specs.Inner.Rows.{joined, numbers_of, AreBelow}
use Rattle.l4_explore.proofs.rows.Rows.append.Given as goal

-- The pieces so far, and those of what is left of the row, are the code.
abbrev pub invariant-loop-number : goal.invariant-loop-number
invariant-loop-number l = record {
  below : AreBelow (length l.self-inside.pieces) (numbers_of l.row);
  same : l.code.items ++ joined l.self-inside.pieces (numbers_of l.row)
      ≡ l.fn.code.items ++ code_at l.self l.place;
}

abbrev pub decreases-loop-number : goal.decreases-loop-number
decreases-loop-number l = length l.row
