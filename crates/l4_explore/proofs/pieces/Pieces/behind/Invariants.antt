use Rattle.std.proofs.Common.{◌≡◌, ◌++◌, ℕ, List, length}
use Rattle.l4_explore.specs.Inner.Codes.{code_at}
use Rattle.l4_explore.specs.Inner.Rows.{joined, numbers_of, AreBelow}
use Rattle.l4_explore.proofs.Parted.{BeginAlike}
use Rattle.l4_explore.proofs.pieces.Pieces.behind.Given as goal

-- What is left of the code begins with what is left of the row, or does not, as the whole of both.
abbrev pub invariant-loop-part : goal.invariant-loop-part
invariant-loop-part l = record {
  below : AreBelow (length l.self-inside.parts) (numbers_of l.row);
  alike : BeginAlike (joined l.self-inside.parts (numbers_of l.row)) l.rest
      (code_at l.self l.number) l.code;
}

abbrev pub decreases-loop-part : goal.decreases-loop-part
decreases-loop-part l = length l.row
