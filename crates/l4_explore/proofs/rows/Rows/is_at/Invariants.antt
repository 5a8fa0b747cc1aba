use Rattle.std.proofs.Common.{◌≡◌, length}
use Rattle.std.specs.Str.{bytes_eq}
use Rattle.l4_explore.specs.Inner.Codes.{code_at}
use Rattle.l4_explore.specs.Inner.Rows.{joined, numbers_of, AreBelow}
use Rattle.l4_explore.proofs.rows.Rows.is_at.Given as goal

-- What is left of the row is what is left of the code, or is not, as the whole of both.
abbrev pub invariant-loop-number : goal.invariant-loop-number
invariant-loop-number l = record {
  below : AreBelow (length l.self-inside.pieces) (numbers_of l.row);
  same : bytes_eq (joined l.self-inside.pieces (numbers_of l.row)) l.rest
      ≡ bytes_eq (code_at l.self l.place) l.code;
}

abbrev pub decreases-loop-number : goal.decreases-loop-number
decreases-loop-number l = length l.row
