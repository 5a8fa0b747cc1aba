use Rattle.std.proofs.Common.{◌≡◌, ◌<◌, ◌≤◌, length}
use Rattle.l4_explore.specs.Inner.Rows.{numbers_from, numbers_of}
use Rattle.l4_explore.proofs.numbers.first_number.Given as goal

-- What was read of the first number, and the bytes that are left, are the row.
abbrev pub invariant-loop-byte : goal.invariant-loop-byte
invariant-loop-byte l = record {
  same : numbers_from l.high l.rest ≡ numbers_of l.row;
  low : l.high < 33554432;
  short : length l.rest ≤ length l.row;
}

abbrev pub decreases-loop-byte : goal.decreases-loop-byte
decreases-loop-byte l = length l.rest
