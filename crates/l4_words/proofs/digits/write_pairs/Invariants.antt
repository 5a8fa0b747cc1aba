use Rattle.std.proofs.Common.{◌≡◌, ◌+◌, ◌-◌, ◌*◌, ◌++◌, drop}
use Rattle.l4_words.specs.Numbers.{pairs_of}
use Rattle.l4_words.proofs.digits.write_pairs.Given as goal

abbrev pub invariant-loop-pair : goal.invariant-loop-pair
invariant-loop-pair l = record {
  place : l.at + 2 * l.pair ≡ l.end;
  written : pairs_of (l.bytes - l.pair) l.left ++ drop l.at l.line ≡ pairs_of l.bytes l.number ++ drop l.end l.fn.line;
}
