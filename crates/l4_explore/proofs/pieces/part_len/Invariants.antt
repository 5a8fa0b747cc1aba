use Rattle.std.proofs.Common.{◌-◌, ◌<◌, ◌≤◌, length}
use Rattle.l4_explore.proofs.pieces.part_len.Given as goal

abbrev pub invariant-loop-len : goal.invariant-loop-len
invariant-loop-len l = record {
  some : 0 < l.len;
  inside : l.len ≤ length l.code;
}

abbrev pub decreases-loop-len : goal.decreases-loop-len
decreases-loop-len l = length l.code - l.len
