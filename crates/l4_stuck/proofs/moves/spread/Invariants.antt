use Rattle.std.proofs.Common.{◌≤◌, length}
use Rattle.l4_stuck.proofs.Marking.{IsRoundOn}
use Rattle.l4_stuck.proofs.moves.spread.Given as goal

-- The edges from `left` on were gone back along.
abbrev pub invariant-loop-left : goal.invariant-loop-left
invariant-loop-left l = record {
  round : IsRoundOn l.graph l.thread l.fn.moves.items l.moves.items l.left l.has_spread;
  within : l.left ≤ length l.graph.edges.items;
}

abbrev pub decreases-loop-left : goal.decreases-loop-left
decreases-loop-left l = l.left
