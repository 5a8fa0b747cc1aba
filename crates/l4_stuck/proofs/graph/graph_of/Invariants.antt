use Rattle.std.proofs.Common.{◌≡◌, map}
use Rattle.l4_stuck.proofs.Placing.{AreBuilt}
use Rattle.l4_stuck.proofs.graph.graph_of.Given as goal

-- The places before the next one are known.
abbrev pub invariant-loop-place : goal.invariant-loop-place
invariant-loop-place l = record {
  built : AreBuilt l.machine l.found (map (λ row. row.items) l.waits.items) l.edges.items l.place;
  same : l.way ≡ l.machine;
}
