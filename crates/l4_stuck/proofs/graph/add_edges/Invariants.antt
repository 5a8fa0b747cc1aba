use Rattle.l4_stuck.proofs.Growing.{AreSoFar}
use Rattle.l4_stuck.proofs.graph.add_edges.Given as goal

-- The edges of the entries before the next one were added.
abbrev pub invariant-loop-entry : goal.invariant-loop-entry
invariant-loop-entry l =
    AreSoFar l.outlook.machine l.found l.place l.outlook.world l.fn.edges.items l.edges.items
    l.entry-index
