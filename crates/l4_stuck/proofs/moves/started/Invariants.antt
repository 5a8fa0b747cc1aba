use Rattle.l4_stuck.specs.Inner.Going.{rows_of}
use Rattle.l4_stuck.proofs.Marking.{AreStartedSoFar}
use Rattle.l4_stuck.proofs.moves.started.Given as goal

-- The places before the next one are marked, or not.
abbrev pub invariant-loop-place : goal.invariant-loop-place
invariant-loop-place l = AreStartedSoFar (rows_of l.graph) l.known l.thread l.moves.items l.place
