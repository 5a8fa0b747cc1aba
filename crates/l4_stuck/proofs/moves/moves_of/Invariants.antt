use Rattle.std.proofs.Common.{◌≡◌, ◌<◌, ◌≤◌, ℕ, false, true, length, List}
use Rattle.l4_model.specs.Machine.{Machine}
use Rattle.l4_worlds.specs.Histories.{IsTimed}
use Rattle.l4_explore.specs.Search.{Seen}
use Rattle.l4_forever.specs.Inner.Graph.{AreReached}
use Rattle.l4_forever.specs.Moves.{moves_at, AreJustified}
use Rattle.l4_forever.specs.Inner.Rows.{wait_by}
use Rattle.l4_forever.specs.Waits.{is_waiting}
use Rattle.l4_stuck.specs.Inner.Going.{rows_of, unmarked, IsGraphOf}
use Rattle.l4_stuck.proofs.moves.moves_of.Given as goal

-- What is not marked was not marked at first, and each mark is justified.
abbrev pub invariant-loop : goal.invariant-loop
invariant-loop l = record {
  free : (place : ℕ) → moves_at l.moves.items place ≡ false →
      (place < l.known) × (is_waiting (wait_by (rows_of l.graph) place l.thread) ≡ true);
  justified : (m : Machine) (found : List Seen) → IsTimed m → AreReached m found →
      IsGraphOf m found l.graph → length found ≤ l.known →
      AreJustified m found l.thread l.moves.items;
}

abbrev pub decreases-loop : goal.decreases-loop
decreases-loop l = unmarked l.moves.items
