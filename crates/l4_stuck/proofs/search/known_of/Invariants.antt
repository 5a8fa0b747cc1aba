use Rattle.std.proofs.Common.{◌<◌, ℕ, length}
use Rattle.l4_explore.specs.Search.{seen_at}
use Rattle.l4_stuck.proofs.search.known_of.Given as goal

-- Fewer entries lead to those before the next one than the search went.
abbrev pub invariant-loop-place : goal.invariant-loop-place
invariant-loop-place l =
    (i : ℕ) → i < l.place → length (seen_at l.explored.found i).schedule < l.explored.depth
