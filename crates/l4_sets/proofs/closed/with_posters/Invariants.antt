use Rattle.std.proofs.Common.{ℕ, ◌≡◌, ◌<◌, true, slice_index_or}
use Rattle.l4_sets.specs.Inner.Sets.{has}
use Rattle.l4_sets.proofs.closed.with_posters.Given as goal

-- Those of the processors before the next one are in.
abbrev pub invariant-loop-cpu : goal.invariant-loop-cpu
invariant-loop-cpu l =
    (from to : ℕ) → to < l.cpu → has l.set to ≡ true →
    has (slice_index_or l.posters to 0) from ≡ true → has l.more from ≡ true
