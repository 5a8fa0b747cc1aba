use Rattle.std.proofs.Common.{ℕ, ◌≡◌, ◌<◌, true, length, slice_index_or}
use Rattle.l4_sets.specs.Inner.Sets.{has}
use Rattle.l4_endings.specs.Inner.Posted.{may_post_in}
use Rattle.l4_endings.proofs.sets.persistent_set.Given as goal

-- Of the processors before the next one it is known who may post to them.
abbrev pub invariant-loop-cpu : goal.invariant-loop-cpu
invariant-loop-cpu l = record {
  long : length l.all_posters.items ≡ l.cpu;
  each : length l.all_moves.items ≡ l.cpu;
  known : (to : ℕ) → to < l.cpu → (from : ℕ) → from < l.cpus →
      may_post_in l.parts l.row l.cpus from to ≡ true →
      has (slice_index_or l.all_posters.items to 0) from ≡ true;
}
