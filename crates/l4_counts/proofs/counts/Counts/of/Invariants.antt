use Rattle.std.proofs.Common.{◌≡◌, take}
use Rattle.l4_counts.specs.Counts.{counts_of}
use Rattle.l4_counts.proofs.counts.Counts.of.Given as goal

abbrev pub invariant-loop-place : goal.invariant-loop-place
invariant-loop-place l = l.counts ≡ counts_of l.id (take l.place l.history.steps)
