use Rattle.std.proofs.Common.{◌≡◌, take}
use Rattle.l4_counts.specs.Inner.Threads.{counts_of_each}
use Rattle.l4_counts.proofs.threads.counts_of_each.Given as goal

abbrev pub invariant-loop-place : goal.invariant-loop-place
invariant-loop-place l = l.counts.items ≡ counts_of_each l.machine.threads (take l.place l.history.steps)
