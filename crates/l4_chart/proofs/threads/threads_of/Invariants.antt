use Rattle.std.proofs.Common.{◌≡◌, length}
use Rattle.std.specs.Option.{option_copied}
use Rattle.l4_chart.specs.Threads.{items_left, read_threads, threads_of}
use Rattle.l4_chart.proofs.threads.threads_of.Given as goal

-- The threads so far, and the items that are left.
abbrev pub invariant-items : goal.invariant-items
invariant-items l = read_threads l.machine l.threads.items (items_left (option_copied l.rest)) ≡ threads_of l.machine l.list

abbrev pub decreases-items : goal.decreases-items
decreases-items l = length (items_left (option_copied l.rest))
