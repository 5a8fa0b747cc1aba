use Rattle.std.proofs.Common.{◌≡◌, ◌<◌, ◌++◌, reverse, length}
use Rattle.l4_explore.specs.Search.{seen_at}
use Rattle.l4_explore.proofs.found.Found.schedule.Given as goal

-- The schedule of the place that is left, and the entries so far turned round, are the schedule.
abbrev pub invariant-loop-arrival : goal.invariant-loop-arrival
invariant-loop-arrival l = record {
  inside : l.place < length l.self;
  same : (seen_at l.self l.place).schedule ++ reverse l.schedule.items
      ≡ (seen_at l.self l.fn.place).schedule;
}

abbrev pub decreases-loop-arrival : goal.decreases-loop-arrival
decreases-loop-arrival l = l.place
