use Rattle.std.proofs.Common.{◌≡◌, ◌+◌, ◌<◌, ◌≤◌, length}
use Rattle.l4_explore.specs.Search.{seen_at}
use Rattle.l4_explore.proofs.found.Found.depth.Given as goal

-- The entries so far, and those of the schedule of the place that is left, are those of the schedule.
abbrev pub invariant-loop-arrival : goal.invariant-loop-arrival
invariant-loop-arrival l = record {
  inside : l.place < length l.self;
  same : l.depth + length (seen_at l.self l.place).schedule
      ≡ length (seen_at l.self l.fn.place).schedule;
  few : l.depth + l.place ≤ l.fn.place;
}

abbrev pub decreases-loop-arrival : goal.decreases-loop-arrival
decreases-loop-arrival l = l.place
