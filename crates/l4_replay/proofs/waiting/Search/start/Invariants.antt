use Rattle.std.proofs.Common.{◌≡◌, ◌+◌, ◌≤◌, drop, length}
use Rattle.std.specs.Prelude.{filter_map}
use Rattle.l4_replay.specs.Inner.Waiting.{count_undecided, sought}
use Rattle.l4_replay.proofs.waiting.Search.start.Given as goal

abbrev pub invariant-loop-start : goal.invariant-loop-start
invariant-loop-start l = record {
  within : l.start ≤ length l.history.steps;
  found : l.missing + length (filter_map (sought l.self) (drop l.start l.history.steps)) ≡ count_undecided l.self.at_home.now.sends.items;
}

abbrev pub decreases-loop-start : goal.decreases-loop-start
decreases-loop-start l = l.start
