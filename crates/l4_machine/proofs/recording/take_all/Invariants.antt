use Rattle.std.proofs.Common.{◌≡◌, ◌++◌, length, map}
use Rattle.std.specs.List.{AllByRecursion}
use Rattle.l4_replay.specs.Entries.{entry_from}
use Rattle.l4_machine.specs.Inner.EventsLeft.{all_left, left, IsUnmerged}
use Rattle.l4_machine.specs.Inner.Recorded.{entries_left}
use Rattle.l4_machine.specs.Inner.Rising.{RiseFrom}
use Rattle.l4_machine.proofs.recording.take_all.Given as goal

abbrev pub invariant-loop-place : goal.invariant-loop-place
invariant-loop-place l = record {
  whole : AllByRecursion (IsUnmerged l.processors) l.logs;
  rising : RiseFrom 0 (map (left l.processors) l.logs);
  taken : entries_left l.processors l.fn.logs ≡ map entry_from l.entries.items ++ entries_left l.processors l.logs;
}

abbrev pub decreases-loop-place : goal.decreases-loop-place
decreases-loop-place l = length (all_left l.processors l.logs)
