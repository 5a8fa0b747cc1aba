use Rattle.std.proofs.Common.{◌≡◌, ◌+◌, ◌++◌, drop, map}
use Rattle.l4_replay.specs.Entries.{entry_from, first_stranger}
use Rattle.l4_replay.specs.Inner.Processors.{under_way}
use Rattle.l4_replay.proofs.Replays.{IsReplaying}
use Rattle.l4_replay.proofs.schedules.ended_replay.Given as goal

abbrev pub invariant-loop-place : goal.invariant-loop-place
invariant-loop-place l = record {
  come : IsReplaying l.machine (map entry_from l.entries) (under_way l.processors)
      (l.buffer.before ++ l.buffer.steps) l.place;
  lawful : first_stranger l.machine 1 (map entry_from l.entries) ≡ first_stranger l.machine (l.place + 1)
      (drop l.place (map entry_from l.entries));
}
