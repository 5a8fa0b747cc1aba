use Rattle.std.proofs.Common.{◌≡◌, ◌+◌, drop, map, take}
use Rattle.l4_replay.specs.Entries.{entry_from, first_stranger}
use Rattle.l4_rounds.specs.Inner.Replays.{entries_of, IsReplay}
use Rattle.l4_rounds.proofs.rest.replayed.Given as goal

-- It is the replay of the entries before the next one.
abbrev pub invariant-loop-place : goal.invariant-loop-place
invariant-loop-place l = record {
  replay : IsReplay l.replay;
  machine : l.replay.machine.now ≡ l.machine;
  entries : entries_of l.replay ≡ take l.place (map entry_from l.entries);
  lawful : first_stranger l.machine 1 (map entry_from l.entries)
      ≡ first_stranger l.machine (l.place + 1) (drop l.place (map entry_from l.entries));
}
