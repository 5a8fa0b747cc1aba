use Rattle.std.proofs.Common.{◌≡◌, ◌+◌, drop, map}
use Rattle.l4_replay.specs.Entries.{entry_from, first_stranger}
use Rattle.l4_told.proofs.Entries.{IsReplaying}
use Rattle.l4_told.proofs.told.told_replay.Given as goal

abbrev pub invariant-loop-place : goal.invariant-loop-place
invariant-loop-place g l = record {
  come : IsReplaying l.machine (map entry_from l.entries) l.place (λ steps.
      g.L.Listener.hears l.initial.listener steps l.listener) l.replay;
  lawful : first_stranger l.machine 1 (map entry_from l.entries) ≡ first_stranger l.machine (l.place + 1)
      (drop l.place (map entry_from l.entries));
}
