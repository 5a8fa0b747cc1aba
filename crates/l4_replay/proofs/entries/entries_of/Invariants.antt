use Rattle.std.proofs.Common.{◌≡◌, map, take}
use Rattle.l4_replay.specs.Entries.{entry_from}
use Rattle.l4_core_model.specs.Schedules.{numbered}
use Rattle.l4_replay.proofs.entries.entries_of.Given as goal

abbrev pub invariant-loop-number : goal.invariant-loop-number
invariant-loop-number l = record {
  read : map entry_from l.entries.items ≡ map numbered (take l.number-index l.numbers);
}
