use Rattle.std.proofs.Common.{◌≡◌, map, true}
use Rattle.l4_core_model.specs.Schedules.{replay_entries}
use Rattle.l4_replay.specs.Entries.{entry_from}
use Rattle.l4_next.specs.Nexts.{are_spelled, nexts_text}
use Rattle.l4_next.proofs.Telling.{firsts}
use Rattle.l4_next.proofs.nexts.next_lines.Given as goal

-- The choices below the next one were told.
abbrev pub invariant-loop-number : goal.invariant-loop-number
invariant-loop-number l = record {
  text : l.lines.items
      ≡ nexts_text (firsts l.machine (replay_entries l.machine (map entry_from l.entries)).system l.number);
  spelled : are_spelled (firsts l.machine (replay_entries l.machine (map entry_from l.entries)).system l.number)
      ≡ true;
}
