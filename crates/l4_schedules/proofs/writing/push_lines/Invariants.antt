use Rattle.std.proofs.Common.{◌≡◌, ◌+◌, ◌%◌, ◌++◌, length, map}
use Rattle.l4_replay.specs.Entries.{entry_from}
use Rattle.l4_schedules.specs.Written.{in_lines}
use Rattle.l4_schedules.proofs.writing.push_lines.Given as goal

-- What stands so far, and what is to come.
abbrev pub invariant-loop-line : goal.invariant-loop-line
invariant-loop-line l = record {
  begins : l.before % 16 ≡ 0;
  count : l.before + length l.others ≡ length l.entries;
  text : l.text.items ++ in_lines l.before (map entry_from l.others)
      ≡ l.initial.text.items ++ in_lines 0 (map entry_from l.entries);
}

abbrev pub decreases-loop-line : goal.decreases-loop-line
decreases-loop-line l = length l.others
