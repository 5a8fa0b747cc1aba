use Rattle.std.proofs.Common.{◌≡◌, ◌+◌, ◌++◌, drop, map}
use Rattle.l4_replay.specs.Entries.{entry_from}
use Rattle.l4_schedules.specs.Written.{in_lines}
use Rattle.l4_schedules.proofs.writing.push_each.Given as goal

-- What stands so far, and what is to come.
abbrev pub invariant-loop-i : goal.invariant-loop-i
invariant-loop-i l =
    l.text.items ++ in_lines (l.before + l.i) (map entry_from (drop l.i l.entries))
    ≡ l.initial.text.items ++ in_lines l.before (map entry_from l.entries)
