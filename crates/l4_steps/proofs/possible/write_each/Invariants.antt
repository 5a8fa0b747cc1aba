use Rattle.std.proofs.Common.{◌≡◌, ◌+◌, ◌++◌, drop, map}
use Rattle.l4_replay.specs.Entries.{entry_from}
use Rattle.l4_steps.specs.Possible.{choices_from}
use Rattle.l4_steps.proofs.possible.write_each.Given as goal

-- What stands so far, and what is to come.
abbrev pub invariant-loop-i : goal.invariant-loop-i
invariant-loop-i l =
    l.lines.items ++ choices_from l.machine (map entry_from l.entries) (l.i + 1) (map entry_from (drop l.i l.choices))
    ≡ l.initial.lines.items ++ choices_from l.machine (map entry_from l.entries) 1 (map entry_from l.choices)
