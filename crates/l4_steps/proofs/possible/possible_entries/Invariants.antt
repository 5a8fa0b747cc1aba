use Rattle.std.proofs.Common.{◌≡◌, map}
use Rattle.l4_core_model.specs.Schedules.{replay_entries}
use Rattle.l4_replay.specs.Entries.{entry_from}
use Rattle.l4_steps.proofs.Listed.{firsts}
use Rattle.l4_steps.proofs.possible.possible_entries.Given as goal

-- Of the choices below the next one, those that are possible are in the list.
abbrev pub invariant-loop-number : goal.invariant-loop-number
invariant-loop-number l =
    map entry_from l.all.items
    ≡ firsts l.machine (replay_entries l.machine (map entry_from l.entries)).system l.number
