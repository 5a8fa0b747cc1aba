use Rattle.std.proofs.Common.{◌≡◌, ◌++◌, map, take}
use Rattle.std.specs.Prelude.{codes, flat_map}
use Rattle.l4_replay.specs.Entries.{entry_from}
use Rattle.l4_schedules.specs.Items.{item_of}
use Rattle.l4_schedules.proofs.writing.push_others.Given as goal

abbrev pub invariant-loop-entry : goal.invariant-loop-entry
invariant-loop-entry l = l.lines.items ≡ l.initial.lines.items ++ flat_map (λ entry. codes "," ++ item_of entry) (map entry_from (take l.entry-index l.entries))
