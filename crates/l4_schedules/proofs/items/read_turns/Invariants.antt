use Rattle.std.proofs.Common.{◌≡◌, ◌≤◌, ◌+◌, length}
use Rattle.std.specs.Prelude.{map}
use Rattle.l4_replay.specs.Entries.{entry_from, most_events}
use Rattle.l4_schedules.specs.Items.{read_items}
use Rattle.l4_schedules.proofs.items.read_turns.Given as goal

abbrev pub invariant-turns : goal.invariant-turns
invariant-turns l = record {
  whole : read_items l.machine (map entry_from l.entries.items) l.items ≡ read_items l.machine (map entry_from l.initial.entries.items) l.initial.items;
  counted : length l.entries.items + length l.items ≤ most_events;
  fewer : length l.items ≤ length l.initial.items;
}

abbrev pub decreases-turns : goal.decreases-turns
decreases-turns l = length l.items
