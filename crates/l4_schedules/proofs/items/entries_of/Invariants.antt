use Rattle.std.proofs.Common.{◌≡◌, ◌≤◌, ◌+◌, [], length}
use Rattle.std.specs.Prelude.{map}
use Rattle.l4_replay.specs.Entries.{entry_from, most_events}
use Rattle.l4_schedules.specs.Items.{items_of, read_items}
use Rattle.l4_schedules.proofs.items.entries_of.Given as goal

abbrev pub invariant-loop-item : goal.invariant-loop-item
invariant-loop-item l = record {
  whole : read_items l.machine (map entry_from l.entries.items) l.items ≡ read_items l.machine [] (items_of l.list);
  counted : length l.entries.items + length l.items ≤ most_events;
}

abbrev pub decreases-loop-item : goal.decreases-loop-item
decreases-loop-item l = length l.items
