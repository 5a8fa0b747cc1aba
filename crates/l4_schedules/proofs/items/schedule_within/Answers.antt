use Rattle.std.proofs.Common.{◌≤◌, length, map, arith}
use Rattle.l4_replay.specs.Entries.{entry_from, most_events}
use Rattle.l4_schedules.specs.Items.{items_of}
use Rattle.l4_schedules.proofs.Lawful.{lawful_result}
use Rattle.l4_schedules.proofs.items.schedule_within.Goals as goal

pub returns-clause-lawful : goal.returns-clause-lawful
returns-clause-lawful c =
    let items = items_of c.args.list.now in
    let within : length items ≤ most_events = omega (arith, c.item_count-items.ensures, c.if-items-most.false, c.requires) in
    lawful_result c.args.machine.now items (λ entries. map entry_from entries.items) c.entries_of.result within c.entries_of.ensures.ok
