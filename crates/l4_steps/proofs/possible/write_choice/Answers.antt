use Rattle.std.proofs.Common.{◌∷◌, [], map, ap, ◌∙◌, arith}
use Rattle.std.proofs.lemmas.List.{length-map, map-append}
use Rattle.l4_core_model.specs.Runs.{told}
use Rattle.l4_core_model.specs.Schedules.{replay_entries}
use Rattle.l4_replay.specs.Entries.{entries_fault, entry_from}
use Rattle.l4_steps.proofs.Done.{choice_written, room}
use Rattle.l4_steps.proofs.possible.write_choice.Goals as goal

pub history_of-requires : goal.history_of-requires
history_of-requires c =
    let count = length-map c.args.entries.now entry_from in
    let few = c.requires.few in
    ap (λ es. entries_fault c.args.machine.now (map entry_from es)) (c.as_slice.ensures.value ∙ c.in_ok-all.ensures)
    ∙ ap (entries_fault c.args.machine.now) (map-append entry_from c.args.entries.now (c.args.entry ∷ []))
    ∙ room c.args.machine.now (map entry_from c.args.entries.now) (entry_from c.args.entry)
    (omega (arith, count, few)) c.requires.lawful c.requires.own

pub returns : goal.returns
returns c =
    choice_written c.args.machine.now (map entry_from c.args.entries.now) (entry_from c.args.entry) c.args.number
    c.args.before.now.steps c.in_ok-after.after.steps c.args.lines.now.items
    c.extend_from_slice.new.self.items c.push_number.new.lines.items c.extend_from_slice-2.new.self.items
    c.write_event.new.lines.items c.requires.before
    (c.in_ok-after.ensures.told
    ∙ ap (λ es. told (replay_entries c.args.machine.now (map entry_from es)).events) (c.as_slice.ensures.value ∙ c.in_ok-all.ensures)
    ∙ ap (λ es. told (replay_entries c.args.machine.now es).events) (map-append entry_from c.args.entries.now (c.args.entry ∷ [])))
    c.in_ok-extend_from_slice.ensures.items c.in_ok-push_number.ensures c.in_ok-extend_from_slice-2.ensures.items
    c.in_ok-write_event.ensures
