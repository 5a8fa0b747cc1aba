use Rattle.std.proofs.Common.{◌∷◌, [], map, ap, sym, ◌∙◌, arith}
use Rattle.std.proofs.lemmas.List.{length-map, map-append}
use Rattle.std.proofs.lemmas.Result.{IfOk-weaker}
use Rattle.l4_core_model.specs.Runs.{told}
use Rattle.l4_core_model.specs.Schedules.{replay_entries, turns_of}
use Rattle.l4_replay.specs.Entries.{entries_fault, entry_from, first_stranger}
use Rattle.l4_rounds.proofs.Rounds.{lawful_more}
use Rattle.l4_steps.specs.Replies.{did_text, moves}
use Rattle.l4_steps.proofs.Done.{did_written, is_refused, is_taken, room}
use Rattle.l4_steps.proofs.replies.does.Goals as goal

pub outcome_of-requires : goal.outcome_of-requires
outcome_of-requires c =
    let count = length-map c.args.entries.now entry_from in
    ap (λ es. entries_fault c.args.machine.now (map entry_from es)) (c.as_slice.ensures.value ∙ c.in_ok-all.ensures)
    ∙ ap (entries_fault c.args.machine.now) (map-append entry_from c.args.entries.now (c.args.entry ∷ []))
    ∙ room c.args.machine.now (map entry_from c.args.entries.now) (entry_from c.args.entry)
    (omega (arith, count, c.if-entries-ge-MOST_ENTRIES.false)) c.requires.session.lawful c.requires.own

pub returns-then-outcome-entries : goal.returns-then-outcome-entries
returns-then-outcome-entries c =
    let m = c.args.machine.now in
    let es = map entry_from c.args.entries.now in
    let e = entry_from c.args.entry in
    let count = length-map c.args.entries.now entry_from in
    let is = c.in_ok-outcome.ensures.replayed.turns
    ∙ ap (λ xs. turns_of (replay_entries m (map entry_from xs))) (c.as_slice.ensures.value ∙ c.in_ok-all.ensures)
    ∙ ap (λ xs. turns_of (replay_entries m xs)) (map-append entry_from c.args.entries.now (c.args.entry ∷ [])) in
    IfOk-weaker c.says-then-outcome-entries.result _ _
    (λ r h. h ∙ sym (is_refused m es e c.in_ok-outcome.outcome.turns c.requires.session
    (omega (arith, count, c.if-entries-ge-MOST_ENTRIES.false)) is (omega (arith, count, c.if-outcome-entries.true))))
    c.says-then-outcome-entries.ensures

pub moves-requires-clause-lawful : goal.moves-requires-clause-lawful
moves-requires-clause-lawful c =
    ap (λ xs. first_stranger c.args.machine.now 1 (map entry_from xs)) c.in_ok-all.ensures
    ∙ ap (first_stranger c.args.machine.now 1) (map-append entry_from c.args.entries.now (c.args.entry ∷ []))
    ∙ lawful_more c.args.machine.now 1 (map entry_from c.args.entries.now) (entry_from c.args.entry)
    c.requires.session.lawful c.requires.own

pub returns : goal.returns
returns c =
    let m = c.args.machine.now in
    let es = map entry_from c.args.entries.now in
    let e = entry_from c.args.entry in
    let count = length-map c.args.entries.now entry_from in
    let more = map-append entry_from c.args.entries.now (c.args.entry ∷ []) in
    let all = c.as_slice.ensures.value ∙ c.in_ok-all.ensures in
    let is = c.in_ok-outcome.ensures.replayed.turns
    ∙ ap (λ xs. turns_of (replay_entries m (map entry_from xs))) all
    ∙ ap (λ xs. turns_of (replay_entries m xs)) more in
    let after = c.in_ok-after.ensures ∙ c.in_ok-outcome.ensures.replayed.history
    ∙ ap (λ xs. told (replay_entries m (map entry_from xs)).events) all
    ∙ ap (λ xs. told (replay_entries m xs).events) more in
    let text = did_written m es e c.in_ok-before.before.steps c.in_ok-after.after.steps
    c.new-text.result.items c.extend_from_slice.new.self.items c.write_event.new.lines.items
    c.in_ok-before.ensures.told after c.new-text.ensures.items c.in_ok-extend_from_slice.ensures.items c.in_ok-write_event.ensures in
    IfOk-weaker c.moves.result _ _
    (λ r h. h ∙ ap (λ front. moves m front (map entry_from c.in_ok-all.all.items)) text
    ∙ ap (λ xs. moves m (did_text m es e) (map entry_from xs)) c.in_ok-all.ensures
    ∙ ap (moves m (did_text m es e)) more
    ∙ sym (is_taken m es e c.in_ok-outcome.outcome.turns c.requires.session
    (omega (arith, count, c.if-entries-ge-MOST_ENTRIES.false)) is (omega (arith, count, c.if-outcome-entries.false))))
    c.moves.ensures
