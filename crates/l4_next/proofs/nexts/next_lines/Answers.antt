use Rattle.std.proofs.Common.{◌≡◌, ℕ, ◌+◌, ◌/◌, ◌%◌, false, true, map, refl, ap, subst, sym, ◌∙◌, arith}
use Rattle.std.specs.Prelude.{is_some}
use Rattle.std.proofs.lemmas.List.{length-map}
use Rattle.l4_core_model.specs.Schedules.{Entry, replay_entries}
use Rattle.l4_replay.specs.Entries.{entry_from}
use Rattle.l4_states.specs.Choices.{choice, choice_of}
use Rattle.l4_next.specs.Nexts.{next_by}
use Rattle.l4_next.proofs.Telling.{as_goes_on, no_stranger, none_faulty, none_spelled, none_written, spelled_more, text_more}
use Rattle.l4_next.proofs.nexts.next_lines.Goals as goal
use Rattle.l4_next.proofs.nexts.next_lines.Goals.{then-is_possible+in_ok-write_next, else-is_possible}

pub loop-number-preserved : goal.loop-number-preserved
loop-number-preserved c =
    let m = c.args.machine.now in
    let run = replay_entries m (map entry_from c.args.entries.now) in
    let g = run.system in
    let n = c.loop-number.number in
    let lines = c.loop-number.lines.items in
    let before = c.loop-number.invariant in
    elim c.if-is_possible.branch [
      | then-is_possible+in_ok-write_next w ↦
          let e = entry_from w.choice-entry.result in
          let same : e ≡ choice m n =
          w.choice-entry.ensures.value
          ∙ ap (λ (k : ℕ). choice_of k (n / (k + 2)) (n % (k + 2))) c.cpus-cpus.ensures.value in
          rw w.lines-is (record {
            text = text_more m g n e lines w.write_next.new.lines.items same before.text w.in_ok-write_next.ensures.lines;
            spelled = spelled_more m g n e same before.spelled w.in_ok-write_next.ensures.spelled;
          })
      | else-is_possible w ↦
          let none : is_some (next_by m g (choice m n)) ≡ false =
          as_goes_on m g (choice m n) ∙ sym (c.is_possible.ensures.value m run c.in_ok-walk.ensures.ok)
          ∙ w.if-is_possible.false in
          rw w.lines-is (record {
            text = text_more m g n (choice m n) lines lines refl before.text
                (none_written (next_by m g (choice m n)) lines none);
            spelled = spelled_more m g n (choice m n) refl before.spelled (none_spelled (next_by m g (choice m n)) none);
          })
    ]

pub write_next-requires-clause-lawful : goal.write_next-requires-clause-lawful
write_next-requires-clause-lawful c =
    let count = length-map c.args.entries.now entry_from in
    no_stranger c.args.machine.now (map entry_from c.args.entries.now)
    (omega (arith, count, c.if-entries-ge-MOST_EVENTS.false)) c.in_ok-before.ensures.lawful

pub write_next-requires-clause-possible : goal.write_next-requires-clause-possible
write_next-requires-clause-possible c =
    let m = c.args.machine.now in
    let run = replay_entries m (map entry_from c.args.entries.now) in
    let g = run.system in
    let n = c.loop-number.number in
    let same : entry_from c.choice-entry.result ≡ choice m n =
    c.choice-entry.ensures.value
    ∙ ap (λ (k : ℕ). choice_of k (n / (k + 2)) (n % (k + 2))) c.cpus-cpus.ensures.value in
    subst (λ (e : Entry). is_some (next_by m g e) ≡ true) (sym same)
    (as_goes_on m g (choice m n) ∙ sym (c.is_possible.ensures.value m run c.in_ok-walk.ensures.ok)
    ∙ c.if-is_possible.true)

pub returns-clause-lawful : goal.returns-clause-lawful
returns-clause-lawful c =
    let count = length-map c.args.entries.now entry_from in
    none_faulty c.args.machine.now (map entry_from c.args.entries.now)
    (omega (arith, count, c.if-entries-ge-MOST_EVENTS.false)) c.in_ok-before.ensures.lawful
