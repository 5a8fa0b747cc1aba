use Rattle.std.proofs.Common.{◌≡◌, ℕ, ◌+◌, ◌/◌, ◌%◌, ◌∷◌, [], false, true, map, ap, sym, ◌∙◌}
use Rattle.std.specs.Prelude.{is_some}
use Rattle.std.proofs.lemmas.List.{map-append}
use Rattle.l4_core_model.specs.Schedules.{replay_entries}
use Rattle.l4_replay.specs.Entries.{entry_from}
use Rattle.l4_states.specs.Choices.{choice, choice_of}
use Rattle.l4_next.specs.Nexts.{next_by}
use Rattle.l4_steps.proofs.Listed.{listed_more, listed_same}
use Rattle.l4_steps.proofs.possible.possible_entries.Goals as goal
use Rattle.l4_steps.proofs.possible.possible_entries.Goals.{then-is_possible+in_ok-push, else-is_possible}

pub loop-number-preserved : goal.loop-number-preserved
loop-number-preserved c =
    let m = c.args.machine.now in
    let run = replay_entries m (map entry_from c.args.entries.now) in
    let g = run.system in
    let n = c.loop-number.number in
    let old = map entry_from c.loop-number.all.items in
    let before = c.loop-number.invariant in
    elim c.if-is_possible.branch [
      | then-is_possible+in_ok-push w ↦
          let e = entry_from w.choice.result in
          let same : e ≡ choice m n =
          w.choice.ensures.value
          ∙ ap (λ (k : ℕ). choice_of k (n / (k + 2)) (n % (k + 2))) c.cpus-cpus.ensures.value in
          let can : is_some (next_by m g (choice m n)) ≡ true =
          c.law_next.ensures m g (choice m n) ∙ sym (c.is_possible.ensures.value m run c.in-Ok.ensures.ok)
          ∙ w.if-is_possible.true in
          rw w.all-is (listed_more m g n e old (map entry_from w.push.new.self.items) same before can
          (ap (map entry_from) w.in_ok-push.ensures.items ∙ map-append entry_from c.loop-number.all.items (w.choice.result ∷ [])))
      | else-is_possible w ↦
          let none : is_some (next_by m g (choice m n)) ≡ false =
          c.law_next.ensures m g (choice m n) ∙ sym (c.is_possible.ensures.value m run c.in-Ok.ensures.ok)
          ∙ w.if-is_possible.false in
          rw w.all-is (listed_same m g n old before none)
    ]
