use Rattle.std.proofs.Common.{◌≡◌, ◌<◌, ◌+◌, ◌*◌, ap, sym, subst, ◌∙◌, arith}
use Rattle.l4_model.specs.Machine.{Machine}
use Rattle.l4_states.specs.Choices.{choice_count}
use Rattle.l4_walks.specs.Inner.Placed.{AreUpTo}
use Rattle.l4_walks.proofs.Choosing.{none_yet, not_this, one_more}
use Rattle.l4_walks.proofs.placed.choices_of.Goals.{then-is_possible+in_ok-push, else-is_possible}
use Rattle.l4_walks.proofs.placed.choices_of.Goals as goal

pub loop-number-init : goal.loop-number-init
loop-number-init c = λ m r is.
    subst (AreUpTo m r.system 0) (sym c.new-choices.ensures.items) (none_yet m r.system)

pub loop-number-preserved : goal.loop-number-preserved
loop-number-preserved c = λ m r is.
    let below : c.loop-number.number < c.choice_count-number-end.result
    = omega (arith, c.loop-number-test.true) in
    let inside : c.loop-number.number < choice_count m
    = subst (λ n. c.loop-number.number < n * (n + 2))
    (c.requires.cpus ∙ ap (λ (x : Machine). x.cpus) is.machine)
    (subst (λ n. c.loop-number.number < n) c.choice_count-number-end.ensures below) in
    let possible = c.is_possible.ensures.value m r is in
    let before = c.loop-number.invariant m r is in
    elim c.if-is_possible.branch [
      | then-is_possible+in_ok-push w ↦
          subst (λ v. AreUpTo m r.system (c.loop-number.number + 1) v.items) (sym w.choices-is)
          (one_more m r.system c.loop-number.number c.loop-number.choices.items w.push.new.self.items
          inside (sym possible ∙ w.if-is_possible.true) w.in_ok-push.ensures.items before)
      | else-is_possible w ↦
          subst (λ v. AreUpTo m r.system (c.loop-number.number + 1) v.items) (sym w.choices-is)
          (not_this m r.system c.loop-number.number c.loop-number.choices.items
          (sym possible ∙ w.if-is_possible.false) before)
    ]
