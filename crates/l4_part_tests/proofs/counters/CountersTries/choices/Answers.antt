use Rattle.std.proofs.Common.{◌<◌, length, get_or, map, take, ap, sym, subst, ◌∙◌, arith}
use Rattle.l4_explore.specs.Inner.Ends.{AreEnough}
use Rattle.l4_explore.specs.Search.{seen_at}
use Rattle.l4_explore.specs.Tries.{LeadOn}
use Rattle.l4_explore.specs.Inner.Views.{next_from}
use Rattle.l4_part_tests.specs.Inner.Counters.{state_after, EndsIn}
use Rattle.l4_part_tests.proofs.Counting.{counters_of, enough_left, enough_none, enough_right, left_leads, one_choice, right_leads, two_counters}
use Rattle.l4_part_tests.proofs.counters.CountersTries.choices.Goals as goal

pub bounds-code-0 : goal.bounds-code-0
bounds-code-0 c =
    let seen = seen_at c.args.found.now c.args.place in
    omega (
      arith,
      two_counters seen.schedule seen.state c.requires.reached c.as_slice-code.result.now
          (c.as_slice-code.ensures.value ∙ c.in_ok-kept.ensures),
    )

pub bounds-code-1 : goal.bounds-code-1
bounds-code-1 c =
    let seen = seen_at c.args.found.now c.args.place in
    let l : 1 < length c.as_slice-code.result.now =
    omega (
      arith,
      two_counters seen.schedule seen.state c.requires.reached c.as_slice-code.result.now
          (c.as_slice-code.ensures.value ∙ c.in_ok-kept.ensures),
    ) in
    l

pub returns-then-left-lt2-clause-leads : goal.returns-then-left-lt2-clause-leads
returns-then-left-lt2-clause-leads c =
    let seen = seen_at c.args.found.now c.args.place in
    let code = c.as_slice-code.result.now in
    let is = counters_of seen.schedule seen.state c.requires.reached code
    (c.as_slice-code.ensures.value ∙ c.in_ok-kept.ensures) in
    subst (LeadOn state_after seen.schedule 0)
    (sym (one_choice c.in_ok-vec.field-0.items c.in_ok-choice.field-0 _
    c.in_ok-vec.ensures.items c.in_ok-choice.ensures))
    (left_leads seen.schedule seen.state (get_or code 0 0) (get_or code 1 0) c.requires.reached is
    c.if-left-lt2.true)

pub returns-then-left-lt2-clause-offered : goal.returns-then-left-lt2-clause-offered
returns-then-left-lt2-clause-offered c =
    let seen = seen_at c.args.found.now c.args.place in
    let before = take c.args.place c.args.found.now in
    let code = c.as_slice-code.result.now in
    let is = counters_of seen.schedule seen.state c.requires.reached code
    (c.as_slice-code.ensures.value ∙ c.in_ok-kept.ensures) in
    subst (AreEnough EndsIn before seen)
    (sym (one_choice c.in_ok-vec.field-0.items c.in_ok-choice.field-0 _
    c.in_ok-vec.ensures.items c.in_ok-choice.ensures))
    (enough_left before seen (get_or code 0 0) (get_or code 1 0) is c.if-left-lt2.true)

pub returns-then-right-lt2-clause-leads : goal.returns-then-right-lt2-clause-leads
returns-then-right-lt2-clause-leads c =
    let seen = seen_at c.args.found.now c.args.place in
    let code = c.as_slice-code.result.now in
    let is = counters_of seen.schedule seen.state c.requires.reached code
    (c.as_slice-code.ensures.value ∙ c.in_ok-kept.ensures) in
    subst (LeadOn state_after seen.schedule 0)
    (sym (one_choice c.in_ok-vec-2.field-0.items c.in_ok-choice-2.field-0 _
    c.in_ok-vec-2.ensures.items c.in_ok-choice-2.ensures))
    (right_leads seen.schedule seen.state (get_or code 0 0) (get_or code 1 0) c.requires.reached
    is c.if-right-lt2.true)

pub returns-then-right-lt2-clause-offered : goal.returns-then-right-lt2-clause-offered
returns-then-right-lt2-clause-offered c =
    let seen = seen_at c.args.found.now c.args.place in
    let before = take c.args.place c.args.found.now in
    let code = c.as_slice-code.result.now in
    let is = counters_of seen.schedule seen.state c.requires.reached code
    (c.as_slice-code.ensures.value ∙ c.in_ok-kept.ensures) in
    subst (AreEnough EndsIn before seen)
    (sym (one_choice c.in_ok-vec-2.field-0.items c.in_ok-choice-2.field-0 _
    c.in_ok-vec-2.ensures.items c.in_ok-choice-2.ensures))
    (enough_right before seen (get_or code 0 0) (get_or code 1 0) is
    (omega (arith, c.if-left-lt2.false)))

pub returns-clause-offered : goal.returns-clause-offered
returns-clause-offered c =
    let seen = seen_at c.args.found.now c.args.place in
    let before = take c.args.place c.args.found.now in
    let code = c.as_slice-code.result.now in
    let is = counters_of seen.schedule seen.state c.requires.reached code
    (c.as_slice-code.ensures.value ∙ c.in_ok-kept.ensures) in
    subst (AreEnough EndsIn before seen) (sym (ap (map next_from) c.new.ensures.items))
    (enough_none before seen (get_or code 0 0) (get_or code 1 0) is
    (omega (arith, c.if-left-lt2.false)) (omega (arith, c.if-right-lt2.false)))
