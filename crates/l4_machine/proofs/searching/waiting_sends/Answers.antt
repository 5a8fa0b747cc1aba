use Rattle.std.proofs.Common.{List, map, ap, sym, ◌∙◌, subst}
use Rattle.std.specs.Prelude.{filter_map}
use Rattle.std.specs.List.{range_with_len}
use Rattle.std.proofs.lemmas.Result.{IfOk-weaker}
use Rattle.l4_core_model.specs.Runs.{Event, merged, told}
use Rattle.l4_machine.specs.Inner.EventsLeft.{all_left, left}
use Rattle.l4_machine.specs.Gathers.{events_of, with_number}
use Rattle.l4_machine.specs.Inner.Rising.{RiseFrom}
use Rattle.l4_replay.specs.Inner.Waiting.{sought, AreBegunOnce}
use Rattle.l4_machine.specs.declared.unmerged.Unmerged.{Unmerged}
use Rattle.l4_machine.proofs.EventsLeft.{all_left_are}
use Rattle.l4_machine.proofs.searching.waiting_sends.Goals as goal

pub without_early-requires-clause-rising : goal.without_early-requires-clause-rising
without_early-requires-clause-rising c =
    let ps = c.args.processors.now in
    subst (RiseFrom 0) (sym c.in_ok-logs.ensures.events)
    (subst (λ n. RiseFrom 0 (map (λ cpu. events_of (with_number cpu ps)) (range_with_len 0 n))) (sym c.cpus.ensures.value) c.requires.rising)

pub without_early-requires-clause-once : goal.without_early-requires-clause-once
without_early-requires-clause-once c =
    let ps = c.args.processors.now in
    let m = c.args.machine.now in
    let all = all_left_are m ps c.cpus.result c.in_ok-logs.logs.items c.cpus.ensures.value c.in_ok-logs.ensures.events in
    subst (λ (es : List Event). AreBegunOnce (told (merged es))) (sym all) c.requires.once

pub find_all-requires-clause-rising : goal.find_all-requires-clause-rising
find_all-requires-clause-rising c =
    let ps = c.args.processors.now in
    subst (λ (us : List Unmerged). RiseFrom 0 (map (left ps) us)) (sym c.as_mut_slice.ensures.value) c.in_ok-logs-2.ensures.passed.rising

pub returns : goal.returns
returns c =
    let ps = c.args.processors.now in
    let m = c.args.machine.now in
    let f = sought c.args.search.now in
    let all = all_left_are m ps c.cpus.result c.in_ok-logs.logs.items c.cpus.ensures.value c.in_ok-logs.ensures.events in
    IfOk-weaker c.find_all.result _ _
    (λ sends are. are ∙ ap (λ (us : List Unmerged). filter_map f (told (merged (all_left ps us)))) c.as_mut_slice.ensures.value
    ∙ c.in_ok-logs-2.ensures.passed.found ∙ ap (λ es. filter_map f (told (merged es))) all)
    c.find_all.ensures
