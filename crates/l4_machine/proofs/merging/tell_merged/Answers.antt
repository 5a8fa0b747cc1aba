use Rattle.std.proofs.Common.{List, OnOk, map, ap, sym, subst, ◌∙◌}
use Rattle.std.specs.List.{range_with_len}
use Rattle.l4_model.specs.Steps.{Step}
use Rattle.l4_core_model.specs.Runs.{merged, told}
use Rattle.l4_machine.specs.Inner.EventsLeft.{all_left, left}
use Rattle.l4_machine.specs.Inner.Rising.{RiseFrom}
use Rattle.l4_machine.specs.Gathers.{events_of, with_number}
use Rattle.l4_machine.specs.declared.unmerged.Unmerged.{Unmerged}
use Rattle.l4_machine.proofs.EventsLeft.{all_left_are}
use Rattle.l4_machine.proofs.merging.tell_merged.Goals as goal

pub tell_all-requires-clause-rising : goal.tell_all-requires-clause-rising
tell_all-requires-clause-rising g c =
    let ps = c.args.processors.now in
    subst (λ (us : List Unmerged). RiseFrom 0 (map (left ps) us)) (sym c.as_mut_slice.ensures.value)
    (subst (RiseFrom 0) (sym c.in_ok-logs.ensures.events)
    (subst (λ n. RiseFrom 0 (map (λ cpu. events_of (with_number cpu ps)) (range_with_len 0 n))) (sym c.cpus.ensures.value) c.requires.rising))

pub returns : goal.returns
returns g c =
    let ps = c.args.processors.now in
    let m = c.args.machine.now in
    let all = all_left_are m ps c.cpus.result c.in_ok-logs.logs.items c.cpus.ensures.value c.in_ok-logs.ensures.events in
    subst (λ (h : List Step). OnOk c.tell_all.result (g.T.Listener.hears c.args.listener.now h c.tell_all.new.listener))
    (ap (λ (us : List Unmerged). told (merged (all_left ps us))) c.as_mut_slice.ensures.value ∙ ap (λ es. told (merged es)) all)
    c.tell_all.ensures
