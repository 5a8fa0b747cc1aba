use Rattle.std.proofs.Common.{◌≡◌, true, arith, List, Some, map, ap, sym, subst, ◌∙◌}
use Rattle.std.specs.Prelude.{is_some, slice_get}
use Rattle.std.specs.List.{range_with_len}
use Rattle.std.proofs.lemmas.Option.{slice_get-get_or}
use Rattle.std.proofs.lemmas.Result.{IfOk-weaker}
use Rattle.l4_machine.specs.Inner.EventsLeft.{left}
use Rattle.l4_machine.specs.Inner.Rising.{RiseFrom}
use Rattle.l4_machine.specs.Gathers.{events_of, with_number}
use Rattle.l4_machine.specs.Inner.Recorded.{entries_left}
use Rattle.l4_proc.specs.declared.processor.Processor.{Processor}
use Rattle.l4_machine.specs.declared.unmerged.Unmerged.{Unmerged}
use Rattle.l4_machine.proofs.Recorded.{all_entries_left, found_within, recorded_is_own}
use Rattle.l4_machine.proofs.recording.recorded.Goals as goal

pub take_all-requires-clause-rising : goal.take_all-requires-clause-rising
take_all-requires-clause-rising c =
    let ps = c.args.processors.now in
    subst (λ (us : List Unmerged). RiseFrom 0 (map (left ps) us)) (sym c.as_mut_slice.ensures.value)
    (subst (RiseFrom 0) (sym c.in_ok-logs.ensures.events)
    (subst (λ n. RiseFrom 0 (map (λ cpu. events_of (with_number cpu ps)) (range_with_len 0 n))) (sym c.cpus-cpus.ensures.value) c.requires.rising))

pub returns-then-cpus-eq1 : goal.returns-then-cpus-eq1
returns-then-cpus-eq1 c =
    let ps = c.args.processors.now in
    let at = c.place_of.result in
    let p : Processor = c.index-processors-place_of.result in
    let some : is_some (slice_get ps at) ≡ true = ap is_some c.place_of.ensures ∙ c.requires.numbers 0 (omega (arith, c.cpus-cpus.ensures.some, c.cpus-cpus.ensures.value)) in
    let here : with_number 0 ps ≡ Some p = sym c.place_of.ensures ∙ slice_get-get_or ps at p (found_within ps at some) ∙ ap Some (sym c.index-processors-place_of.is) in
    let one = sym c.cpus-cpus.ensures.value ∙ c.if-cpus-eq1.true in
    IfOk-weaker c.recorded_alone.result _ _ (λ entries are. are ∙ recorded_is_own c.args.machine.now ps p one here c.requires.rising) c.recorded_alone.ensures

pub returns : goal.returns
returns c =
    let ps = c.args.processors.now in
    let m = c.args.machine.now in
    let all = all_entries_left m ps c.cpus-cpus.result c.in_ok-logs.logs.items c.cpus-cpus.ensures.value c.in_ok-logs.ensures.events c.in_ok-logs.ensures.happened in
    IfOk-weaker c.take_all.result _ _ (λ entries are. are ∙ ap (entries_left ps) c.as_mut_slice.ensures.value ∙ all) c.take_all.ensures
