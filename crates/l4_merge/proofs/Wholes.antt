-- Processors that have worked from the opening on make a core run.
use Rattle.std.proofs.Common.{◌≡◌, ℕ, ◌+◌, ◌<◌, List, [], ◌∷◌, ◌++◌, Option, Some, None, map, length, get_or, refl, ap, ap₂, sym, ◌∙◌, subst, arith}
use Rattle.std.specs.Prelude.{slice_get}
use Rattle.std.specs.Option.{option_map}
use Rattle.std.specs.List.{AllByRecursion}
use Rattle.std.proofs.lemmas.List.{length-map}
use Rattle.std.proofs.lemmas.Option.{slice_get-map, slice_get-get_or, get_or_from_slice_get}
use Rattle.std.proofs.lemmas.List.FromFn.{length-map-range_with_len, length-range_with_len, fill_by_all}
use Rattle.l4_model.specs.Machine.{Machine}
use Rattle.l4_model.proofs.Chains.{get-map}
use Rattle.l4_core_model.specs.Local.{opening_local}
use Rattle.l4_core_model.specs.Runs.{Event, core_run, opening_run, processors, merged}
use Rattle.l4_core_model.proofs.Lists.{all-map}
use Rattle.l4_merge.specs.Transitions.{Transition, told_by, happened_by}
use Rattle.l4_merge.specs.LocalTraces.{LocalTrace, empty_past, Extends, posted_in, handled_in, HaveWorked, AreWholePasts, opening_pasts, all_events, added_events}
use Rattle.l4_merge.specs.Merges.{EndsAt, HaveWholeRun, SortAsMerged}
use Rattle.l4_merge.specs.Recorded.{actions_in, merged_order, recorded}
use Rattle.l4_merge.proofs.Own.{own}
use Rattle.l4_merge.proofs.Arranged.{arranged, told-arranged, all-arranged}
use Rattle.l4_merge.proofs.Gathered.{Gathered}
use Rattle.l4_merge.proofs.AnyOrder.{own_same}
use Rattle.l4_merge.proofs.Recorded.{happened_to, happened_in_order}
use Rattle.l4_merge.proofs.Processors.{locals-map, at_processor, of_processor}
use Rattle.l4_merge.proofs.GoingOn.{pasts_ahead, gathered, merge, merge_happens}
use Rattle.l4_merge.proofs.Sorted.{sort_as_merged}

-- The opening

none_posted : (m : Machine) (to : ℕ) (o : Option ℕ) → posted_in to (option_map (λ cpu. empty_past (opening_local m cpu)) o) ≡ []
none_posted m to None = refl
none_posted m to (Some cpu) = refl

none_handled : (m : Machine) (from : ℕ) (o : Option ℕ) → handled_in from (option_map (λ cpu. empty_past (opening_local m cpu)) o) ≡ []
none_handled m from None = refl
none_handled m from (Some cpu) = refl

pub opening_ends : (m : Machine) → EndsAt (opening_run m) (opening_pasts m)
opening_ends m = record {
  locals = locals-map (λ cpu. empty_past (opening_local m cpu)) (processors m);
  mail = λ from to.
      let at = slice_get-map (λ cpu. empty_past (opening_local m cpu)) (processors m) in
      ap (posted_in to) (at from) ∙ none_posted m to (slice_get (processors m) from)
      ∙ ap (λ ls. ls ++ []) (sym (ap (handled_in from) (at to) ∙ none_handled m from (slice_get (processors m) to)));
}

pub all_worked : (m : Machine) (pasts : List LocalTrace) → AreWholePasts m pasts → HaveWorked m (opening_pasts m) pasts
all_worked m pasts w = record {
  for_each = w.for_each ∙ sym (length-map-range_with_len (λ cpu. empty_past (opening_local m cpu)) 0 m.cpus);
  each = λ cpu old new at now.
      let opening = (of_processor m (λ cpu. empty_past (opening_local m cpu)) cpu old at).1 in
      subst (λ old. Extends m cpu old new) opening (w.each cpu new now);
  in_order = w.in_order;
}

-- To empty pasts all events are added

added_to_none : (m : Machine) (cpus : List ℕ) (pasts : List LocalTrace) → length pasts ≡ length cpus →
    added_events (map (λ cpu. empty_past (opening_local m cpu)) cpus) pasts ≡ all_events pasts
added_to_none m [] [] size = refl
added_to_none m [] (past ∷ pasts) size = absurd (omega arith)
added_to_none m (cpu ∷ cpus) [] size = absurd (omega arith)
added_to_none m (cpu ∷ cpus) (past ∷ pasts) size = ap (λ es. past.events ++ es) (added_to_none m cpus pasts (omega arith))

pub added_to_opening : (m : Machine) (pasts : List LocalTrace) → AreWholePasts m pasts → added_events (opening_pasts m) pasts ≡ all_events pasts
added_to_opening m pasts w = added_to_none m (processors m) pasts (w.for_each ∙ sym (length-range_with_len 0 m.cpus))

-- What each knows of what happened, in the order of all events

cpus_told : (ds : List Transition) → map (λ (e : Event). e.cpu) (map told_by ds) ≡ map (λ d. d.cpu) ds
cpus_told [] = refl
cpus_told (d ∷ ds) = ap (λ cpus. d.cpu ∷ cpus) (cpus_told ds)

recorded_is : (m : Machine) (pasts : List LocalTrace) (w : AreWholePasts m pasts) →
    recorded pasts ≡ map happened_by (arranged (gathered m (opening_pasts m) pasts (all_worked m pasts w)).transitions)
recorded_is m pasts w =
    ap₂ actions_in order (fill_by_all (happened_to xs) (map (λ (past : LocalTrace). past.actions) pasts) m.cpus [] size each)
    ∙ happened_in_order m.cpus xs within
  where
    all : Gathered m 0 (opening_pasts m) pasts
    all = gathered m (opening_pasts m) pasts (all_worked m pasts w)

    ds : List Transition
    ds = all.transitions

    xs : List Transition
    xs = arranged ds

    order : merged_order pasts ≡ map (λ d. d.cpu) xs
    order =
        ap (λ es. map (λ (e : Event). e.cpu) (merged es)) (sym (all.are.told ∙ added_to_opening m pasts w))
        ∙ ap (map (λ (e : Event). e.cpu)) (sym (told-arranged ds)) ∙ cpus_told xs

    within : AllByRecursion (λ d. d.cpu < m.cpus) xs
    within =
        all-arranged (λ (d : Transition). d.cpu < m.cpus) ds
        (all-map (λ (d : Transition). d.cpu < 0 + length pasts) (λ (d : Transition). d.cpu < m.cpus) (λ d lt. omega (arith, w.for_each)) ds all.are.below)

    size : length (map (λ (past : LocalTrace). past.actions) pasts) ≡ m.cpus
    size = length-map pasts (λ (past : LocalTrace). past.actions) ∙ w.for_each

    same : (cpu : ℕ) → own cpu xs ≡ own cpu ds
    same =
        own_same m (opening_run m).system ds (map (λ past. past.local) pasts) (λ from to. ((all_worked m pasts w).in_order from to).rest)
        (pasts_ahead m (opening_run m) (opening_pasts m) pasts (opening_ends m) (all_worked m pasts w) all)

    each : (cpu : ℕ) → cpu < m.cpus → get_or (map (λ (past : LocalTrace). past.actions) pasts) cpu [] ≡ happened_to xs cpu
    each cpu lt =
        let first : LocalTrace = empty_past (opening_local m cpu) in
        let past : LocalTrace = get_or pasts cpu first in
        let at : slice_get pasts cpu ≡ Some past = slice_get-get_or pasts cpu first (omega (arith, w.for_each)) in
        let was = at_processor m (λ cpu. empty_past (opening_local m cpu)) cpu lt in
        get_or_from_slice_get (map (λ (past : LocalTrace). past.actions) pasts) cpu past.actions [] (get-map (λ (past : LocalTrace). past.actions) pasts cpu past at)
        ∙ (all.are.each cpu cpu first past (omega arith) was at).actions ∙ ap (map happened_by) (sym (same cpu))

-- The whole

pub make_whole : (m : Machine) (pasts : List LocalTrace) → AreWholePasts m pasts → HaveWholeRun m pasts
make_whole m pasts w =
    let run = merge m (opening_run m) (opening_pasts m) pasts (opening_ends m) (all_worked m pasts w) in
    let is = run.1 in
    let happened = merge_happens m (opening_run m) (opening_pasts m) pasts (opening_ends m) (all_worked m pasts w) in (
      run.0,
      record {
        core_run = (is.actions, is.is);
        recorded = ap (core_run m (opening_run m)) (recorded_is m pasts w ∙ sym happened) ∙ is.is;
        ends = is.ends;
        events = is.events ∙ ap merged (added_to_opening m pasts w);
      },
    )

pub whole_sorts_as_merged : (m : Machine) (pasts : List LocalTrace) → AreWholePasts m pasts → SortAsMerged (all_events pasts)
whole_sorts_as_merged m pasts w =
    let work = all_worked m pasts w in
    let all = gathered m (opening_pasts m) pasts work in
    let ahead = pasts_ahead m (opening_run m) (opening_pasts m) pasts (opening_ends m) work all in
    subst SortAsMerged (all.are.told ∙ added_to_opening m pasts w)
    (sort_as_merged m (opening_run m).system all.transitions (map (λ past. past.local) pasts) (λ from to. (work.in_order from to).rest) ahead)
