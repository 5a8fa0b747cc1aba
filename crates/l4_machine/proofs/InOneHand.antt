-- Processors in one hand, in any order: nothing that they did is missing, and when they are at rest.
use Rattle.std.proofs.Common.{◌≡◌, ◌↔◌, ℕ, zero, suc, ◌-◌, ◌<◌, ◌≤◌, Bool, true, false, cond, ◌||◌, ◌&&◌, Option, Some, None, List, [], ◌∷◌, ◌++◌, map, length, take, get_or, set, refl, ap, ap₂, sym, ◌∙◌, subst, ⊎_elim, arith}
use Rattle.std.specs.Prelude.{◌≢◌, slice_get, slice_index_or, ◌==◌, nat_eq, nat_lt, is_some}
use Rattle.std.proofs.lemmas.Bool.{cases_lt, eqb-true, eq-eqb}
use Rattle.std.proofs.lemmas.Bool.Decides.{eqb_tells}
use Rattle.std.proofs.lemmas.Option.{slice_get-get_or, slice_get_within}
use Rattle.std.proofs.lemmas.List.{length-map, append-nil, append_cancel_left}
use Rattle.std.proofs.lemmas.List.FromFn.{length-map-range_with_len}
use Rattle.l4_model.specs.Machine.{Machine}
use Rattle.l4_model.specs.Steps.{Step}
use Rattle.std.proofs.lemmas.List.Sorted.{IsPermutation-refl}
use Rattle.l4_model.proofs.Chains.{some_is, get-map}
use Rattle.l4_model.proofs.Places.{and_true}
use Rattle.l4_core_model.specs.Local.{opening_local}
use Rattle.l4_core_model.specs.Letters.{Letter}
use Rattle.l4_core_model.specs.Runs.{Run, processors, told, at_rest}
use Rattle.l4_merge.specs.LocalTraces.{LocalTrace, empty_past, Extends, Begins, posted_in, handled_in, letters_posted, letters_handled, AreWholePasts, all_events}
use Rattle.l4_merge.specs.Merges.{is_at_rest, AreAtRest, IsWholeRun, SortAsMerged}
use Rattle.l4_merge.proofs.Processors.{at_processor, at_none, of_processor}
use Rattle.l4_merge.proofs.Worked.{worked_none, worked_trans}
use Rattle.l4_mail.specs.Ends.{ring_in, ring_out, taken, posted}
use Rattle.l4_mail.specs.Rests.{has_number, have_numbers, have_size, are_all}
use Rattle.l4_mail.specs.Ports.{Account, account, fabric_size, place, posted_to, taken_from, kept_from, AreOneFabric, AreWhole, IsApart}
use Rattle.l4_mail.specs.declared.outlets.Outlet.{Outlet}
use Rattle.l4_mail.specs.declared.inlets.Inlet.{Inlet}
use Rattle.l4_mail.specs.declared.ports.Port.{Port}
use Rattle.l4_proc.specs.Rests.{AreAsBefore, HaveHandledAll}
use Rattle.l4_proc.specs.declared.worker.Worker.{Worker}
use Rattle.l4_proc.specs.Whole.{hand_from, handled_from}
use Rattle.l4_mail.proofs.Growing.{set_case}
use Rattle.l4_proc.specs.Inner.Assembled.{AreAssembled}
use Rattle.l4_proc.specs.Working.{past, HasGoneOn}
use Rattle.l4_proc.specs.declared.processor.Processor.{Processor}
use Rattle.l4_proc.proofs.Rested.{port_of, posted_is, handled_begins, all_is_handled, one_of_set, IsSame, same_at}
use Rattle.l4_types.specs.declared.reports.Ending.{Ending}
use Rattle.l4_types.specs.declared.reports.Ending.TheVariants.{Quiet}
use Rattle.l4_machine.specs.Outcomes.{Findings, IsOutcomeOf}
use Rattle.l4_machine.specs.Gathers.{with_number, past_of, pasts_of, IsOneOf, AreOfOne, HaveNumbers, AreResting, IsMerge}
use Rattle.l4_machine.specs.Gathered.{IsGathered}

-- The processor of a number

pub record IsFound (cpu : ℕ) (ps : List Processor) (p : Processor) : Type 0 where
  pub at : ℕ
  pub here : slice_get ps at ≡ Some p
  pub number : p.worker.core.cpu ≡ cpu

pub found : (cpu : ℕ) (ps : List Processor) (p : Processor) → with_number cpu ps ≡ Some p → IsFound cpu ps p
found cpu [] p is = absurd cc
found cpu (q ∷ ps) p is = by (q.worker.core.cpu == cpu) refl is (found cpu ps p)
  where
    by : (b : Bool) → (q.worker.core.cpu == cpu) ≡ b → cond b (Some q) (with_number cpu ps) ≡ Some p → (with_number cpu ps ≡ Some p → IsFound cpu ps p) →
        IsFound cpu (q ∷ ps) p
    by true same is rest =
        record { at = 0; here = is; number = ap (λ (x : Processor). x.worker.core.cpu) (sym (some_is q p is)) ∙ eqb-true q.worker.core.cpu cpu same }
    by false same is rest = let f = rest is in record { at = suc f.at; here = f.here; number = f.number }

-- By a port without a way

none_taken : (is : List (Option Inlet)) (k : ℕ) → slice_index_or (map ring_in is) k None ≡ None → slice_index_or (map taken is) k [] ≡ []
none_taken [] k none = refl
none_taken (None ∷ is) zero none = refl
none_taken (Some i ∷ is) zero none = absurd cc
none_taken (i ∷ is) (suc k) none = none_taken is k none

none_posted : (os : List (Option Outlet)) (k : ℕ) → slice_index_or (map ring_out os) k None ≡ None → slice_index_or (map posted os) k [] ≡ []
none_posted [] k none = refl
none_posted (None ∷ os) zero none = refl
none_posted (Some o ∷ os) zero none = absurd cc
none_posted (o ∷ os) (suc k) none = none_posted os k none

beyond : {A : Type 0} (xs : List A) (k : ℕ) (d : A) → length xs ≤ k → slice_index_or xs k d ≡ d
beyond [] k d le = refl
beyond (x ∷ xs) zero d le = absurd (omega arith)
beyond (x ∷ xs) (suc k) d le = beyond xs k d (omega arith)

-- Where the port of a processor has no way to a number: to its own, and to those past the last.

pub none_taken_own : (m : Machine) (p : Processor) → IsOneOf m p → taken_from p.port p.worker.core.cpu ≡ []
none_taken_own m p o =
    subst (λ cpu. taken_from p.port cpu ≡ []) p.whole.port_of.number (none_taken p.port.inlets.items p.port.cpu o.apart.in_)

none_posted_own : (m : Machine) (p : Processor) → IsOneOf m p → posted_to p.port p.worker.core.cpu ≡ []
none_posted_own m p o =
    subst (λ cpu. posted_to p.port cpu ≡ []) p.whole.port_of.number (none_posted p.port.outlets.items p.port.cpu o.apart.out)

outlets_are : (m : Machine) (p : Processor) → IsOneOf m p → length p.port.outlets.items ≡ m.cpus
outlets_are m p o = p.whole.port_of.size ∙ ap (λ (m : Machine). m.cpus) o.machine

pub none_taken_beyond : (m : Machine) (p : Processor) (k : ℕ) → IsOneOf m p → m.cpus ≤ k → taken_from p.port k ≡ []
none_taken_beyond m p k o le =
    let outs = outlets_are m p o in
    let size = o.apart.size in
    let a = length-map p.port.inlets.items ring_in in
    let b = length-map p.port.outlets.items ring_out in
    let c = length-map p.port.inlets.items taken in
    beyond (map taken p.port.inlets.items) k [] (omega arith)

none_posted_beyond : (m : Machine) (p : Processor) (k : ℕ) → IsOneOf m p → m.cpus ≤ k → posted_to p.port k ≡ []
none_posted_beyond m p k o le =
    let outs = outlets_are m p o in
    let c = length-map p.port.outlets.items posted in
    beyond (map posted p.port.outlets.items) k [] (omega arith)

-- What was not taken was not handled.
pub none_handled : (p : Processor) (k : ℕ) → taken_from p.port k ≡ [] → (past p).handled k ≡ []
none_handled p k none = ap (λ (ls : List Letter). take (length ls - length (hand_from p.worker.hand k)) ls) none ∙ nothing _
  where
    nothing : (n : ℕ) → take {A = Letter} n [] ≡ []
    nothing zero = refl
    nothing (suc n) = refl

-- What each has done, by its number

pub past_at : (m : Machine) (ps : List Processor) (cpu : ℕ) → cpu < m.cpus → slice_get (pasts_of m ps) cpu ≡ Some (past_of m cpu (with_number cpu ps))
past_at m ps cpu lt = at_processor m (λ cpu. past_of m cpu (with_number cpu ps)) cpu lt

past_beyond : (m : Machine) (ps : List Processor) (cpu : ℕ) → m.cpus ≤ cpu → slice_get (pasts_of m ps) cpu ≡ None
past_beyond m ps cpu le = at_none m (λ cpu. past_of m cpu (with_number cpu ps)) cpu le

past_found : (m : Machine) (ps : List Processor) (cpu : ℕ) (p : Processor) → cpu < m.cpus → with_number cpu ps ≡ Some p →
    slice_get (pasts_of m ps) cpu ≡ Some (past p)
past_found m ps cpu p lt is = past_at m ps cpu lt ∙ ap (λ o. Some (past_of m cpu o)) is

-- A pair of processors, by their numbers.
data Pair (m : Machine) (ps : List Processor) (from to : ℕ) : Type 0 where
  Beyond : letters_handled (pasts_of m ps) from to ≡ [] → letters_posted (pasts_of m ps) from to ≡ [] → Pair m ps from to
  Two : (i j : ℕ) (p q : Processor) → i ≢ j → slice_get ps i ≡ Some p → slice_get ps j ≡ Some q → p.worker.core.cpu ≡ from → q.worker.core.cpu ≡ to →
      letters_posted (pasts_of m ps) from to ≡ (past p).posted to → letters_handled (pasts_of m ps) from to ≡ (past q).handled from → Pair m ps from to

pair : (m : Machine) (ps : List Processor) (from to : ℕ) → AreOfOne m ps → HaveNumbers m.cpus ps → Pair m ps from to
pair m ps from to all have = ⊎_elim (λ lt. to_within lt (with_number to ps) refl) to_beyond (cases_lt to m.cpus)
  where
    posted_at : (p : Processor) → from < m.cpus → with_number from ps ≡ Some p → letters_posted (pasts_of m ps) from to ≡ (past p).posted to
    posted_at p lt is = ap (posted_in to) (past_found m ps from p lt is)

    handled_at : (q : Processor) → to < m.cpus → with_number to ps ≡ Some q → letters_handled (pasts_of m ps) from to ≡ (past q).handled from
    handled_at q lt is = ap (handled_in from) (past_found m ps to q lt is)

    none_there : (cpu : ℕ) → cpu < m.cpus → with_number cpu ps ≡ None → ⊥
    none_there cpu lt is = let h = sym (ap is_some is) ∙ have cpu lt in cc

    to_beyond : m.cpus ≤ to → Pair m ps from to
    to_beyond le = Beyond (ap (handled_in from) (past_beyond m ps to le)) (⊎_elim
        (λ lt. by lt (with_number from ps) refl)
        (λ beyond. ap (posted_in to) (past_beyond m ps from beyond)) (cases_lt from m.cpus))
      where
        by : from < m.cpus → (o : Option Processor) → with_number from ps ≡ o → letters_posted (pasts_of m ps) from to ≡ []
        by lt None is = absurd (none_there from lt is)
        by lt (Some p) is =
            let f = found from ps p is in
            posted_at p lt is ∙ (none_posted_beyond m p to (all.each f.at p f.here) le)

    both : to < m.cpus → from < m.cpus → (p q : Processor) → with_number from ps ≡ Some p → with_number to ps ≡ Some q → Pair m ps from to
    both lt low p q is_p is_q =
        let f = found from ps p is_p in
        let g = found to ps q is_q in
        let o = all.each g.at q g.here in
        ⊎_elim
        (λ (t : (nat_eq f.at g.at ≡ true) × (f.at ≡ g.at)).
        let same : p ≡ q = some_is p q (sym f.here ∙ ap (slice_get ps) t.1 ∙ g.here) in
        let number : q.worker.core.cpu ≡ from = ap (λ (x : Processor). x.worker.core.cpu) (sym same) ∙ f.number in
        Beyond
        (handled_at q lt is_q ∙ none_handled q from (subst (λ cpu. taken_from q.port cpu ≡ []) number (none_taken_own m q o)))
        (posted_at p low is_p ∙ ap (λ (x : Processor). (past x).posted to) same
        ∙ (subst (λ cpu. posted_to q.port cpu ≡ []) g.number (none_posted_own m q o))))
        (λ (t : (nat_eq f.at g.at ≡ false) × (f.at ≡ g.at → ⊥)).
        Two f.at g.at p q t.1 f.here g.here f.number g.number (posted_at p low is_p) (handled_at q lt is_q))
        (eqb_tells f.at g.at)

    to_within : to < m.cpus → (o : Option Processor) → with_number to ps ≡ o → Pair m ps from to
    to_within lt None is = absurd (none_there to lt is)
    to_within lt (Some q) is = ⊎_elim (λ low. from_within low (with_number from ps) refl) from_beyond (cases_lt from m.cpus)
      where
        from_beyond : m.cpus ≤ from → Pair m ps from to
        from_beyond le =
            let g = found to ps q is in
            Beyond (handled_at q lt is ∙ none_handled q from (none_taken_beyond m q from (all.each g.at q g.here) le))
            (ap (posted_in to) (past_beyond m ps from le))

        from_within : from < m.cpus → (o : Option Processor) → with_number from ps ≡ o → Pair m ps from to
        from_within low None at = absurd (none_there from low at)
        from_within low (Some p) at = both lt low p q at is

-- Nothing that they did is missing

in_order : (m : Machine) (ps : List Processor) (from to : ℕ) → AreWhole (map port_of ps) → Pair m ps from to →
    Begins (letters_handled (pasts_of m ps) from to) (letters_posted (pasts_of m ps) from to)
in_order m ps from to whole (Beyond a b) =
    record { rest = letters_posted (pasts_of m ps) from to; is = ap (λ ls. ls ++ letters_posted (pasts_of m ps) from to) (sym a) }
in_order m ps from to whole (Two i j p q ne at_p at_q num_p num_q sends gets) =
    let b = handled_begins ps i j p q whole ne at_p at_q in
    record {
      rest = b.rest;
      is = sends ∙ ap (past p).posted (sym num_q) ∙ b.is ∙ ap (λ ls. ls ++ b.rest) (ap (past q).handled num_p ∙ sym gets);
    }

pub whole_pasts : (m : Machine) (ps : List Processor) → AreOfOne m ps → HaveNumbers m.cpus ps → AreWhole (map port_of ps) → AreWholePasts m (pasts_of m ps)
whole_pasts m ps all have whole = record {
  for_each = length-map-range_with_len (λ cpu. past_of m cpu (with_number cpu ps)) 0 m.cpus;
  each = λ cpu done at.
      let is = (of_processor m (λ cpu. past_of m cpu (with_number cpu ps)) cpu done at).1 in
      subst (Extends m cpu (empty_past (opening_local m cpu))) is (worked cpu (with_number cpu ps) refl);
  in_order = λ from to. in_order m ps from to whole (pair m ps from to all have);
}
  where
    worked : (cpu : ℕ) (o : Option Processor) → with_number cpu ps ≡ o → Extends m cpu (empty_past (opening_local m cpu)) (past_of m cpu o)
    worked cpu None is = worked_none m cpu (empty_past (opening_local m cpu))
    worked cpu (Some p) is =
        let f = found cpu ps p is in
        subst (λ cpu. Extends m cpu (empty_past (opening_local m cpu)) (past p)) f.number (all.each f.at p f.here).worked

-- When they are at rest

-- Places and numbers tell the same.
pub numbered : (m : Machine) (ps : List Processor) (i : ℕ) (p : Processor) → AreOfOne m ps → HaveNumbers m.cpus ps → slice_get ps i ≡ Some p →
    with_number p.worker.core.cpu ps ≡ Some p
numbered m ps i p all have at = by (with_number p.worker.core.cpu ps) refl (have p.worker.core.cpu (all.each i p at).number)
  where
    by : (o : Option Processor) → with_number p.worker.core.cpu ps ≡ o → is_some (with_number p.worker.core.cpu ps) ≡ true → with_number p.worker.core.cpu ps ≡ Some p
    by None is some = let h = sym (ap is_some is) ∙ some in absurd cc
    by (Some q) is some =
        let f = found p.worker.core.cpu ps q is in
        ⊎_elim
        (λ (t : (nat_eq f.at i ≡ true) × (f.at ≡ i)). is ∙ sym f.here ∙ ap (slice_get ps) t.1 ∙ at)
        (λ (t : (nat_eq f.at i ≡ false) × (f.at ≡ i → ⊥)).
        let apart = (all.one f.at i (place q.port) (place p.port)
        (get-map place (map port_of ps) f.at q.port (get-map port_of ps f.at q f.here)) (get-map place (map port_of ps) i p.port (get-map port_of ps i p at)) t.1).0 in
        absurd (apart (q.whole.port_of.number ∙ f.number ∙ sym p.whole.port_of.number)))
        (eqb_tells f.at i)

-- Where all is handled, no letter of a pair is under way.
pub all_handled_between : (m : Machine) (ps : List Processor) → AreOfOne m ps → HaveNumbers m.cpus ps → AreWhole (map port_of ps) → HaveHandledAll ps →
    (from to : ℕ) → letters_posted (pasts_of m ps) from to ≡ letters_handled (pasts_of m ps) from to
all_handled_between m ps all have whole handled from to = by (pair m ps from to all have)
  where
    by : Pair m ps from to → letters_posted (pasts_of m ps) from to ≡ letters_handled (pasts_of m ps) from to
    by (Beyond a b) = b ∙ sym a
    by (Two i j p q ne at_p at_q num_p num_q sends gets) =
        sends ∙ ap (past p).posted (sym num_q) ∙ all_is_handled ps i j p q whole handled ne at_p at_q ∙ ap (past q).handled num_p ∙ sym gets

pub rests : (m : Machine) (ps : List Processor) → AreOfOne m ps → HaveNumbers m.cpus ps → AreWhole (map port_of ps) → AreResting ps →
    AreAtRest m (pasts_of m ps)
rests m ps all have whole r = record {
  each = λ cpu done lt at. each cpu done lt (with_number cpu ps) refl at;
  all_handled = all_handled_between m ps all have whole r.handled;
}
  where
    each : (cpu : ℕ) (done : LocalTrace) → cpu < m.cpus → (o : Option Processor) → with_number cpu ps ≡ o → slice_get (pasts_of m ps) cpu ≡ Some done →
        is_at_rest m cpu done.local ≡ true
    each cpu done lt None is at = let h = sym (ap is_some is) ∙ have cpu lt in absurd cc
    each cpu done lt (Some p) is at =
        let f = found cpu ps p is in
        let same : past p ≡ done = some_is (past p) done (sym (past_found m ps cpu p lt is) ∙ at) in
        let o = all.each f.at p f.here in
        subst (λ (d : LocalTrace). is_at_rest m cpu d.local ≡ true) same
        (subst (λ m. is_at_rest m cpu p.worker.core.local ≡ true) o.machine
        (subst (λ cpu. is_at_rest p.worker.core.machine cpu p.worker.core.local ≡ true) f.number (r.each f.at p f.here)))

-- Nothing is left behind what was handled.
pub nothing_left : (handled more : List Letter) → handled ++ more ≡ handled → more ≡ []
nothing_left handled more is = append_cancel_left handled more [] (is ∙ sym (append-nil handled))

both_empty : (xs ys : List Letter) → xs ++ ys ≡ [] → (xs ≡ []) × (ys ≡ [])
both_empty [] [] is = (refl, refl)
both_empty [] (y ∷ ys) is = absurd cc
both_empty (x ∷ xs) ys is = absurd cc

in_hand : (k : ℕ) (letter : Letter) → hand_from (Some (k, letter)) k ≡ [] → ⊥
in_hand k letter none = by (nat_eq k k) (eq-eqb k k refl) none
  where
    by : (b : Bool) → b ≡ true → cond b (letter ∷ []) [] ≡ [] → ⊥
    by true is none = cc
    by false is none = cc

pub rested : (m : Machine) (ps : List Processor) → AreOfOne m ps → HaveNumbers m.cpus ps → AreWhole (map port_of ps) → AreAtRest m (pasts_of m ps) →
    AreResting ps
rested m ps all have whole r = record {
  each = λ i p at.
      let o = all.each i p at in
      let done = r.each p.worker.core.cpu (past p) o.number (past_found m ps p.worker.core.cpu p o.number (numbered m ps i p all have at)) in
      subst (λ m. is_at_rest m p.worker.core.cpu p.worker.core.local ≡ true) (sym o.machine) done;
  handled = record {
    hand = λ i p at. hand i p at p.worker.hand refl;
    kept = λ i j from to ne at_from at_to.
        subst (λ k. kept_from to.port k ≡ []) (sym from.whole.port_of.number) (left i j from to ne at_from at_to).1;
  };
}
  where
    left : (i j : ℕ) (p q : Processor) → i ≢ j → slice_get ps i ≡ Some p → slice_get ps j ≡ Some q →
        (hand_from q.worker.hand p.worker.core.cpu ≡ []) × (kept_from q.port p.worker.core.cpu ≡ [])
    left i j p q ne at_p at_q =
        let a = all.each i p at_p in
        let b = all.each j q at_q in
        let posted = ap (posted_in q.worker.core.cpu) (past_found m ps p.worker.core.cpu p a.number (numbered m ps i p all have at_p)) in
        let handled = ap (handled_in p.worker.core.cpu) (past_found m ps q.worker.core.cpu q b.number (numbered m ps j q all have at_q)) in
        both_empty (hand_from q.worker.hand p.worker.core.cpu) (kept_from q.port p.worker.core.cpu)
        (nothing_left ((past q).handled p.worker.core.cpu) _
        (sym (posted_is ps i j p q whole ne at_p at_q) ∙ sym posted ∙ r.all_handled p.worker.core.cpu q.worker.core.cpu ∙ handled))

    none_of : (i : ℕ) (p : Processor) (k : ℕ) → slice_get ps i ≡ Some p → hand_from p.worker.hand k ≡ []
    none_of i p k at = ⊎_elim (λ lt. within lt (with_number k ps) refl) past_last (cases_lt k m.cpus)
      where
        o : IsOneOf m p
        o = all.each i p at

        by_taken : taken_from p.port k ≡ [] → hand_from p.worker.hand k ≡ []
        by_taken none = none_behind (handled_from p.port p.worker.hand k) (hand_from p.worker.hand k) (sym (p.whole.hand k) ∙ none)
          where
            none_behind : (xs ys : List Letter) → xs ++ ys ≡ [] → ys ≡ []
            none_behind [] ys is = is
            none_behind (x ∷ xs) ys is = absurd cc

        past_last : m.cpus ≤ k → hand_from p.worker.hand k ≡ []
        past_last le = by_taken (none_taken_beyond m p k o le)

        within : k < m.cpus → (found_one : Option Processor) → with_number k ps ≡ found_one → hand_from p.worker.hand k ≡ []
        within lt None is = let h = sym (ap is_some is) ∙ have k lt in absurd cc
        within lt (Some q) is =
            let f = found k ps q is in
            ⊎_elim
            (λ (t : (nat_eq f.at i ≡ true) × (f.at ≡ i)).
            let same : q ≡ p = some_is q p (sym f.here ∙ ap (slice_get ps) t.1 ∙ at) in
            let number : p.worker.core.cpu ≡ k = ap (λ (x : Processor). x.worker.core.cpu) (sym same) ∙ f.number in
            by_taken (subst (λ cpu. taken_from p.port cpu ≡ []) number (none_taken_own m p o)))
            (λ (t : (nat_eq f.at i ≡ false) × (f.at ≡ i → ⊥)).
            subst (λ cpu. hand_from p.worker.hand cpu ≡ []) f.number (left f.at i q p t.1 f.here at).0)
            (eqb_tells f.at i)

    hand : (i : ℕ) (p : Processor) → slice_get ps i ≡ Some p → (h : Option (ℕ × Letter)) → p.worker.hand ≡ h → p.worker.hand ≡ None
    hand i p at None is = is
    hand i p at (Some x) is = absurd (in_hand x.0 x.1 (ap (λ h. hand_from h x.0) (sym is) ∙ none_of i p x.0 at))

-- All processors of a machine, each once

number_there : (ps : List Processor) (cpu : ℕ) → has_number cpu (map port_of ps) ≡ true → is_some (with_number cpu ps) ≡ true
number_there [] cpu is = absurd cc
number_there (p ∷ ps) cpu is = by (nat_eq p.port.cpu cpu) (ap (λ n. nat_eq n cpu) (sym p.whole.port_of.number)) is (number_there ps cpu)
  where
    by : (b : Bool) → (p.worker.core.cpu == cpu) ≡ b → (b || has_number cpu (map port_of ps)) ≡ true →
        (has_number cpu (map port_of ps) ≡ true → is_some (with_number cpu ps) ≡ true) → is_some (with_number cpu (p ∷ ps)) ≡ true
    by true same is rest = ap (λ b. is_some (cond b (Some p) (with_number cpu ps))) same
    by false same is rest = ap (λ b. is_some (cond b (Some p) (with_number cpu ps))) same ∙ rest is

numbers_below : (ports : List Port) (n k : ℕ) → have_numbers n ports ≡ true → k < n → has_number k ports ≡ true
numbers_below ports zero k is lt = absurd (omega arith)
numbers_below ports (suc n) k is lt =
    let both = and_true (have_numbers n ports) (has_number n ports) is in
    ⊎_elim (λ (t : (nat_eq k n ≡ true) × (k ≡ n)). ap (λ i. has_number i ports) t.1 ∙ both.1)
    (λ (t : (nat_eq k n ≡ false) × (k ≡ n → ⊥)). let other = t.1 in numbers_below ports n k both.0 (omega arith)) (eqb_tells k n)

pub record AreThere (m : Machine) (ps : List Processor) : Type 0 where
  pub some : 0 < length ps
  pub numbers : HaveNumbers m.cpus ps

pub all_there : (m : Machine) (ps : List Processor) → AreOfOne m ps → are_all (map port_of ps) ≡ true → AreThere m ps
all_there m [] all is = absurd cc
all_there m (p ∷ ps) all is =
    let ports = map port_of (p ∷ ps) in
    let n = length ports in
    let both = and_true (nat_lt 0 n) (have_size n ports && have_numbers n ports) is in
    let parts = and_true (have_size n ports) (have_numbers n ports) both.1 in
    let size = eqb-true (fabric_size p.port) n (and_true (nat_eq (fabric_size p.port) n) (have_size n (map port_of ps)) parts.0).0 in
    let count : n ≡ m.cpus = sym size ∙ outlets_are m p (all.each 0 p refl) in
    record {
      some = omega arith;
      numbers = λ cpu lt. number_there (p ∷ ps) cpu (numbers_below ports n cpu parts.1 (omega (arith, count)));
    }

-- The same behind a rest

one_same : (m : Machine) (old new : Processor) → IsSame old new → IsOneOf m old → IsOneOf m new
one_same m old new same o = record {
  machine = ap (λ (w : Worker). w.core.machine) same.worker ∙ o.machine;
  number = let cpu = ap (λ (w : Worker). w.core.cpu) same.worker in let lt = o.number in omega arith;
  apart = subst IsApart (sym (ap (λ (a : Account). a.place) same.account)) o.apart;
  worked = subst (λ cpu. Extends m cpu (empty_past (opening_local m cpu)) (past new)) (sym (ap (λ (w : Worker). w.core.cpu) same.worker))
      (subst (Extends m old.worker.core.cpu (empty_past (opening_local m old.worker.core.cpu))) (sym same.past) o.worked);
}

pub all_same : (m : Machine) (olds news : List Processor) → AreAsBefore olds news → AreOfOne m olds → AreOneFabric (map port_of news) → AreOfOne m news
all_same m olds news same all one = record {
  each = λ i new at.
      let count : length news ≡ length olds = sym (length-map news (λ (p : Processor). p.worker)) ∙ ap length same.workers
      ∙ length-map olds (λ (p : Processor). p.worker) in
      let lt = slice_get_within news i new at in
      let was = slice_get-get_or olds i new (omega (arith, count)) in
      one_same m (get_or olds i new) new (same_at olds news i (get_or olds i new) new same was at) (all.each i (get_or olds i new) was);
  one = one;
}

workers_number : (cpu : ℕ) (olds news : List Processor) → map (λ p. p.worker) news ≡ map (λ p. p.worker) olds →
    is_some (with_number cpu olds) ≡ is_some (with_number cpu news)
workers_number cpu [] [] same = refl
workers_number cpu [] (new ∷ news) same = absurd cc
workers_number cpu (old ∷ olds) [] same = absurd cc
workers_number cpu (old ∷ olds) (new ∷ news) same =
    let first : new.worker ≡ old.worker = cc in
    let rest : map (λ (p : Processor). p.worker) news ≡ map (λ (p : Processor). p.worker) olds = cc in
    by (old.worker.core.cpu == cpu) refl (ap (λ (w : Worker). w.core.cpu == cpu) first) (workers_number cpu olds news rest)
  where
    by : (b : Bool) → (old.worker.core.cpu == cpu) ≡ b → (new.worker.core.cpu == cpu) ≡ (old.worker.core.cpu == cpu) →
        is_some (with_number cpu olds) ≡ is_some (with_number cpu news) →
        is_some (with_number cpu (old ∷ olds)) ≡ is_some (with_number cpu (new ∷ news))
    by true was now rest = rw (was, now ∙ was) refl
    by false was now rest = rw (was, now ∙ was) rest

pub numbers_same : (below : ℕ) (olds news : List Processor) → AreAsBefore olds news → HaveNumbers below olds → HaveNumbers below news
numbers_same below olds news same have = λ cpu lt. sym (workers_number cpu olds news same.workers) ∙ have cpu lt

-- So what they have done is the same

past_same : (m : Machine) (cpu : ℕ) (olds news : List Processor) → AreAsBefore olds news → past_of m cpu (with_number cpu news) ≡ past_of m cpu (with_number cpu olds)
past_same m cpu [] [] same = refl
past_same m cpu [] (new ∷ news) same = absurd (let workers = same.workers in cc)
past_same m cpu (old ∷ olds) [] same = absurd (let workers = same.workers in cc)
past_same m cpu (old ∷ olds) (new ∷ news) same =
    let first = same_at (old ∷ olds) (new ∷ news) zero old new same refl refl in
    let workers = same.workers in
    let accounts = same.accounts in
    let more : map (λ (p : Processor). p.worker) news ≡ map (λ (p : Processor). p.worker) olds = cc in
    let rest : map (λ (p : Processor). account p.port) news ≡ map (λ (p : Processor). account p.port) olds = cc in
    by (old.worker.core.cpu == cpu) refl (ap (λ (w : Worker). w.core.cpu == cpu) first.worker) first.past
    (past_same m cpu olds news (record { workers = more; accounts = rest }))
  where
    by : (b : Bool) → (old.worker.core.cpu == cpu) ≡ b → (new.worker.core.cpu == cpu) ≡ (old.worker.core.cpu == cpu) → past new ≡ past old →
        past_of m cpu (with_number cpu news) ≡ past_of m cpu (with_number cpu olds) →
        past_of m cpu (with_number cpu (new ∷ news)) ≡ past_of m cpu (with_number cpu (old ∷ olds))
    by true was now done rest = rw (was, now ∙ was) done
    by false was now done rest = rw (was, now ∙ was) rest

pub pasts_same : (m : Machine) (olds news : List Processor) → AreAsBefore olds news → pasts_of m news ≡ pasts_of m olds
pasts_same m olds news same = each (processors m)
  where
    each : (cpus : List ℕ) → map (λ cpu. past_of m cpu (with_number cpu news)) cpus ≡ map (λ cpu. past_of m cpu (with_number cpu olds)) cpus
    each [] = refl
    each (cpu ∷ cpus) = ap₂ (λ x xs. x ∷ xs) (past_same m cpu olds news same) (each cpus)

-- What they come to together

pub gathered_history : (m : Machine) (ps : List Processor) (r : Run) (steps : List Step) → IsWholeRun m (pasts_of m ps) r →
    SortAsMerged (all_events (pasts_of m ps)) → IsMerge m ps steps → steps ≡ told r.events
gathered_history m ps r steps is sort merge =
    merge (all_events (pasts_of m ps)) sort (IsPermutation-refl (all_events (pasts_of m ps))) ∙ ap told (sym is.events)

pub is_gathered : (m : Machine) (ps : List Processor) (r : Run) (o : Findings) → IsWholeRun m (pasts_of m ps) r → IsOutcomeOf m r o → IsGathered m ps o
is_gathered m ps r o whole outcome = record { run = r; whole = whole; outcome = outcome }

pub quiet : (m : Machine) (ps : List Processor) (r : Run) (ending : Ending) → AreOfOne m ps → HaveNumbers m.cpus ps → AreWhole (map port_of ps) →
    (at_rest m r.system ≡ true) ↔ AreAtRest m (pasts_of m ps) → (ending ≡ Quiet) ↔ AreResting ps → (ending ≡ Quiet) ↔ (at_rest m r.system ≡ true)
quiet m ps r ending all have whole rest found = (
  (λ is. rest.1 (rests m ps all have whole (found.0 is))),
  (λ is. found.1 (rested m ps all have whole (rest.0 is))),
)

pub gathered_same : (m : Machine) (olds news : List Processor) (o : Findings) → AreAsBefore olds news → IsGathered m news o → IsGathered m olds o
gathered_same m olds news o same g = record {
  run = g.run;
  whole = subst (λ pasts. IsWholeRun m pasts g.run) (pasts_same m olds news same) g.whole;
  outcome = g.outcome;
}

-- Processors that go on by themselves are still those of one machine

pub assembled : {room : ℕ} (m : Machine) (ps : List Processor) → AreAssembled room m ps → AreOfOne m ps
assembled m ps a = record {
  each = λ cpu p at.
      let o = a.each cpu p at in
      let within = slice_get_within ps cpu p at in
      record {
        machine = o.machine;
        number = omega (arith, o.number, a.count);
        apart = o.apart;
        worked = subst (λ cpu. Extends m cpu (empty_past (opening_local m cpu)) (past p)) (sym o.number) o.worked;
      };
  one = a.one;
}

pub gone_on : (m : Machine) (old new : Processor) → HasGoneOn old new → IsOneOf m old → IsOneOf m new
gone_on m old new on o =
    let cpu = old.worker.core.cpu in
    let more = subst (λ m. Extends m cpu (past old) (past new)) o.machine on.worked in
    record {
      machine = on.machine ∙ o.machine;
      number = omega (arith, on.cpu, o.number);
      apart = subst IsApart (sym on.place) o.apart;
      worked = subst (λ cpu. Extends m cpu (empty_past (opening_local m cpu)) (past new)) (sym on.cpu)
          (worked_trans m cpu (empty_past (opening_local m cpu)) (past old) (past new) o.worked more);
    }

pub one_gone_on : (m : Machine) (ps : List Processor) (i : ℕ) (new d : Processor) → i < length ps → HasGoneOn (get_or ps i d) new → AreOfOne m ps →
    AreOfOne m (set ps i new)
one_gone_on m ps i new d lt on all = record {
  each = λ k p at. ⊎_elim
      (λ (t : (k ≡ i) × (new ≡ p)). subst (IsOneOf m) t.1 (gone_on m (get_or ps i d) new on (all.each i (get_or ps i d) (slice_get-get_or ps i d lt))))
      (λ (t : (k ≢ i) × (slice_get ps k ≡ Some p)). all.each k p t.1)
      (set_case ps i k new p at);
  one = one_of_set ps i new d on.place all.one;
}
