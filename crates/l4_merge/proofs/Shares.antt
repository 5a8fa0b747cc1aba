-- How many events of each processor there are among those that all of them have added.
use Rattle.std.proofs.Common.{◌≡◌, ◌<◌, ◌≤◌, ℕ, suc, ◌+◌, Bool, true, false, cond, Some, List, [], ◌∷◌, ◌++◌, map, length, drop, refl, ap, sym, ◌∙◌, subst, ⊎_elim, arith}
use Rattle.std.specs.Prelude.{filter, slice_get, ◌==◌}
use Rattle.std.proofs.lemmas.Bool.{ne_eqb}
use Rattle.std.proofs.lemmas.Bool.Decides.{eqb_tells}
use Rattle.std.proofs.lemmas.List.{length-append}
use Rattle.l4_model.specs.Machine.{Machine}
use Rattle.l4_core_model.specs.Local.{Local}
use Rattle.l4_core_model.specs.Runs.{Event, Run, is_earlier, put_event, merged}
use Rattle.l4_merge.specs.Transitions.{Transition, Lead, told_by}
use Rattle.l4_merge.specs.LocalTraces.{LocalTrace, AddAtMost, Extends, HaveWorked, added_events}
use Rattle.l4_merge.specs.Merges.{IsMergedRun}
use Rattle.l4_merge.specs.Rounds.{events_of}

-- Lists of events, counted

of-append : (cpu : ℕ) (xs ys : List Event) → events_of cpu (xs ++ ys) ≡ events_of cpu xs + events_of cpu ys
of-append cpu [] ys = omega arith
of-append cpu (x ∷ xs) ys = by (x.cpu == cpu) (of-append cpu xs ys)
  where
    own : List Event → List Event
    own = filter (λ e. e.cpu == cpu)

    by : (b : Bool) → length (own (xs ++ ys)) ≡ length (own xs) + length (own ys) →
        length (cond b (x ∷ own (xs ++ ys)) (own (xs ++ ys))) ≡ length (cond b (x ∷ own xs) (own xs)) + length (own ys)
    by true rest = omega arith
    by false rest = rest

of-put : (cpu : ℕ) (e : Event) (xs : List Event) → events_of cpu (put_event e xs) ≡ events_of cpu (e ∷ xs)
of-put cpu e [] = refl
of-put cpu e (x ∷ xs) = by (is_earlier e x) (of-put cpu e xs)
  where
    own : List Event → List Event
    own = filter (λ e. e.cpu == cpu)

    swap : (a b : Bool) (ys zs : List Event) → length ys ≡ length (cond a (e ∷ zs) zs) →
        length (cond b (x ∷ ys) ys) ≡ length (cond a (e ∷ cond b (x ∷ zs) zs) (cond b (x ∷ zs) zs))
    swap true true ys zs same = ap suc same
    swap true false ys zs same = same
    swap false true ys zs same = ap suc same
    swap false false ys zs same = same

    by : (b : Bool) → events_of cpu (put_event e xs) ≡ events_of cpu (e ∷ xs) →
        events_of cpu (cond b (e ∷ x ∷ xs) (x ∷ put_event e xs)) ≡ events_of cpu (e ∷ x ∷ xs)
    by true rest = refl
    by false rest = swap (e.cpu == cpu) (x.cpu == cpu) (own (put_event e xs)) (own xs) rest

of-merged : (cpu : ℕ) (es : List Event) → events_of cpu (merged es) ≡ events_of cpu es
of-merged cpu [] = refl
of-merged cpu (e ∷ es) = of-put cpu e (merged es) ∙ by (e.cpu == cpu) (of-merged cpu es)
  where
    own : List Event → List Event
    own = filter (λ e. e.cpu == cpu)

    by : (b : Bool) → length (own (merged es)) ≡ length (own es) →
        length (cond b (e ∷ own (merged es)) (own (merged es))) ≡ length (cond b (e ∷ own es) (own es))
    by true rest = ap suc rest
    by false rest = rest

at_most_all : (cpu : ℕ) (es : List Event) → events_of cpu es ≤ length es
at_most_all cpu [] = omega arith
at_most_all cpu (e ∷ es) = by (e.cpu == cpu) (at_most_all cpu es)
  where
    own : List Event → List Event
    own = filter (λ e. e.cpu == cpu)

    by : (b : Bool) → length (own es) ≤ length es → length (cond b (e ∷ own es) (own es)) ≤ length (e ∷ es)
    by true rest = omega arith
    by false rest = omega arith

-- What a processor has added is its own

none_of : (m : Machine) (cpu other : ℕ) (l now : Local) (ds : List Transition) → (other ≡ cpu → ⊥) → Lead m other l ds now →
    events_of cpu (map told_by ds) ≡ 0
none_of m cpu other l now [] ne lead = refl
none_of m cpu other l now (d ∷ ds) ne lead =
    rw (ne_eqb d.cpu cpu (λ same. ne (sym lead.0.own ∙ same))) (none_of m cpu other d.work.local now ds ne lead.1)

more_is : (m : Machine) (cpu : ℕ) (old new : LocalTrace) (w : Extends m cpu old new) → drop (length old.events) new.events ≡ map told_by w.transitions
more_is m cpu old new w = ap (drop (length old.events)) w.are.events ∙ dropped old.events (map told_by w.transitions)
  where
    dropped : (xs ys : List Event) → drop (length xs) (xs ++ ys) ≡ ys
    dropped [] ys = refl
    dropped (x ∷ xs) ys = dropped xs ys

abbrev WorkedFrom : Machine → (from : ℕ) → (olds news : List LocalTrace) → Type 0
WorkedFrom m from olds news = (i cpu : ℕ) (old new : LocalTrace) → from + i ≡ cpu → slice_get olds i ≡ Some old → slice_get news i ≡ Some new →
    Extends m cpu old new

-- Those of later processors are none of this one.
none_later : (m : Machine) (cpu from : ℕ) (olds news : List LocalTrace) → cpu < from → WorkedFrom m from olds news → events_of cpu (added_events olds news) ≡ 0
none_later m cpu from [] news lt work = refl
none_later m cpu from (old ∷ olds) [] lt work = refl
none_later m cpu from (old ∷ olds) (new ∷ news) lt work =
    let first = work 0 from old new (omega arith) refl refl in
    let none = ap (events_of cpu) (more_is m from old new first) ∙ none_of m cpu from old.local new.local first.transitions (λ same. omega arith) first.are.lead in
    let rest = none_later m cpu (from + 1) olds news (omega arith) (λ i c o n e was now. work (suc i) c o n (omega arith) was now) in
    let both = of-append cpu (drop (length old.events) new.events) (added_events olds news) in
    omega arith

few_added : (m : Machine) (most cpu from : ℕ) (olds news : List LocalTrace) → WorkedFrom m from olds news → AddAtMost most olds news →
    events_of cpu (added_events olds news) ≤ most
few_added m most cpu from [] news work few = omega arith
few_added m most cpu from (old ∷ olds) [] work few = omega arith
few_added m most cpu from (old ∷ olds) (new ∷ news) work few =
    let first = work 0 from old new (omega arith) refl refl in
    let is = more_is m from old new first in
    let both = of-append cpu (drop (length old.events) new.events) (added_events olds news) in
    let later = λ (i c : ℕ) (o n : LocalTrace) (e : from + 1 + i ≡ c) (was : slice_get olds i ≡ Some o) (now : slice_get news i ≡ Some n).
    work (suc i) c o n (omega arith) was now in
    ⊎_elim
    (λ same.
    let none = none_later m cpu (from + 1) olds news (let e = same.1 in omega arith) later in
    let all = at_most_all cpu (drop (length old.events) new.events) in
    let size = ap length is in
    let whole = ap length first.are.events ∙ length-append old.events (map told_by first.transitions) in
    let bound = few 0 old new refl refl in
    omega arith)
    (λ other.
    let none = ap (events_of cpu) is ∙ none_of m cpu from old.local new.local first.transitions other.1 first.are.lead in
    let rest = few_added m most cpu (from + 1) olds news later (λ i o n was now. few (suc i) o n was now) in
    omega arith)
    (eqb_tells from cpu)

pub at_most : (m : Machine) (most : ℕ) (before after : Run) (olds news : List LocalTrace) → HaveWorked m olds news → IsMergedRun m before olds news after →
    AddAtMost most olds news → (cpu : ℕ) → events_of cpu after.events ≤ events_of cpu before.events + most
at_most m most before after olds news worked is few cpu =
    let all = ap (events_of cpu) is.events ∙ of-append cpu before.events (merged (added_events olds news)) in
    let same = of-merged cpu (added_events olds news) in
    let bound = few_added m most cpu 0 olds news
    (λ i c o n e was now. worked.each c o n (subst (λ i. slice_get olds i ≡ Some o) (omega arith) was) (subst (λ i. slice_get news i ≡ Some n) (omega arith) now)) few in
    omega arith
