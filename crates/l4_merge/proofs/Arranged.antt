-- The transitions of all processors in the order of their events. Those of each processor are in that order already.
use Rattle.std.proofs.Common.{◌≡◌, ℕ, ◌<◌, ◌≤◌, Bool, true, false, cond, List, [], ◌∷◌, map, refl, ap, sym, ◌∙◌}
use Rattle.std.specs.Prelude.{if◌then◌else◌, ◌==◌}
use Rattle.std.specs.List.{AllByRecursion}
use Rattle.l4_model.specs.Machine.{Machine}
use Rattle.l4_model.proofs.Chains.{cond_keeps}
use Rattle.l4_core_model.specs.Local.{Local}
use Rattle.l4_core_model.specs.Runs.{is_earlier, put_event, merged}
use Rattle.l4_core_model.proofs.Lists.{all-map, all-filter}
use Rattle.l4_merge.specs.Transitions.{Transition, told_by, Lead}
use Rattle.l4_merge.proofs.Transitions.{stamp_of, lead_above}
use Rattle.l4_merge.proofs.EventOrder.{earlier_flip, earlier_than_rest, earlier_by_stamp, stamps_rise}
use Rattle.l4_merge.proofs.Own.{own}

abbrev pub comes_before : Transition → Transition → Bool
comes_before d e = is_earlier (told_by d) (told_by e)

-- One transition more, before the first that it comes before.
abbrev pub put_transition : Transition → List Transition → List Transition
put_transition d [] = d ∷ []
put_transition d (x ∷ xs) = if comes_before d x then d ∷ x ∷ xs else x ∷ put_transition d xs

-- All of them in order.
abbrev pub arranged : List Transition → List Transition
arranged [] = []
arranged (d ∷ ds) = put_transition d (arranged ds)

-- Their events are merged

told-put : (d : Transition) (xs : List Transition) → map told_by (put_transition d xs) ≡ put_event (told_by d) (map told_by xs)
told-put d [] = refl
told-put d (x ∷ xs) = by (comes_before d x) (told-put d xs)
  where
    by : (b : Bool) → map told_by (put_transition d xs) ≡ put_event (told_by d) (map told_by xs) →
        map told_by (cond b (d ∷ x ∷ xs) (x ∷ put_transition d xs)) ≡
        cond b (told_by d ∷ told_by x ∷ map told_by xs) (told_by x ∷ put_event (told_by d) (map told_by xs))
    by true rest = refl
    by false rest = ap (λ es. told_by x ∷ es) rest

pub told-arranged : (ds : List Transition) → map told_by (arranged ds) ≡ merged (map told_by ds)
told-arranged [] = refl
told-arranged (d ∷ ds) = told-put d (arranged ds) ∙ ap (put_event (told_by d)) (told-arranged ds)

-- What holds of all transitions holds of them arranged

all-put : (P : Transition → Type 0) (d : Transition) (xs : List Transition) → P d → AllByRecursion P xs → AllByRecursion P (put_transition d xs)
all-put P d [] p a = (p, tt)
all-put P d (x ∷ xs) p a =
    cond_keeps (AllByRecursion P) (comes_before d x) (d ∷ x ∷ xs) (x ∷ put_transition d xs) (λ yes. (p, a)) (λ no. (a.0, all-put P d xs p a.1))

pub all-arranged : (P : Transition → Type 0) (ds : List Transition) → AllByRecursion P ds → AllByRecursion P (arranged ds)
all-arranged P [] a = tt
all-arranged P (d ∷ ds) a = all-put P d (arranged ds) a.0 (all-arranged P ds a.1)

-- No transition comes before one that stands before it

abbrev pub AreArranged : List Transition → Type 0
AreArranged [] = Unit {0}
AreArranged (d ∷ ds) = AllByRecursion (λ e. comes_before e d ≡ false) ds × AreArranged ds

before_all : (d x : Transition) (xs : List Transition) → comes_before d x ≡ true → AllByRecursion (λ e. comes_before e x ≡ false) xs →
    AllByRecursion (λ e. comes_before d e ≡ true) xs
before_all d x xs h a =
    all-map (λ e. comes_before e x ≡ false) (λ e. comes_before d e ≡ true) (λ e k. earlier_than_rest (told_by d) (told_by x) (told_by e) h k) xs a

none_before : (d : Transition) (xs : List Transition) → AllByRecursion (λ e. comes_before d e ≡ true) xs → AllByRecursion (λ e. comes_before e d ≡ false) xs
none_before d xs a = all-map (λ e. comes_before d e ≡ true) (λ e. comes_before e d ≡ false) (λ e h. earlier_flip (told_by d) (told_by e) h) xs a

put_arranged : (d : Transition) (xs : List Transition) → AreArranged xs → AreArranged (put_transition d xs)
put_arranged d [] a = (tt, tt)
put_arranged d (x ∷ xs) a =
    cond_keeps AreArranged (comes_before d x) (d ∷ x ∷ xs) (x ∷ put_transition d xs)
    (λ yes. (none_before d (x ∷ xs) (yes, before_all d x xs yes a.0), a))
    (λ no. (all-put (λ e. comes_before e x ≡ false) d xs no a.0, put_arranged d xs a.1))

pub are_arranged : (ds : List Transition) → AreArranged (arranged ds)
are_arranged [] = tt
are_arranged (d ∷ ds) = put_arranged d (arranged ds) (are_arranged ds)

pub rising : (d : Transition) (ds : List Transition) → AllByRecursion (λ e. comes_before e d ≡ false) ds → AllByRecursion (λ e. stamp_of d ≤ stamp_of e) ds
rising d ds a = all-map (λ e. comes_before e d ≡ false) (λ (e : Transition). stamp_of d ≤ stamp_of e) (λ e. stamps_rise (told_by d) (told_by e)) ds a

-- The transitions of one processor keep their order

put_first : (d : Transition) (xs : List Transition) → AllByRecursion (λ e. comes_before d e ≡ true) xs → put_transition d xs ≡ d ∷ xs
put_first d [] a = refl
put_first d (x ∷ xs) a = ap (λ b. cond b (d ∷ x ∷ xs) (x ∷ put_transition d xs)) a.0

own-put : (cpu : ℕ) (d : Transition) (xs : List Transition) → AreArranged xs → own cpu (put_transition d xs) ≡ cond (d.cpu == cpu) (put_transition d (own cpu xs)) (own cpu xs)
own-put cpu d [] a = refl
own-put cpu d (x ∷ xs) a = by (comes_before d x) refl (own-put cpu d xs a.1)
  where
    all : List Transition
    all = own cpu (x ∷ xs)

    first : (b : Bool) → comes_before d x ≡ true → cond b (d ∷ all) all ≡ cond b (put_transition d all) all
    first true h =
        let before = all-filter (λ e. comes_before d e ≡ true) (λ e. e.cpu == cpu) (x ∷ xs) (h, before_all d x xs h a.0) in
        sym (put_first d all before)
    first false h = refl

    later : (b c : Bool) → comes_before d x ≡ false → own cpu (put_transition d xs) ≡ cond b (put_transition d (own cpu xs)) (own cpu xs) →
        cond c (x ∷ own cpu (put_transition d xs)) (own cpu (put_transition d xs)) ≡
        cond b (put_transition d (cond c (x ∷ own cpu xs) (own cpu xs))) (cond c (x ∷ own cpu xs) (own cpu xs))
    later true true h rest = ap (λ ys. x ∷ ys) rest ∙ ap (λ b. cond b (d ∷ x ∷ own cpu xs) (x ∷ put_transition d (own cpu xs))) (sym h)
    later true false h rest = rest
    later false true h rest = ap (λ ys. x ∷ ys) rest
    later false false h rest = rest

    by : (b : Bool) → comes_before d x ≡ b → own cpu (put_transition d xs) ≡ cond (d.cpu == cpu) (put_transition d (own cpu xs)) (own cpu xs) →
        own cpu (cond b (d ∷ x ∷ xs) (x ∷ put_transition d xs)) ≡ cond (d.cpu == cpu) (put_transition d all) all
    by true h rest = first (d.cpu == cpu) h
    by false h rest = later (d.cpu == cpu) (x.cpu == cpu) h rest

own-arranged : (cpu : ℕ) (ds : List Transition) → own cpu (arranged ds) ≡ arranged (own cpu ds)
own-arranged cpu [] = refl
own-arranged cpu (d ∷ ds) = own-put cpu d (arranged ds) (are_arranged ds) ∙ by (d.cpu == cpu) (own-arranged cpu ds)
  where
    by : (b : Bool) → own cpu (arranged ds) ≡ arranged (own cpu ds) →
        cond b (put_transition d (own cpu (arranged ds))) (own cpu (arranged ds)) ≡ arranged (cond b (d ∷ own cpu ds) (own cpu ds))
    by true rest = ap (put_transition d) rest
    by false rest = rest

arranged_lead : (m : Machine) (cpu : ℕ) (l now : Local) (ds : List Transition) → Lead m cpu l ds now → arranged ds ≡ ds
arranged_lead m cpu l now [] lead = refl
arranged_lead m cpu l now (d ∷ ds) lead =
    let above = lead_above m cpu d.work.local now ds lead.1 in
    let first = all-map (λ (e : Transition). stamp_of d < stamp_of e) (λ e. comes_before d e ≡ true) (λ e. earlier_by_stamp (told_by d) (told_by e)) ds above in
    ap (put_transition d) (arranged_lead m cpu d.work.local now ds lead.1) ∙ put_first d ds first

pub own_arranged : (m : Machine) (cpu : ℕ) (l now : Local) (ds : List Transition) → Lead m cpu l (own cpu ds) now → own cpu (arranged ds) ≡ own cpu ds
own_arranged m cpu l now ds lead = own-arranged cpu ds ∙ arranged_lead m cpu l now (own cpu ds) lead
