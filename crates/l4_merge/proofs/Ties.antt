-- No two events of all processors tie in the order by stamp and processor, so that a permutation keeps those that tie with one.
use Rattle.std.proofs.Common.{◌≡◌, ℕ, ◌<◌, ◌≤◌, Bool, true, false, not, cond, List, [], ◌∷◌, ◌++◌, map, length, refl, ap, sym, ◌∙◌, subst, arith}
use Rattle.std.specs.Prelude.{filter, ◌==◌}
use Rattle.std.specs.List.{AllByRecursion, All}
use Rattle.std.specs.List.Sorted.{IsPermutation, ties}
use Rattle.std.proofs.lemmas.Bool.{eqb-false}
use Rattle.std.proofs.lemmas.List.Elements.{All-nil, All-cons, All-append, All-weaker, All-filter, filter_passes}
use Rattle.std.proofs.lemmas.List.Sorted.{sum_by-IsPermutation, All-permutation, IsPermutation-sym, IsPermutation-trans, IsPermutation-filter_both}
use Rattle.std.proofs.lemmas.List.Sums.{length-filter}
use Rattle.l4_model.specs.Machine.{Machine}
use Rattle.l4_core_model.specs.Local.{Local}
use Rattle.l4_core_model.specs.Runs.{Event, is_earlier}
use Rattle.l4_merge.specs.Transitions.{Transition, told_by, Lead}
use Rattle.l4_merge.proofs.Lists.{filter-none}
use Rattle.l4_merge.proofs.Transitions.{stamp_of, lead_above}
use Rattle.l4_merge.proofs.EventOrder.{ties_stamp, ties_cpu}
use Rattle.l4_merge.proofs.Own.{own}

-- Where at most one element passes a test, a permutation keeps what passes

same_count : {A : Type 0} (p : A → Bool) (xs ys : List A) → IsPermutation xs ys → length (filter p ys) ≡ length (filter p xs)
same_count p xs ys moved = length-filter p ys ∙ sum_by-IsPermutation (λ x. cond (p x) 1 0) xs ys moved ∙ sym (length-filter p xs)

all_passed : {A : Type 0} (p : A → Bool) (P : A → Type 0) (xs ys : List A) → IsPermutation xs ys → All P (filter p xs) → All P (filter p ys)
all_passed {A} p P xs ys moved all =
    let other : A → Bool = λ x. not (p x) in
    let apart = IsPermutation-trans (filter p xs ++ filter other xs) xs ys (IsPermutation-sym xs _ (IsPermutation-filter_both p other (λ x. refl) xs)) moved in
    let passes : A → Type 0 = λ x. p x ≡ true → P x in
    let first = All-weaker P passes (λ x is _. is) (filter p xs) all in
    let rest = All-weaker (λ x. other x ≡ true) passes (λ x failed passed. absurd (never (p x) failed passed)) (filter other xs) (filter_passes other xs) in
    let here = All-permutation passes (filter p xs ++ filter other xs) ys apart (All-append passes (filter p xs) (filter other xs) first rest) in
    λ k d lt. All-filter p passes ys here k d lt (filter_passes p ys k d lt)
  where
    never : (b : Bool) → not b ≡ true → b ≡ true → ⊥
    never true failed passed = cc
    never false failed passed = cc

pub same_passed : {A : Type 0} (p : A → Bool) (xs ys : List A) → IsPermutation xs ys → length (filter p xs) ≤ 1 → filter p ys ≡ filter p xs
same_passed {A} p xs ys moved few = by (filter p xs) refl
  where
    none : (zs : List A) → length zs ≡ 0 → zs ≡ []
    none [] size = refl
    none (z ∷ zs) size = absurd (omega arith)

    one : (a : A) (zs : List A) → length zs ≡ 1 → All (λ z. z ≡ a) zs → zs ≡ a ∷ []
    one a [] size all = absurd (omega arith)
    one a (z ∷ []) size all = ap (λ z. z ∷ []) (all 0 z (omega arith))
    one a (z ∷ w ∷ zs) size all = absurd (omega arith)

    by : (passed : List A) → filter p xs ≡ passed → filter p ys ≡ filter p xs
    by [] is = none (filter p ys) (same_count p xs ys moved ∙ ap length is) ∙ sym is
    by (a ∷ []) is =
        let all = subst (All (λ x. x ≡ a)) (sym is) (All-cons (λ x. x ≡ a) a [] refl (All-nil (λ x. x ≡ a))) in
        one a (filter p ys) (same_count p xs ys moved ∙ ap length is) (all_passed p (λ x. x ≡ a) xs ys moved all) ∙ sym is
    by (a ∷ b ∷ more) is = let size = ap length is in absurd (omega arith)

-- The events that tie with an event are of its processor, where stamps rise

abbrev pub tying : Event → List Event → List Event
tying e = filter (ties is_earlier e)

pub tying_own : (e : Event) (ds : List Transition) → tying e (map told_by ds) ≡ tying e (map told_by (own e.cpu ds))
tying_own e [] = refl
tying_own e (d ∷ ds) = by (d.cpu == e.cpu) (ties is_earlier e (told_by d)) refl refl (tying_own e ds)
  where
    told : List Transition → List Event
    told ds = tying e (map told_by ds)

    by : (b c : Bool) → (d.cpu == e.cpu) ≡ b → ties is_earlier e (told_by d) ≡ c → told ds ≡ told (own e.cpu ds) →
        cond c (told_by d ∷ told ds) (told ds) ≡ told (cond b (d ∷ own e.cpu ds) (own e.cpu ds))
    by true c s t rest =
        ap (λ es. cond c (told_by d ∷ es) es) rest ∙ ap (λ c. cond c (told_by d ∷ told (own e.cpu ds)) (told (own e.cpu ds))) (sym t)
    by false true s t rest = absurd (eqb-false d.cpu e.cpu s (ties_cpu e (told_by d) t))
    by false false s t rest = rest

-- So in one log at most one event ties with it.
pub one_ties : (m : Machine) (cpu : ℕ) (e : Event) (l now : Local) (ds : List Transition) → Lead m cpu l ds now →
    length (tying e (map told_by ds)) ≤ 1
one_ties m cpu e l now [] lead = omega arith
one_ties m cpu e l now (d ∷ ds) lead = by (ties is_earlier e (told_by d)) refl (one_ties m cpu e d.work.local now ds lead.1)
  where
    rest : List Event
    rest = tying e (map told_by ds)

    apart : (xs : List Transition) → ties is_earlier e (told_by d) ≡ true → AllByRecursion (λ x. stamp_of d < stamp_of x) xs →
        AllByRecursion (λ x. ties is_earlier e x ≡ false) (map told_by xs)
    apart [] tie above = tt
    apart (x ∷ xs) tie above = (no_tie (ties is_earlier e (told_by x)) refl, apart xs tie above.1)
      where
        no_tie : (b : Bool) → ties is_earlier e (told_by x) ≡ b → b ≡ false
        no_tie false h = refl
        no_tie true h =
            let p = ties_stamp e (told_by d) tie in
            let q = ties_stamp e (told_by x) h in
            let lt : stamp_of d < stamp_of x = above.0 in
            absurd (omega arith)

    by : (b : Bool) → ties is_earlier e (told_by d) ≡ b → length rest ≤ 1 → length (cond b (told_by d ∷ rest) rest) ≤ 1
    by true tie few =
        let none = filter-none (ties is_earlier e) (map told_by ds) (apart ds tie (lead_above m cpu d.work.local now ds lead.1)) in
        let size = ap length none in
        omega arith
    by false tie few = few
