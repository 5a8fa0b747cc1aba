-- What the last events of logs begin is all that is sought, where it is as much as there is.
use Rattle.std.proofs.Common.{◌≡◌, ℕ, zero, suc, ◌+◌, ◌-◌, ◌<◌, ◌≤◌, Bool, true, false, cond, Option, Some, None, List, [], ◌∷◌, ◌++◌, map, set, refl, drop, take, length, length-append, append_assoc, ap, sym, ◌∙◌, subst, inl, inr, ◌⊎◌, arith}
use Rattle.std.specs.Prelude.{IfSome, filter_map, get_or, slice_get}
use Rattle.std.specs.List.{AllByRecursion}
use Rattle.std.proofs.lemmas.List.{drop_more, length-drop, take-append-drop}
use Rattle.std.proofs.lemmas.Option.{slice_get_cases}
use Rattle.std.proofs.lemmas.List.Elements.{filter_map-append}
use Rattle.l4_model.specs.Steps.{Step}
use Rattle.l4_core_model.specs.Runs.{Event, is_earlier, put_event, merged, told}
use Rattle.l4_proc.specs.declared.processor.Processor.{Processor}
use Rattle.l4_machine.specs.Inner.EventsLeft.{all_left, left}
use Rattle.l4_machine.specs.Inner.Rising.{RiseFrom}
use Rattle.l4_replay.specs.Inner.Waiting.{count_sought}
use Rattle.l4_machine.specs.Inner.Waiting.{all_at_end, at_end, ArePassed, IsSilent}
use Rattle.l4_machine.specs.declared.unmerged.Unmerged.{Unmerged}
use Rattle.l4_replay.proofs.Sought.{one_less as one_less_left}
use Rattle.l4_machine.proofs.EventsLeft.{joined, all_joined}
use Rattle.l4_machine.proofs.Sought.{passed_over, IsPassed}
use Rattle.l4_replay.proofs.Enough.{count-append, none}

-- Merging changes no count.

count_put : {A : Type 0} (f : Step → Option A) (e : Event) (xs : List Event) → count_sought f (put_event e xs) ≡ length (filter_map f e.steps) + count_sought f xs
count_put f e [] = ap length (filter_map-append f e.steps []) ∙ length-append (filter_map f e.steps) []
count_put f e (x ∷ xs) = by (is_earlier e x) (count_put f e xs)
  where
    by : (b : Bool) → count_sought f (put_event e xs) ≡ length (filter_map f e.steps) + count_sought f xs →
        count_sought f (cond b (e ∷ x ∷ xs) (x ∷ put_event e xs)) ≡ length (filter_map f e.steps) + count_sought f (x ∷ xs)
    by true rest = ap length (filter_map-append f e.steps (told (x ∷ xs))) ∙ length-append (filter_map f e.steps) (filter_map f (told (x ∷ xs)))
    by false rest =
        let here = ap length (filter_map-append f x.steps (told (put_event e xs))) ∙ length-append (filter_map f x.steps) (filter_map f (told (put_event e xs))) in
        let was = ap length (filter_map-append f x.steps (told xs)) ∙ length-append (filter_map f x.steps) (filter_map f (told xs)) in
        omega (arith, here, was, rest)

pub count_merged : {A : Type 0} (f : Step → Option A) (es : List Event) → count_sought f (merged es) ≡ count_sought f es
count_merged f [] = refl
count_merged f (e ∷ es) =
    let was = ap length (filter_map-append f e.steps (told es)) ∙ length-append (filter_map f e.steps) (filter_map f (told es)) in
    omega (arith, count_put f e (merged es), count_merged f es, was)

-- Where the last events of all logs are enough, those before them are silent.

abbrev before : {A : Type 0} → ℕ → List A → List A
before most xs = take (length xs - most) xs

counted : {A : Type 0} (f : Step → Option A) (most : ℕ) (ls : List (List Event)) →
    count_sought f (joined ls) ≡ count_sought f (joined (map (before most) ls)) + count_sought f (joined (map (at_end most) ls))
counted f most [] = refl
counted f most (l ∷ ls) =
    let whole : count_sought f l ≡ count_sought f (before most l) + count_sought f (at_end most l) =
    ap (count_sought f) (sym (take-append-drop (length l - most) l)) ∙ count-append f (before most l) (at_end most l) in
    omega (
      arith,
      whole,
      counted f most ls,
      count-append f l (joined ls),
      count-append f (before most l) (joined (map (before most) ls)),
      count-append f (at_end most l) (joined (map (at_end most) ls)),
    )

silent : {A : Type 0} (f : Step → Option A) (es : List Event) → count_sought f es ≡ 0 → AllByRecursion (IsSilent f) es
silent f [] is = tt
silent f (e ∷ es) is =
    let parts = ap length (filter_map-append f e.steps (told es)) ∙ length-append (filter_map f e.steps) (filter_map f (told es)) in
    (none (filter_map f e.steps) (omega arith), silent f es (omega arith))

behind : {A : Type 0} (done ls : List A) (x : A) → slice_get (done ++ x ∷ ls) (length done) ≡ Some x
behind [] ls x = refl
behind (y ∷ done) ls x = behind done ls x

set_behind : {A : Type 0} (done ls : List A) (x y : A) → set (done ++ x ∷ ls) (length done) y ≡ done ++ y ∷ ls
set_behind [] ls x y = refl
set_behind {A} (z ∷ done) ls x y = ap (λ (zs : List A). z ∷ zs) (set_behind done ls x y)

all_passed : {A : Type 0} (f : Step → Option A) (most : ℕ) (done ls : List (List Event)) → RiseFrom 0 (done ++ ls) →
    count_sought f (joined (map (before most) ls)) ≡ 0 → IsPassed f (done ++ ls) (done ++ map (at_end most) ls)
all_passed f most done [] rise is = record { found = refl; rise = rise }
all_passed f most done (l ∷ ls) rise is =
    let parts = count-append f (before most l) (joined (map (before most) ls)) in
    let here : slice_get (done ++ l ∷ ls) (length done) ≡ Some (before most l ++ at_end most l) =
    behind done ls l ∙ ap Some (sym (take-append-drop (length l - most) l)) in
    let one = passed_over f (done ++ l ∷ ls) (length done) (before most l) (at_end most l) rise here (silent f (before most l) (omega arith)) in
    let over : set (done ++ l ∷ ls) (length done) (at_end most l) ≡ (done ++ at_end most l ∷ []) ++ ls =
    set_behind done ls l (at_end most l) ∙ sym (append_assoc done (at_end most l ∷ []) ls) in
    let on : IsPassed f (done ++ l ∷ ls) ((done ++ at_end most l ∷ []) ++ ls) = subst (IsPassed f (done ++ l ∷ ls)) over one in
    let rest = all_passed f most (done ++ at_end most l ∷ []) ls on.rise (omega arith) in
    let end : (done ++ at_end most l ∷ []) ++ map (at_end most) ls ≡ done ++ map (at_end most) (l ∷ ls) = append_assoc done (at_end most l ∷ []) (map (at_end most) ls) in
    subst (IsPassed f (done ++ l ∷ ls)) end (record { found = on.found ∙ rest.found; rise = rest.rise })

at_end_joined : (ps : List Processor) (most : ℕ) (us : List Unmerged) → all_at_end ps most us ≡ joined (map (at_end most) (map (left ps) us))
at_end_joined ps most [] = refl
at_end_joined ps most (u ∷ us) = ap (λ (es : List Event). at_end most (left ps u) ++ es) (at_end_joined ps most us)

map_twice : (ps : List Processor) (most : ℕ) (us : List Unmerged) → map (λ (u : Unmerged). at_end most (left ps u)) us ≡ map (at_end most) (map (left ps) us)
map_twice ps most [] = refl
map_twice ps most (u ∷ us) = ap (λ (ls : List (List Event)). at_end most (left ps u) ∷ ls) (map_twice ps most us)

pub enough_passed : {A : Type 0} (f : Step → Option A) (ps : List Processor) (most count : ℕ) (olds news : List Unmerged) → RiseFrom 0 (map (left ps) olds) →
    length (filter_map f (told (merged (all_left ps olds)))) ≤ count → count ≤ count_sought f (all_at_end ps most olds) →
    map (left ps) news ≡ map (λ (u : Unmerged). at_end most (left ps u)) olds → ArePassed f ps olds news
enough_passed f ps most count olds news rise few enough are =
    let ls = map (left ps) olds in
    let all = count_merged f (all_left ps olds) ∙ ap (count_sought f) (all_joined ps olds) in
    let ends = ap (count_sought f) (at_end_joined ps most olds) in
    let passed = all_passed f most [] ls rise (omega (arith, all, ends, counted f most ls)) in
    let same : map (left ps) news ≡ map (at_end most) ls = are ∙ map_twice ps most olds in
    record {
      rising = subst (RiseFrom 0) (sym same) passed.rise;
      found = ap (λ (es : List Event). filter_map f (told (merged es))) (all_joined ps news ∙ ap joined same) ∙ sym passed.found
          ∙ ap (λ (es : List Event). filter_map f (told (merged es))) (sym (all_joined ps olds));
    }

pub next_event : {A : Type 0} (f : Step → Option A) (es : List Event) (i : ℕ) (steps : List Step) → i < length es →
    IfSome (slice_get es i) (λ e. e.steps ≡ steps) → count_sought f (drop i es) ≡ length (filter_map f steps) + count_sought f (drop (i + 1) es)
next_event f es i steps within are = by (slice_get_cases es i).1
  where
    by : ((x : Event) × (i < length es) × (slice_get es i ≡ Some x) × (get_or es i x ≡ x)) ⊎ ((length es ≤ i) × (slice_get es i ≡ None)) →
        count_sought f (drop i es) ≡ length (filter_map f steps) + count_sought f (drop (i + 1) es)
    by (inl (x, _, at, is)) =
        let same : x.steps ≡ steps = subst (λ (o : Option Event). IfSome o (λ e. e.steps ≡ steps)) at are in
        ap (count_sought f) (one_less_left es i x at) ∙ ap length (filter_map-append f x.steps (told (drop (i + 1) es)))
        ∙ length-append (filter_map f x.steps) (filter_map f (told (drop (i + 1) es)))
        ∙ ap (λ (ss : List Step). length (filter_map f ss) + count_sought f (drop (i + 1) es)) same
    by (inr past) = let least : length es ≤ i = past.0 in absurd (omega arith)

pub next_log : {A : Type 0} (f : Step → Option A) (ps : List Processor) (most : ℕ) (us : List Unmerged) (i : ℕ) (d : Unmerged) → i < length us →
    count_sought f (all_at_end ps most (drop i us)) ≡ count_sought f (at_end most (left ps (get_or us i d))) + count_sought f (all_at_end ps most (drop (i + 1) us))
next_log f ps most us i d within =
    ap (λ (us : List Unmerged). count_sought f (all_at_end ps most us)) (drop_more us i d within)
    ∙ count-append f (at_end most (left ps (get_or us i d))) (all_at_end ps most (drop (i + 1) us))

-- What is left where so many, or all where there are fewer, are left of the last events.

drop_none : {A : Type 0} (n : ℕ) → drop {A = A} n [] ≡ []
drop_none zero = refl
drop_none (suc n) = refl

drop_twice : {A : Type 0} (xs : List A) (a b : ℕ) → drop b (drop a xs) ≡ drop (a + b) xs
drop_twice xs zero b = let same : b ≡ 0 + b = omega arith in ap (λ (n : ℕ). drop n xs) same
drop_twice [] (suc a) b = drop_none b ∙ sym (drop_none (suc a + b))
drop_twice (x ∷ xs) (suc a) b = let same : suc (a + b) ≡ suc a + b = omega arith in drop_twice xs a b ∙ ap (λ (n : ℕ). drop n (x ∷ xs)) same

pub at_end_is : (es : List Event) (count few most left : ℕ) → count ≡ length es → few ≤ count → (count - few) + (few - most) ≡ count - left →
    drop (count - left) es ≡ at_end most (drop (count - few) es)
at_end_is es count few most left size within sum =
    let rest : length (drop (count - few) es) ≡ few = length-drop (count - few) es ∙ omega arith in
    ap (λ (n : ℕ). drop n es) (sym sum) ∙ sym (drop_twice es (count - few) (few - most)) ∙ ap (λ (n : ℕ). drop (n - most) (drop (count - few) es)) (sym rest)
