-- The first elements of a list, read one by one.
use Rattle.std.proofs.Common.{◌≡◌, ◌⊎◌, ◌∙◌, ℕ, ◌+◌, ◌-◌, ◌<◌, ◌≤◌, Option, None, List, [], ◌∷◌, ◌++◌, length, take, drop, get_or, ap, ap₂, sym, subst, inl, inr, append_assoc, arith}
use Rattle.std.specs.Prelude.{slice_get, Some, IfSome}
use Rattle.std.proofs.lemmas.List.{drop-append-le, drop-drop, drop-take, drop_all, drop_more, get_or-take, length-drop, length-take-le, take-take, take_all, take_more}
use Rattle.std.proofs.lemmas.Option.{get_or_from_slice_get, slice_get_cases}
use Rattle.l4_model.specs.Steps.{Step}
use Rattle.l4_history.specs.Inner.Rows.{Told, HasMore}

-- The next of the first elements.
pub take_next : {A : Type 0} → (xs : List A) (end i : ℕ) (x : A) → end ≤ length xs → i < end → slice_get xs i ≡ Some x → drop i (take end xs) ≡ x ∷ drop (i + 1) (take end xs)
take_next {A} xs end i x within before is =
    let at : i < length (take end xs) = omega (arith, length-take-le end xs within) in
    drop_more (take end xs) i x at ∙ ap (λ (y : A). y ∷ drop (i + 1) (take end xs)) (get_or-take end xs i x before ∙ get_or_from_slice_get xs i x x is)

-- One more step of another history stands behind those before.
pub next_behind : (h : List Step) (end i : ℕ) (old reserved new : Told) → end ≤ length h → i < end → reserved.steps ≡ old.steps →
    IfSome (slice_get h i) (λ step. new ≡ record { steps = reserved.steps ++ step ∷ []; room = reserved.room - 1 }) →
    new.steps ++ drop (i + 1) (take end h) ≡ old.steps ++ drop i (take end h)
next_behind h end i old reserved new within before same told = by (slice_get_cases h i).1
  where
    by : ((x : Step) × (i < length h) × (slice_get h i ≡ Some x) × (get_or h i x ≡ x)) ⊎ ((length h ≤ i) × (slice_get h i ≡ None)) →
        new.steps ++ drop (i + 1) (take end h) ≡ old.steps ++ drop i (take end h)
    by (inl (x, _, at, _)) =
        let rest : List Step = drop (i + 1) (take end h) in
        let pushed : new ≡ record { steps = reserved.steps ++ x ∷ []; room = reserved.room - 1 } =
        subst (λ (o : Option Step). IfSome o (λ step. new ≡ record { steps = reserved.steps ++ step ∷ []; room = reserved.room - 1 })) at told in
        ap (λ (t : Told). t.steps ++ rest) pushed ∙ append_assoc reserved.steps (x ∷ []) rest
        ∙ ap₂ (λ (xs ys : List Step). xs ++ ys) same (sym (take_next h end i x within before at))
    by (inr past) = let least : length h ≤ i = past.0 in absurd (omega arith)

pub more_behind : (h : List Step) (i : ℕ) (first old reserved new : Told) → i < length h → HasMore first.steps old.steps → reserved.steps ≡ old.steps →
    IfSome (slice_get h i) (λ step. new ≡ record { steps = reserved.steps ++ step ∷ []; room = reserved.room - 1 }) → HasMore first.steps new.steps
more_behind h i first old reserved new within (more, grown) same told = by (slice_get_cases h i).1
  where
    by : ((x : Step) × (i < length h) × (slice_get h i ≡ Some x) × (get_or h i x ≡ x)) ⊎ ((length h ≤ i) × (slice_get h i ≡ None)) → HasMore first.steps new.steps
    by (inl (x, _, at, _)) =
        let pushed : new ≡ record { steps = reserved.steps ++ x ∷ []; room = reserved.room - 1 } =
        subst (λ (o : Option Step). IfSome o (λ step. new ≡ record { steps = reserved.steps ++ step ∷ []; room = reserved.room - 1 })) at told in
        (more ++ x ∷ [], ap (λ (t : Told). t.steps) pushed ∙ ap (λ (xs : List Step). xs ++ x ∷ []) (same ∙ grown) ∙ append_assoc first.steps more (x ∷ []))
    by (inr past) = let least : length h ≤ i = past.0 in absurd (omega arith)

-- What is left between two places

pub left_length : {A : Type 0} → (xs : List A) (end i : ℕ) → end ≤ length xs → length (drop i (take end xs)) ≡ end - i
left_length xs end i within = length-drop i (take end xs) ∙ ap (λ (n : ℕ). n - i) (length-take-le end xs within)

pub nothing_left : {A : Type 0} → (xs : List A) (end i : ℕ) → end ≤ length xs → end ≤ i → drop i (take end xs) ≡ []
nothing_left xs end i within past = drop_all i (take end xs) (omega (arith, length-take-le end xs within, past))

pub all_taken : {A : Type 0} → (xs : List A) (end i : ℕ) → end ≤ length xs → drop i (take end xs) ≡ [] → end ≤ i
all_taken {A} xs end i within none =
    let left : length (drop i (take end xs)) ≡ 0 = ap (λ (l : List A). length l) none in
    omega (arith, left_length xs end i within, left)

-- The last of them.
pub last_left : {A : Type 0} → (xs : List A) (end i : ℕ) (x : A) → end ≤ length xs → i < end → slice_get xs (end - 1) ≡ Some x →
    drop i (take end xs) ≡ drop i (take (end - 1) xs) ++ x ∷ []
last_left {A} xs end i x within some is =
    let last : end - 1 + 1 ≡ end = omega (arith, some) in
    let before : end - 1 < length xs = omega (arith, within, some) in
    let first : end - 1 ≤ length xs = omega (arith, before) in
    let few : i ≤ length (take (end - 1) xs) = omega (arith, length-take-le (end - 1) xs first, some) in
    ap (λ (n : ℕ). drop i (take n xs)) (sym last)
    ∙ ap (λ (l : List A). drop i l) (take_more xs (end - 1) x before)
    ∙ ap (λ (y : A). drop i (take (end - 1) xs ++ y ∷ [])) (get_or_from_slice_get xs (end - 1) x x is)
    ∙ drop-append-le i (take (end - 1) xs) (x ∷ []) few

pub last_shown : {A : Type 0} → (xs : List A) (end i : ℕ) (P : A → Type 0) → end ≤ length xs → 0 < length (drop i (take end xs)) →
    IfSome (slice_get xs (end - 1)) P → (x : A) × (drop i (take end xs) ≡ drop i (take (end - 1) xs) ++ x ∷ []) × P x
last_shown {A} xs end i P within some shown = by (slice_get_cases xs (end - 1)).1
  where
    between : i < end
    between = omega (arith, left_length xs end i within, some)

    by : ((x : A) × (end - 1 < length xs) × (slice_get xs (end - 1) ≡ Some x) × (get_or xs (end - 1) x ≡ x)) ⊎ ((length xs ≤ end - 1) × (slice_get xs (end - 1) ≡ None)) →
        (x : A) × (drop i (take end xs) ≡ drop i (take (end - 1) xs) ++ x ∷ []) × P x
    by (inl (x, _, at, _)) = (x, last_left xs end i x within between at, subst (λ (o : Option A). IfSome o P) at shown)
    by (inr past) = let least : length xs ≤ end - 1 = past.0 in let far : i < end = between in absurd (omega arith)

-- The first of them, at most so many, and the others.
pub parted : {A : Type 0} → (xs : List A) (end i most middle : ℕ) → end ≤ length xs →
    (((middle ≡ end) × (end ≤ i + most)) ⊎ ((middle ≡ i + most) × (i + most ≤ end))) →
    (drop i (take middle xs) ≡ take most (drop i (take end xs))) × (drop middle (take end xs) ≡ drop most (drop i (take end xs)))
parted {A} xs end i most middle within (inl (all, few)) =
    let short : length (drop i (take end xs)) ≤ most = omega (arith, left_length xs end i within, few) in (
      ap (λ (n : ℕ). drop i (take n xs)) all ∙ sym (take_all most (drop i (take end xs)) short),
      ap (λ (n : ℕ). drop n (take end xs)) all ∙ nothing_left xs end end within (omega arith) ∙ sym (drop_all most (drop i (take end xs)) short),
    )
parted {A} xs end i most middle within (inr (some, before)) =
    let rest : i + (end - i) ≡ end = omega (arith, before) in
    let more : most ≤ end - i = omega (arith, before) in
    let whole : drop i (take end xs) ≡ take (end - i) (drop i xs) = ap (λ (n : ℕ). drop i (take n xs)) (sym rest) ∙ drop-take i (end - i) xs in (
      ap (λ (n : ℕ). drop i (take n xs)) some ∙ drop-take i most xs ∙ sym (ap (λ (l : List A). take most l) whole ∙ take-take most (end - i) (drop i xs) more),
      ap (λ (n : ℕ). drop n (take end xs)) some ∙ sym (drop-drop most i (take end xs)),
    )
