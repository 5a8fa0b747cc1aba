-- Lists, and what is true of all their elements.
use Rattle.std.proofs.Common.{[], ◌≡◌, ℕ, zero, suc, ◌+◌, ◌<◌, Bool, true, false, cond, Option, Some, None, List, ◌∷◌, ◌++◌, map, filter, drop, refl, subst, arith}
use Rattle.std.specs.Prelude.{slice_index_or, find}
use Rattle.std.specs.List.{AllByRecursion, range_with_len}
use Rattle.l4_model.specs.Conditions.{◌>>=◌}

-- Lists
pub all-map : {A : Type 0} (P Q : A → Type 0) → ((x : A) → P x → Q x) → (xs : List A) → AllByRecursion P xs → AllByRecursion Q xs
all-map P Q f [] h = tt
all-map P Q f (x ∷ xs) h = (f x h.0, all-map P Q f xs h.1)

pub all-map_with : {A : Type 0} (P N Q : A → Type 0) → ((x : A) → P x → N x → Q x) → (xs : List A) → AllByRecursion P xs → AllByRecursion N xs → AllByRecursion Q xs
all-map_with P N Q f [] h n = tt
all-map_with P N Q f (x ∷ xs) h n = (f x h.0 n.0, all-map_with P N Q f xs h.1 n.1)

pub all-append : {A : Type 0} (P : A → Type 0) (xs : List A) (y : A) → AllByRecursion P xs → P y → AllByRecursion P (xs ++ y ∷ [])
all-append P [] y h p = (p, tt)
all-append P (x ∷ xs) y h p = (h.0, all-append P xs y h.1 p)

pub all-filter : {A : Type 0} (P : A → Type 0) (p : A → Bool) (xs : List A) → AllByRecursion P xs → AllByRecursion P (filter p xs)
all-filter P p [] h = tt
all-filter P p (x ∷ xs) h = by (p x) (all-filter P p xs h.1)
  where
    by : (b : Bool) → AllByRecursion P (filter p xs) → AllByRecursion P (cond b (x ∷ filter p xs) (filter p xs))
    by true t = (h.0, t)
    by false t = t

-- Ready and armed lists get shorter.
pub all-drop : {A : Type 0} (P : A → Type 0) (xs : List A) → AllByRecursion P xs → AllByRecursion P (drop 1 xs)
all-drop P [] h = tt
all-drop P (x ∷ xs) h = h.1

-- What waits at a receiver, with its seat.
pub all_find : {A : Type 0} (P : A → Type 0) (q : A → Bool) (es : List A) (e : A) → AllByRecursion P es → find q es ≡ Some e → P e × (q e ≡ true)
all_find P q [] e all h = cc
all_find P q (x ∷ xs) e all h = by (q x) refl h (all_find P q xs e all.1)
  where
    by : (b : Bool) → q x ≡ b → cond b (Some x) (find q xs) ≡ Some e → (find q xs ≡ Some e → P e × (q e ≡ true)) → P e × (q e ≡ true)
    by true is h rest = let same : x ≡ e = cc in (subst P same all.0, subst (λ y. q y ≡ true) same is)
    by false is h rest = rest h

pub found_none : {A B : Type 0} (p : A → Bool) (f : A → Option B) → ((x : A) → f x ≡ None → ⊥) → (xs : List A) → (find p xs >>= f) ≡ None → AllByRecursion (λ x. p x ≡ false) xs
found_none p f gives [] h = tt
found_none p f gives (x ∷ xs) h = by (p x) refl h (found_none p f gives xs)
  where
    by : (b : Bool) → p x ≡ b → (cond b (Some x) (find p xs) >>= f) ≡ None → ((find p xs >>= f) ≡ None → AllByRecursion (λ x. p x ≡ false) xs) → (p x ≡ false) × AllByRecursion (λ x. p x ≡ false) xs
    by true is h rest = absurd (gives x h)
    by false is h rest = (is, rest h)

-- The opening
pub get-same : {A B : Type 0} (b : B) (xs : List A) (i : ℕ) → slice_index_or (map (λ x. b) xs) i b ≡ b
get-same b [] i = refl
get-same b (x ∷ xs) zero = refl
get-same b (x ∷ xs) (suc i) = get-same b xs i

-- The own places are those of the machine.
pub range_below : (a n : ℕ) → AllByRecursion (λ i. i < a + n) (range_with_len a n)
range_below a zero = tt
range_below a (suc n) = (omega arith, all-map (λ i. i < a + 1 + n) (λ i. i < a + suc n) (λ i lt. omega arith) (range_with_len (a + 1) n) (range_below (a + 1) n))
