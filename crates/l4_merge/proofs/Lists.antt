-- Lists: what holds of every element, and what a test leaves.
use Rattle.std.proofs.Common.{◌≡◌, ◌≤◌, ℕ, zero, suc, Bool, false, cond, None, List, [], ◌∷◌, ◌++◌, map, length, refl, ap, ◌∙◌, arith}
use Rattle.std.specs.Prelude.{slice_get, filter}
use Rattle.std.specs.List.{AllByRecursion, flat_map}

pub all-append : {A : Type 0} (P : A → Type 0) (xs ys : List A) → AllByRecursion P xs → AllByRecursion P ys → AllByRecursion P (xs ++ ys)
all-append P [] ys a b = b
all-append P (x ∷ xs) ys a b = (a.0, all-append P xs ys a.1 b)

pub all-of_map : {A B : Type 0} (P : B → Type 0) (f : A → B) (xs : List A) → AllByRecursion (λ x. P (f x)) xs → AllByRecursion P (map f xs)
all-of_map P f [] a = tt
all-of_map P f (x ∷ xs) a = (a.0, all-of_map P f xs a.1)

pub all-flat_map : {A B : Type 0} (P : B → Type 0) (f : A → List B) (xs : List A) →
    AllByRecursion (λ x. AllByRecursion P (f x)) xs → AllByRecursion P (flat_map f xs)
all-flat_map P f [] a = tt
all-flat_map P f (x ∷ xs) a = all-append P (f x) (flat_map f xs) a.0 (all-flat_map P f xs a.1)

-- Nothing passes a test that all fail.
pub filter-none : {A : Type 0} (test : A → Bool) (xs : List A) → AllByRecursion (λ x. test x ≡ false) xs → filter test xs ≡ []
filter-none test [] a = refl
filter-none test (x ∷ xs) a = ap (λ b. cond b (x ∷ filter test xs) (filter test xs)) a.0 ∙ filter-none test xs a.1

-- Where a list has no element, it has ended.
pub slice_get_none : {A : Type 0} (xs : List A) (i : ℕ) → slice_get xs i ≡ None → length xs ≤ i
slice_get_none [] i at = omega arith
slice_get_none (x ∷ xs) zero at = cc
slice_get_none (x ∷ xs) (suc i) at = omega (arith, slice_get_none xs i at)
