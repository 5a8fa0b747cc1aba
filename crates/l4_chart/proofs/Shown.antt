-- What a loop has made of a list, and what is left of it.
use Rattle.std.proofs.Common.{◌≡◌, ◌∙◌, ℕ, ◌+◌, zero, suc, Bool, true, false, cond, Option, None, List, [], ◌∷◌, ◌++◌, ◌<◌, length, take, get_or, refl, ap, sym, arith, append_assoc, append-nil, add-one, add-zero, zero-add}
use Rattle.std.specs.Prelude.{Some, filter, filter_map, flat_map}
use Rattle.std.specs.Option.{option_to_list}
use Rattle.std.specs.List.{cons_option, range_with_len}
use Rattle.std.proofs.lemmas.List.{take_more}
use Rattle.std.proofs.lemmas.List.Concat.{flat_map-append}
use Rattle.std.proofs.lemmas.List.Elements.{filter_map-append}

-- The next element is kept or not.
pub kept : {A : Type 0} (p : A → Bool) (x : A) (xs old new : List A) → new ≡ cond (p x) (old ++ x ∷ []) old →
    new ++ filter p xs ≡ old ++ filter p (x ∷ xs)
kept {A} p x xs old new is = by (p x) is
  where
    by : (b : Bool) → new ≡ cond b (old ++ x ∷ []) old → new ++ filter p xs ≡ old ++ cond b (x ∷ filter p xs) (filter p xs)
    by true e = ap (λ n. n ++ filter p xs) e ∙ append_assoc old (x ∷ []) (filter p xs)
    by false e = ap (λ n. n ++ filter p xs) e

range_suc : (a n : ℕ) → range_with_len a (suc n) ≡ range_with_len a n ++ (a + n) ∷ []
range_suc a zero = ap (λ (x : ℕ). x ∷ []) (sym (add-zero a))
range_suc a (suc n) =
    let next : a + 1 + n ≡ a + suc n = omega arith in
    ap (λ l. a ∷ l) (range_suc (a + 1) n ∙ ap (λ (x : ℕ). range_with_len (a + 1) n ++ x ∷ []) next)

-- One number more.
pub flat_map-range_suc : {A : Type 0} (f : ℕ → List A) (n : ℕ) →
    flat_map f (range_with_len 0 (suc n)) ≡ flat_map f (range_with_len 0 n) ++ f n
flat_map-range_suc f n =
    ap (flat_map f) (range_suc 0 n) ∙ flat_map-append f (range_with_len 0 n) ((0 + n) ∷ [])
    ∙ ap (λ l. flat_map f (range_with_len 0 n) ++ l) (append-nil (f (0 + n)) ∙ ap f (zero-add n))

pub flat_map-range_more : {A : Type 0} (f : ℕ → List A) (n : ℕ) →
    flat_map f (range_with_len 0 (n + 1)) ≡ flat_map f (range_with_len 0 n) ++ f n
flat_map-range_more f n = rw add-one (flat_map-range_suc f n)

single : {B : Type 0} (o : Option B) → cons_option o [] ≡ option_to_list o
single None = refl
single (Some y) = refl

-- What is found for the next element is appended.
pub found_next : {A B : Type 0} (f : A → Option B) (xs : List A) (i : ℕ) (x : A) (begun old new : List B) → i < length xs → x ≡ get_or xs i x →
    old ≡ begun ++ filter_map f (take i xs) → new ≡ old ++ option_to_list (f x) → new ≡ begun ++ filter_map f (take (i + 1) xs)
found_next {A} f xs i x begun old new within at is more =
    let next : filter_map f (take (i + 1) xs) ≡ filter_map f (take i xs) ++ option_to_list (f x) =
    ap (filter_map f) (take_more xs i x within) ∙ ap (λ (y : A). filter_map f (take i xs ++ y ∷ [])) (sym at)
    ∙ filter_map-append f (take i xs) (x ∷ []) ∙ ap (λ l. filter_map f (take i xs) ++ l) (single (f x)) in
    more ∙ ap (λ l. l ++ option_to_list (f x)) is ∙ append_assoc begun (filter_map f (take i xs)) (option_to_list (f x))
    ∙ ap (λ l. begun ++ l) (sym next)
