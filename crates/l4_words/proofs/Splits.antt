-- What stands between separators, by the place of the first one.
use Rattle.std.proofs.Common.{◌≡◌, ℕ, ◌+◌, ◌<◌, ◌≤◌, Bool, true, false, cond, ltb, List, [], ◌∷◌, length, take, drop, Some, None, refl, ◌∙◌, arith}
use Rattle.std.specs.List.{slice_split, position, position_or_len}
use Rattle.std.proofs.lemmas.Bool.{ltb-true, ltb-false}
use Rattle.std.proofs.lemmas.List.Sums.{fails_before_first}
use Rattle.std.proofs.lemmas.List.Splits.{slice_split_none, slice_split_first}

module _ (p : ℕ → Bool) (xs : List ℕ) where
  pub place_at : (i : ℕ) → position p xs ≡ Some i → (position_or_len p xs ≡ i) × (i < length xs)
  place_at i e = by_test (ltb (position_or_len p xs) (length xs)) refl e
    where
      by_test : (b : Bool) → ltb (position_or_len p xs) (length xs) ≡ b → cond b (Some (position_or_len p xs)) None ≡ Some i → (position_or_len p xs ≡ i) × (i < length xs)
      by_test true t e = let same : position_or_len p xs ≡ i = cc in let below = ltb-true (position_or_len p xs) (length xs) t in (same, omega arith)
      by_test false t e = absurd cc

  pub no_place : position p xs ≡ None → length xs ≤ position_or_len p xs
  no_place e = by_test (ltb (position_or_len p xs) (length xs)) refl e
    where
      by_test : (b : Bool) → ltb (position_or_len p xs) (length xs) ≡ b → cond b (Some (position_or_len p xs)) None ≡ None → length xs ≤ position_or_len p xs
      by_test true t e = absurd cc
      by_test false t e = ltb-false (position_or_len p xs) (length xs) t

  pub split_some : (i : ℕ) → position p xs ≡ Some i → slice_split p xs ≡ take i xs ∷ slice_split p (drop (i + 1) xs)
  split_some i e =
      let at = place_at i e in
      slice_split_first p xs 0 (omega (arith, at)) ∙ rw at.0 refl

  pub split_none : position p xs ≡ None → slice_split p xs ≡ xs ∷ []
  split_none e = let all = no_place e in slice_split_none p xs (λ k d below. fails_before_first p xs k d (omega arith))
