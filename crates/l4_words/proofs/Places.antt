-- The place of the first byte that passes a test, as a search answers it.
use Rattle.std.proofs.Common.{◌≡◌, ℕ, ◌<◌, ◌≤◌, Bool, List, length, take, Option, Some, None, refl, sym, ap, ◌∙◌, arith, le_refl}
use Rattle.std.specs.List.{position, position_or_len}
use Rattle.std.proofs.lemmas.Bool.{lt-ltb, le-ltb, false_from_ne_true}
use Rattle.std.proofs.lemmas.List.{get_or-take, length-take-le}
use Rattle.std.proofs.lemmas.List.Quantifiers.{position-Some}
use Rattle.std.proofs.lemmas.List.Sums.{fails_before_first, position_or_len_is}
use Rattle.memchr.specs.Find.{IsFirstByte}
use Rattle.l4_words.proofs.Splits.{place_at}

module _ (p : ℕ → Bool) (xs : List ℕ) where
  pub at_place : (k : ℕ) → k < length xs → position_or_len p xs ≡ k → position p xs ≡ Some k
  at_place k below e = rw (e, lt-ltb k (length xs) below) refl

  pub at_end : position_or_len p xs ≡ length xs → position p xs ≡ None
  at_end e = rw (e, le-ltb (length xs) (length xs) (le_refl (length xs))) refl

  pub first_is_position : (r : Option ℕ) → IsFirstByte p xs r → r ≡ position p xs
  first_is_position None nowhere =
      sym (at_end (position_or_len_is p xs (length xs) 0 (le_refl (length xs)) (λ k below. false_from_ne_true _ (nowhere k (omega arith) below)) (λ within. absurd (omega (arith, within)))))
  first_is_position (Some k) found =
      let high = found.0.high in
      sym (at_place k high (position_or_len_is p xs k 0 (omega (arith, high)) (λ j below. false_from_ne_true _ (found.0.before j (omega arith) below)) (λ within. found.1)))

  -- What is found in front of a list is found there.
  pub found_in_front : (n i : ℕ) → n ≤ length xs → position p (take n xs) ≡ Some i → position p xs ≡ Some i
  found_in_front n i some e =
      let at = place_at p (take n xs) i e in
      let size = length-take-le n xs some in
      let here = position-Some p (take n xs) i 0 e in
      let below : i < n = omega (arith, at.1, size) in
      let inside : i < length xs = omega (arith, below, some) in
      at_place i inside (position_or_len_is p xs i 0 (omega (arith, inside)) (λ k less. ap p (sym (get_or-take n xs k 0 (omega (arith, less, below)))) ∙ fails_before_first p (take n xs) k 0 (omega (arith, at.0, less)))
      (λ within. ap p (sym (get_or-take n xs i 0 below)) ∙ here.1))
