-- Letters whose words stand one behind another in a row.
use Rattle.std.proofs.Common.{◌≡◌, ℕ, ◌+◌, ◌≤◌, Option, Some, None, List, [], ◌∷◌, ◌++◌, length, take, drop, zero, suc, refl, ap, sym, subst, arith}
use Rattle.std.specs.Prelude.{slice_get}
use Rattle.std.proofs.lemmas.List.{take_all, take-append-le, drop-append-le, length-drop}
use Rattle.l4_core_model.specs.Letters.{Letter}
use Rattle.l4_types.specs.declared.letters.LetterHead.{LetterHead}
use Rattle.l4_types.specs.Inner.LetterHeads.{letter_with, letters_by, word_count, words_by}

module _ {A B : Type 0} (head : A → LetterHead) (seen : A → Letter → B) where
  abbrev count : A → ℕ
  count a = word_count (head a).content

  -- One more, whose words come behind those of all others.
  pub by-push : (xs : List A) (row new : List ℕ) (a : A) → words_by head xs ≡ length row → word_count (head a).content ≡ length new →
      letters_by head seen (xs ++ a ∷ []) (row ++ new) ≡ letters_by head seen xs row ++ seen a (letter_with new (head a)) ∷ []
  by-push [] [] new a whole own = ap (λ (ws : List ℕ). seen a (letter_with ws (head a)) ∷ []) (take_all (count a) new (omega (arith, own)))
  by-push [] (w ∷ row) new a whole own = absurd (omega (arith, whole))
  by-push (b ∷ xs) row new a whole own =
      let here : count b ≤ length row = omega (arith, whole) in
      let rest : words_by head xs ≡ length (drop (count b) row) = omega (arith, whole, length-drop (count b) row) in
      rw (take-append-le (count b) row new here, drop-append-le (count b) row new here)
      (ap (λ (ls : List B). seen b (letter_with (take (count b) row) (head b)) ∷ ls) (by-push xs (drop (count b) row) new a rest own))

  pub words-push : (xs : List A) (a : A) → words_by head (xs ++ a ∷ []) ≡ words_by head xs + word_count (head a).content
  words-push [] a = omega arith
  words-push (b ∷ xs) a = omega (arith, words-push xs a)

  -- From one of them on.
  pub by-first : (xs : List A) (row : List ℕ) (at : ℕ) (a : A) → slice_get xs at ≡ Some a →
      slice_get (letters_by head seen (drop at xs) row) 0 ≡ Some (seen a (letter_with (take (word_count (head a).content) row) (head a)))
  by-first [] row at a is = cc
  by-first (b ∷ xs) row zero a is = ap {B = Option B} (λ (o : Option A). first o) is
    where
      first : Option A → Option B
      first None = None
      first (Some c) = Some (seen c (letter_with (take (count c) row) (head c)))
  by-first (b ∷ xs) row (suc at) a is = by-first xs row at a is

  pub by-none : (xs : List A) (row : List ℕ) (at : ℕ) → slice_get xs at ≡ None → letters_by head seen (drop at xs) row ≡ []
  by-none [] row zero is = refl
  by-none [] row (suc at) is = refl
  by-none (b ∷ xs) row zero is = cc
  by-none (b ∷ xs) row (suc at) is = by-none xs row at is

  pub by-rest : (xs : List A) (row : List ℕ) (at : ℕ) (a : A) → slice_get xs at ≡ Some a →
      letters_by head seen (drop (at + 1) xs) (drop (word_count (head a).content) row) ≡ drop 1 (letters_by head seen (drop at xs) row)
  by-rest [] row at a is = cc
  by-rest (b ∷ xs) row zero a is = ap {B = List B} (λ (o : Option A). rest o) (sym is)
    where
      rest : Option A → List B
      rest None = []
      rest (Some c) = letters_by head seen xs (drop (count c) row)
  by-rest (b ∷ xs) row (suc at) a is =
      let next : suc (at + 1) ≡ suc at + 1 = omega arith in
      subst (λ (k : ℕ). letters_by head seen (drop k (b ∷ xs)) (drop (count a) row) ≡ drop 1 (letters_by head seen (drop at xs) row)) next (by-rest xs row at a is)

  pub words-first : (xs : List A) (at : ℕ) (a : A) → slice_get xs at ≡ Some a → words_by head (drop at xs) ≡ word_count (head a).content + words_by head (drop (at + 1) xs)
  words-first [] at a is = cc
  words-first (b ∷ xs) zero a is = ap (λ (o : Option A). whole o) is
    where
      whole : Option A → ℕ
      whole None = 0
      whole (Some c) = count c + words_by head xs
  words-first (b ∷ xs) (suc at) a is =
      let next : suc (at + 1) ≡ suc at + 1 = omega arith in
      subst (λ (k : ℕ). words_by head (drop at xs) ≡ count a + words_by head (drop k (b ∷ xs))) next (words-first xs at a is)

  pub as-many : (xs : List A) (row : List ℕ) → length (letters_by head seen xs row) ≡ length xs
  as-many [] row = refl
  as-many (b ∷ xs) row = ap suc (as-many xs (drop (count b) row))
