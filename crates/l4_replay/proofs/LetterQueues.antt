-- A queue of letters, where one more is appended.
use Rattle.std.proofs.Common.{◌≡◌, ℕ, ◌+◌, ◌-◌, ◌≤◌, List, [], ◌∷◌, ◌++◌, length, drop, sym, arith}
use Rattle.std.proofs.lemmas.List.{drop-append-le, length-append, length-drop}
use Rattle.l4_core_model.specs.Letters.{Letter}
use Rattle.l4_types.specs.declared.letters.LetterHead.{LetterHead}
use Rattle.l4_types.specs.Inner.LetterHeads.{letter_with, letters_in, word_count, words_by}
use Rattle.l4_types.proofs.LetterRows.{by-push, words-push}

abbrev own : LetterHead → LetterHead
own l = l

abbrev seen : LetterHead → Letter → Letter
seen l letter = letter

module _ (heads : List LetterHead) (words new : List ℕ) (gone : ℕ) (head : LetterHead) (whole : gone + words_by own heads ≡ length words) (own_words : length new ≡ word_count head.content) where
  pub queued-more : letters_in (heads ++ head ∷ []) (drop gone (words ++ new)) ≡ letters_in heads (drop gone words) ++ letter_with new head ∷ []
  queued-more =
      let within : gone ≤ length words = omega (arith, whole) in
      let left : words_by own heads ≡ length (drop gone words) = omega (arith, whole, length-drop gone words) in
      rw (drop-append-le gone words new within) (by-push own seen heads (drop gone words) new head left (sym own_words))

  pub words-more : gone + words_by own (heads ++ head ∷ []) ≡ length (words ++ new)
  words-more = omega (arith, words-push own seen heads head, whole, own_words, length-append words new)
