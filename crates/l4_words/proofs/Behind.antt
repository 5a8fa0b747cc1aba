-- The words behind a first one.
use Rattle.std.proofs.Common.{◌≡◌, ℕ, ◌+◌, ◌<◌, Bool, true, false, cond, List, [], ◌∷◌, ◌++◌, length, take, drop, get_or, Option, Some, None, refl, sym, ap, ◌∙◌, arith, length-append}
use Rattle.std.specs.List.{join_with_byte}
use Rattle.std.specs.Str.{bytes_eq}
use Rattle.std.proofs.Math.Seq.{take-append_seam, get_or-append_seam}
use Rattle.std.proofs.lemmas.Bool.{false≢true}
use Rattle.std.proofs.lemmas.List.Splits.{join_with_byte-slice_split}
use Rattle.std.proofs.lemmas.Slice.Eq.{bytes_eq-Decides}
use Rattle.l4_words.specs.Words.{words_in, words_behind}
use Rattle.l4_words.proofs.Above.{is_above}
use Rattle.l4_words.proofs.FirstWord.{has_word}
use Rattle.l4_words.proofs.InFront.{first_word}

-- What a line is in front of the words behind a first one.
pub record Begins (first line : List ℕ) : Type 0 where
  pub within : length first < length line
  pub at_end : get_or line (length first) 0 ≡ 32
  pub same : take (length first) line ≡ first

begins : (first rest line : List ℕ) → first ++ 32 ∷ rest ≡ line → Begins first line
begins first rest line e =
    let size = length-append first (32 ∷ rest) in
    let within : length first < length (first ++ 32 ∷ rest) = omega (arith, size) in
    let at_end : get_or (first ++ 32 ∷ rest) (length first) 0 ≡ 32 = get_or-append_seam first 32 rest 0 in
    let same : take (length first) (first ++ 32 ∷ rest) ≡ first = take-append_seam first (32 ∷ rest) in
    record { within = rw e at within; at_end = rw e at at_end; same = rw e at same }

chosen : {A : Type 0} (test : Bool) (a b : A) → cond test (Some a) None ≡ Some b → test ≡ true
chosen true a b e = refl
chosen false a b e = absurd cc

only_behind : (first line : List ℕ) (words others : List (List ℕ)) → words_in line ≡ words → words_behind first words ≡ Some others → Begins first line
only_behind first line [] others e found = absurd cc
only_behind first line (word ∷ []) others e found = absurd cc
only_behind first line (word ∷ next ∷ more) others e found =
    let same : word ≡ first = (bytes_eq-Decides word first).0 (chosen (bytes_eq word first) (next ∷ more) others found) in
    let joined : word ++ 32 ∷ join_with_byte 32 (next ∷ more) ≡ line = sym (ap (join_with_byte 32) e) ∙ join_with_byte-slice_split 32 line in
    begins first (join_with_byte 32 (next ∷ more)) line (rw same at joined)

pub is_same : (xs ys : List ℕ) → true ≡ bytes_eq xs ys → xs ≡ ys
is_same xs ys e = (bytes_eq-Decides xs ys).0 (sym e)

pub differs : (xs ys : List ℕ) → false ≡ bytes_eq xs ys → xs ≡ ys → ⊥
differs xs ys e same = false≢true (e ∙ (bytes_eq-Decides xs ys).1 same)

none_unless : {A : Type 0} (o : Option A) → ((a : A) → o ≡ Some a → ⊥) → o ≡ None
none_unless None other = refl
none_unless (Some a) other = absurd (other a refl)

pub not_behind : (first line : List ℕ) → (Begins first line → ⊥) → words_behind first (words_in line) ≡ None
not_behind first line other = none_unless (words_behind first (words_in line)) (λ others found. other (only_behind first line (words_in line) others refl found))

pub behind_first : (first line : List ℕ) → is_above 32 first ≡ true → Begins first line → words_behind first (words_in line) ≡ Some (words_in (drop (length first + 1) line))
behind_first first line above b = by (has_word (drop (length first + 1) line))
  where
    split : words_in line ≡ first ∷ words_in (drop (length first + 1) line)
    split = first_word line (length first) (rw b.same above) b.within b.at_end ∙ ap (λ (word : List ℕ). word ∷ words_in (drop (length first + 1) line)) b.same

    by : (word : List ℕ) × (others : List (List ℕ)) × (words_in (drop (length first + 1) line) ≡ word ∷ others) →
        words_behind first (words_in line) ≡ Some (words_in (drop (length first + 1) line))
    by parts = rw (split, parts.2, (bytes_eq-Decides first first).1 refl) refl
