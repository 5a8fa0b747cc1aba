-- The first word of a line, by the digits in front of it.
use Rattle.std.proofs.Common.{◌≡◌, ℕ, ◌+◌, ◌<◌, Bool, true, false, cond, List, [], ◌∷◌, length, take, drop, get_or, Option, Some, None, refl, sym, ap, ◌∙◌}
use Rattle.std.specs.Prelude.{◌==◌}
use Rattle.std.specs.Option.{option_map}
use Rattle.std.specs.List.{prefix_len, position, onto_first}
use Rattle.l4_model.specs.Conditions.{◌>>=◌}
use Rattle.l4_words.specs.Numbers.{number_of}
use Rattle.l4_words.specs.Words.{words_in, first_hexadecimal}
use Rattle.l4_words.proofs.Front.{is_digit}
use Rattle.l4_words.proofs.Separators.{separator_behind, no_separator, spoiled, spoiled_whole}
use Rattle.l4_words.proofs.Splits.{split_some, split_none}

abbrev pub with_rest : List (List ℕ) → Option ℕ → Option (ℕ × List (List ℕ))
with_rest others number = option_map (λ n. (n, others)) number

bound : (others : List (List ℕ)) (number : Option ℕ) → (number >>= λ n. Some (n, others)) ≡ with_rest others number
bound others None = refl
bound others (Some n) = refl

pub whole_line : (line : List ℕ) → prefix_len (is_digit 16) line ≡ length line → first_hexadecimal (words_in line) ≡ with_rest [] (number_of 16 line)
whole_line line e = rw (split_none (λ byte. byte == 32) line (no_separator 16 32 refl line e)) (bound [] (number_of 16 line))

pub front_word : (line : List ℕ) (end : ℕ) → end ≡ prefix_len (is_digit 16) line → end < length line → get_or line end 0 ≡ 32 →
    first_hexadecimal (words_in line) ≡ with_rest (words_in (drop (end + 1) line)) (number_of 16 (take end line))
front_word line end is within e =
    let at = separator_behind 16 32 refl line (rw is at within) (rw is at e) in
    rw (split_some (λ byte. byte == 32) line end (at ∙ ap (λ (k : ℕ). Some k) (sym is))) (bound (words_in (drop (end + 1) line)) (number_of 16 (take end line)))

no_first : (line : List ℕ) (o : Option ℕ) → position (λ byte. byte == 32) line ≡ o → prefix_len (is_digit 16) line < length line →
    (get_or line (prefix_len (is_digit 16) line) 0 ≡ 32 → ⊥) → first_hexadecimal (words_in line) ≡ None
no_first line None is within other = rw (split_none (λ byte. byte == 32) line is, spoiled_whole 16 32 refl line within) refl
no_first line (Some i) is within other = rw (split_some (λ byte. byte == 32) line i is, spoiled 16 32 refl line within other i is) refl

pub other_word : (line : List ℕ) → prefix_len (is_digit 16) line < length line →
    (get_or line (prefix_len (is_digit 16) line) 0 ≡ 32 → ⊥) → first_hexadecimal (words_in line) ≡ None
other_word line within other = no_first line (position (λ byte. byte == 32) line) refl within other

pub has_word : (line : List ℕ) → (first : List ℕ) × (others : List (List ℕ)) × (words_in line ≡ first ∷ others)
has_word [] = ([], [], refl)
has_word (byte ∷ line) = by_test (byte == 32) (has_word line)
  where
    by_test : (b : Bool) → (first : List ℕ) × (others : List (List ℕ)) × (words_in line ≡ first ∷ others) →
        (first : List ℕ) × (others : List (List ℕ)) × (cond b ([] ∷ words_in line) (onto_first byte (words_in line)) ≡ first ∷ others)
    by_test true part = ([], words_in line, refl)
    by_test false part = (byte ∷ part.0, part.1, ap (onto_first byte) part.2)

pub some_word : (line : List ℕ) → words_in line ≡ [] → ⊥
some_word line e = let word = has_word line in absurd cc
