-- The lines of reports, one by one.
use Rattle.std.proofs.Common.{◌≡◌, ℕ, Bool, true, false, List, [], ◌∷◌, ◌++◌, refl, ap, sym, ◌∙◌, append_assoc}
use Rattle.std.specs.Prelude.{◌==◌, ◌||◌, flat_map}
use Rattle.std.specs.List.{join_with_byte, list_any}
use Rattle.std.proofs.lemmas.List.Splits.{slice_split_at}
use Rattle.l4_words.specs.Lines.{line_of_words, parts_of}
use Rattle.l4_words.specs.Words.{words_in}
use Rattle.l4_words.proofs.Above.{lacks}
use Rattle.l4_words.proofs.Parts.{has_part}
use Rattle.l4_lines.specs.Lines.{fits, fits_line, has_line, is_among}
use Rattle.l4_trace.proofs.Plain.{line_is_above, line_is_split}
use Rattle.l4_common_lines.proofs.Spelled.{are_whole_words}

-- A text has a line that is asked for: its first one, or one behind it.

first_part : (first : List ℕ) (others : List (List ℕ)) (rest : List ℕ) →
    are_whole_words (first ∷ others) ≡ true →
    parts_of (line_of_words (first ∷ others) ++ rest)
    ≡ join_with_byte 32 (first ∷ others) ∷ parts_of rest
first_part first others rest whole =
    ap parts_of (append_assoc (join_with_byte 32 (first ∷ others)) (10 ∷ []) rest)
    ∙ slice_split_at (λ x. x == 10) (join_with_byte 32 (first ∷ others)) 10 rest
    (lacks 10 (join_with_byte 32 (first ∷ others)) (line_is_above (first ∷ others) whole)) refl

among_first : (asked line : List ℕ) (rest : List ℕ) →
    is_among asked (line ∷ parts_of rest) ≡ (fits_line asked line || is_among asked (parts_of rest))
among_first asked line rest =
    let part = has_part rest in
    ap (λ ps. is_among asked (line ∷ ps)) part.2
    ∙ sym (ap (λ ps. fits_line asked line || is_among asked ps) part.2)

pub line_behind : (asked : List ℕ) (first : List ℕ) (others : List (List ℕ)) (rest : List ℕ) →
    are_whole_words (first ∷ others) ≡ true →
    has_line asked (line_of_words (first ∷ others) ++ rest)
    ≡ (fits (words_in asked) (first ∷ others) || has_line asked rest)
line_behind asked first others rest whole =
    ap (is_among asked) (first_part first others rest whole)
    ∙ among_first asked (join_with_byte 32 (first ∷ others)) rest
    ∙ ap (λ ws. fits (words_in asked) ws || has_line asked rest) (line_is_split first others whole)

-- Many lines

or_assoc : (a b c : Bool) → (a || (b || c)) ≡ (a || b || c)
or_assoc true b c = refl
or_assoc false b c = refl

pub lines_behind : {A : Type 0} (asked : List ℕ) (first : List ℕ) (others : A → List (List ℕ))
    (xs : List A) (rest : List ℕ) →
    ((x : A) → are_whole_words (first ∷ others x) ≡ true) →
    has_line asked (flat_map (λ x. line_of_words (first ∷ others x)) xs ++ rest)
    ≡ (list_any (λ x. fits (words_in asked) (first ∷ others x)) xs || has_line asked rest)
lines_behind asked first others [] rest whole = refl
lines_behind asked first others (x ∷ xs) rest whole =
    ap (has_line asked) (append_assoc (line_of_words (first ∷ others x))
    (flat_map (λ y. line_of_words (first ∷ others y)) xs) rest)
    ∙ line_behind asked first (others x) (flat_map (λ y. line_of_words (first ∷ others y)) xs ++ rest) (whole x)
    ∙ ap (λ (b : Bool). fits (words_in asked) (first ∷ others x) || b)
    (lines_behind asked first others xs rest whole)
    ∙ or_assoc (fits (words_in asked) (first ∷ others x))
    (list_any (λ y. fits (words_in asked) (first ∷ others y)) xs) (has_line asked rest)
