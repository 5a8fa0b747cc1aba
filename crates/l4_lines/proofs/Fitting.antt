-- The lines of a text one by one.
use Rattle.std.proofs.Common.{◌≡◌, ℕ, ◌+◌, ◌==◌, List, [], ◌∷◌, length, refl, ap, ◌∙◌, arith, Bool, true, false}
use Rattle.std.specs.Prelude.{◌||◌, count_by, find, is_some, Some, cond}
use Rattle.std.proofs.lemmas.List.Splits.{length-slice_split}
use Rattle.l4_words.specs.Lines.{parts_of}
use Rattle.l4_lines.specs.Lines.{fits_line, has_line, is_among, lines_of, without_last}

-- The first line of a text comes before the lines of what follows it.
pub first_line : (line rest text : List ℕ) → parts_of text ≡ line ∷ parts_of rest →
    lines_of text ≡ line ∷ lines_of rest
first_line line rest text is =
    ap without_last is
    ∙ by (parts_of rest) refl (length-slice_split (λ byte. byte == 10) rest)
  where
    by : (parts : List (List ℕ)) → parts_of rest ≡ parts →
        length (parts_of rest) ≡ count_by (λ byte. byte == 10) rest + 1 →
        without_last (line ∷ parts) ≡ line ∷ without_last parts
    by [] none count = absurd (omega (arith, count, ap length none))
    by (next ∷ parts) some count = refl

-- There is a first line that is asked for where a text has one.
found_among : (asked : List ℕ) (parts : List (List ℕ)) →
    is_some (find (fits_line asked) (without_last parts)) ≡ is_among asked parts
found_among asked [] = refl
found_among asked (last ∷ []) = refl
found_among asked (line ∷ next ∷ parts) = by (fits_line asked line) (found_among asked (next ∷ parts))
  where
    by : (fits : Bool) →
        is_some (find (fits_line asked) (without_last (next ∷ parts))) ≡ is_among asked (next ∷ parts) →
        is_some (cond fits (Some line) (find (fits_line asked) (without_last (next ∷ parts))))
        ≡ (fits || is_among asked (next ∷ parts))
    by true rest = refl
    by false rest = rest

pub found_line : (asked text : List ℕ) →
    is_some (find (fits_line asked) (lines_of text)) ≡ has_line asked text
found_line asked text = found_among asked (parts_of text)
