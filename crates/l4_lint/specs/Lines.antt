-- The lines of a text.
use Rattle.std.specs.Prelude.{ℕ, ◌-◌, unwrap_or, List, [], ◌∷◌, slice_get}
use Rattle.l4_words.specs.Lines.{parts_of}

-- All parts but the last one, which stands behind the last line end.
abbrev pub without_last : (parts : List (List ℕ)) → List (List ℕ)
without_last [] = []
without_last (last ∷ []) = []
without_last (line ∷ next ∷ parts) = line ∷ without_last (next ∷ parts)

abbrev pub lines_of : (text : List ℕ) → List (List ℕ)
lines_of text = without_last (parts_of text)

-- The part of this number.
abbrev pub line_at : (parts : List (List ℕ)) → (number : ℕ) → List ℕ
line_at parts number = unwrap_or (slice_get parts (number - 1)) []
