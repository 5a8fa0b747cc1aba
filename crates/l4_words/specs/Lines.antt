-- The lines of a text.
use Rattle.std.specs.Prelude.{ℕ, ◌==◌, List, [], ◌∷◌, ◌++◌}
use Rattle.std.specs.List.{join_with_byte, slice_split}

-- What stands between the line ends of a text, byte 10: its lines, and behind the last line end
-- what has none.
abbrev pub parts_of : List ℕ → List (List ℕ)
parts_of text = slice_split (λ byte. byte == 10) text

-- One space, byte 32, stands between two words, and a line ends with byte 10.
abbrev pub line_of_words : List (List ℕ) → List ℕ
line_of_words words = join_with_byte 32 words ++ 10 ∷ []
