-- The words of a call.
use Rattle.std.specs.Prelude.{ℕ, ◌==◌, ◌-◌, List, [], ◌∷◌, codes, length, take}
use Rattle.std.specs.List.{slice_split}

-- All but the last.
abbrev pub without_last : List (List ℕ) → List (List ℕ)
without_last parts = take (length parts - 1) parts

-- What stands before a byte 0 is a word. What follows the last is none.
abbrev pub words_in : (text : List ℕ) → List (List ℕ)
words_in text = without_last (slice_split (λ byte. byte == 0) text)

-- The words of a command line, which begins with the name of the program.
abbrev pub line_of : (text : List ℕ) → List (List ℕ)
line_of text = codes "l4run" ∷ words_in text
