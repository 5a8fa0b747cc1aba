-- The first fault of a text with the line that it is in, as a terminal shows them.
use Rattle.std.specs.Prelude.{ℕ, ◌+◌, ◌==◌, ◌&&◌, ◌||◌, nat_le, nat_lt, if◌then◌else◌, Some}
use Rattle.std.specs.Prelude.{List, [], ◌∷◌, ◌++◌, length, map, replicate, codes}
use Rattle.l4_words.specs.Lines.{parts_of}
use Rattle.l4_lint.specs.Faults.{Fault, faults_of, line_at}
use Rattle.l4_lint.specs.Places.{Place}
use Rattle.l4_lint.specs.Spelling.{fault_line}

-- A byte that is not printable ASCII is shown as `?`, so that each takes one column.
abbrev pub shown_byte : (byte : ℕ) → ℕ
shown_byte byte = if nat_le 0x20 byte && nat_le byte 0x7e then byte else 63

-- A line stands behind four spaces. Below a place stands a `^` for each byte of its word, and one
-- where no word is.

abbrev pub shown_line : (line : List ℕ) → List ℕ
shown_line line = codes "    " ++ map shown_byte line ++ codes "\n"

abbrev pub mark_count : (word : List ℕ) → ℕ
mark_count word = if length word == 0 then 1 else length word

abbrev pub marks : Place → List ℕ
marks p = replicate (3 + p.column) 32 ++ replicate (mark_count p.word) 94 ++ codes "\n"

-- A longer line is not shown.
abbrev pub most_shown : ℕ
most_shown = 240

abbrev pub excerpt : (line : List ℕ) → Place → List ℕ
excerpt line p =
    if length line == 0 || nat_lt most_shown (length line) then [] else shown_line line ++ marks p

-- The line of this number. A text that is too long has no lines.
abbrev pub line_in : (text : List ℕ) → (number : ℕ) → List ℕ
line_in text number = if nat_lt 0x100000 (length text) then [] else line_at (parts_of text) number

-- The line of a lint of the first fault, by the name of the text's file, and an excerpt.
abbrev pub first_shown : (file text : List ℕ) → List Fault → List ℕ
first_shown file text [] = []
first_shown file text (f ∷ others) =
    fault_line (Some file) f ++ excerpt (line_in text f.line) f.place

abbrev pub fault_shown : (file text : List ℕ) → List ℕ
fault_shown file text = first_shown file text (faults_of text)
