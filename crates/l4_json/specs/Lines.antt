-- Lines of a text as lines of JSON.
use Rattle.std.specs.Prelude.{ℕ, List, [], ◌∷◌, ◌++◌, codes, flat_map, map, option_and_then, unwrap_or}
use Rattle.json.specs.Json.{Json, document}
use Rattle.l4_words.specs.Lines.{parts_of}
use Rattle.l4_words.specs.Words.{words_in}
use Rattle.l4_json.specs.Objects.{Value, One, json_of, object_text}
use Rattle.l4_json.specs.Rows.{line_in, row_of, told}

-- The object of a line tells of which kind it is, what its words are, and what more is known. This
-- is its text, and what that says.

abbrev pub kind_of : (line : List ℕ) → List ℕ
kind_of line = (row_of (words_in line)).kind

abbrev pub members_of : (line : List ℕ) → (more : List (List ℕ × List ℕ)) → List (List ℕ × Value)
members_of line more =
    told (row_of (words_in line)).parts (words_in line) ++ map (λ m. (m.0, One m.1)) more

abbrev pub text_of : (line : List ℕ) → (more : List (List ℕ × List ℕ)) → List ℕ
text_of line more = object_text (kind_of line) (members_of line more)

abbrev pub object_of : (line : List ℕ) → (more : List (List ℕ × List ℕ)) → Json
object_of line more = json_of (kind_of line) (members_of line more)

-- The lines of a text as objects. What stands behind the last line end is no line.

abbrev pub all_but_last : List (List ℕ) → List (List ℕ)
all_but_last [] = []
all_but_last (last ∷ []) = []
all_but_last (part ∷ next ∷ parts) = part ∷ all_but_last (next ∷ parts)

abbrev pub json_text : (text : List ℕ) → List ℕ
json_text text = flat_map (λ line. text_of line [] ++ codes "\n") (all_but_last (parts_of text))

-- The lines of a text, each with its line end.
abbrev pub whole_lines : (text : List ℕ) → List ℕ
whole_lines text = flat_map (λ line. line ++ codes "\n") (all_but_last (parts_of text))

-- The lines that a text of objects tells. A line of it that is no object of a line tells the empty
-- line.

abbrev pub line_told : (object : List ℕ) → List ℕ
line_told object = unwrap_or (option_and_then line_in (document object)) []

abbrev pub lines_told : (objects : List ℕ) → List ℕ
lines_told objects =
    flat_map (λ object. line_told object ++ codes "\n") (all_but_last (parts_of objects))
