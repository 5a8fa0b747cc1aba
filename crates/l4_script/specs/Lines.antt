-- Lines, and the words of a line.
use Rattle.std.specs.Prelude.{ℕ, Bool, ◌||◌, ◌&&◌, ◌==◌, nat_le, if◌then◌else◌, Option, Some, None, Ok, Err, List, [], ◌∷◌, length, slice_index}
use Rattle.std.specs.List.{list_all, list_any}
use Rattle.std.specs.Str.{bytes_eq}
use Rattle.l4_words.specs.Words.{words_in}
use Rattle.l4_script.specs.declared.text.fault.TextFaultKind.TheVariants.{BadLine}
use Rattle.l4_script.specs.Judged.{Judged, ◌>>◌, must}

-- Printable ASCII.
abbrev pub is_printable : List ℕ → Bool
is_printable line = list_all (λ byte. nat_le 0x20 byte && nat_le byte 0x7e) line

abbrev pub has_empty_word : List ℕ → Bool
has_empty_word line = list_any (λ word. length word == 0) (words_in line)

-- An empty line, and one that begins with `;`, byte 59, says nothing.
abbrev pub is_skipped : List ℕ → Bool
is_skipped line = length line == 0 || slice_index line 0 == 59

-- The words of a line, or none where it says nothing.
unfoldable pub line_of : List ℕ → Judged (Option (List (List ℕ)))
line_of line = do
  must (is_printable line) BadLine
  (if is_skipped line then Ok None else if has_empty_word line then Err BadLine
      else Ok (Some (words_in line)))

-- The words behind a keyword.
abbrev pub after : (keyword : List ℕ) → List (List ℕ) → Judged (List (List ℕ))
after keyword [] = Err BadLine
after keyword (word ∷ words) = if bytes_eq word keyword then Ok words else Err BadLine
