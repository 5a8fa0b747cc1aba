-- Which expectations a report does not meet, and what is printed of them.
use Rattle.std.specs.Prelude.{Bool, true, false, not, ◌||◌, ◌&&◌, if◌then◌else◌, ℕ, Option, None, Some, List, [], ◌∷◌, ◌++◌, codes, decimal, filter, find, flat_map}
use Rattle.std.specs.List.{list_all}
use Rattle.std.specs.Str.{bytes_eq}
use Rattle.l4_words.specs.Words.{words_in}
use Rattle.l4_lines.specs.Lines.{fits_line, fits_word, has_line, lines_of}
use Rattle.l4_expect.specs.Expected.{Expected}

-- The report has such a line, or it has none where it must not.
abbrev pub is_met : (report : List ℕ) → Expected → Bool
is_met report e = if e.never then not (has_line e.asked report) else has_line e.asked report

abbrev pub are_met : (report : List ℕ) → List Expected → Bool
are_met report expected = list_all (is_met report) expected

-- The expectations that do not hold, in order of the text.
abbrev pub unmet : (report : List ℕ) → List Expected → List Expected
unmet report expected = filter (λ e. not (is_met report e)) expected

-- A line is about the same as one that is asked for: the same thread or send, by the first two
-- words, or the ending.

abbrev pub fits_next : (asked words : List (List ℕ)) → Bool
fits_next (a ∷ asked) (word ∷ words) = fits_word a word
fits_next _ _ = false

abbrev pub tells_of : (asked words : List (List ℕ)) → Bool
tells_of (a ∷ asked) (word ∷ words) =
    fits_word a word && (bytes_eq word (codes "ending") || fits_next asked words)
tells_of _ _ = false

-- What is found in the place of an expectation: the first forbidden line, or the first that is
-- about the same as a missing line.

abbrev pub is_beside : Expected → (line : List ℕ) → Bool
is_beside e line =
    if e.never then fits_line e.asked line else tells_of (words_in e.asked) (words_in line)

abbrev pub found_beside : (report : List ℕ) → Expected → Option (List ℕ)
found_beside report e = find (is_beside e) (lines_of report)

-- What is printed: the line of the text, what was wanted, and what was found.

abbrev pub verb : (never : Bool) → List ℕ
verb true = codes ": never: "
verb false = codes ": wanted: "

abbrev pub found_words : Option (List ℕ) → List ℕ
found_words None = codes "nothing"
found_words (Some line) = line

abbrev pub unmet_line : (report : List ℕ) → Expected → List ℕ
unmet_line report e =
    codes "line " ++ decimal e.number ++ verb e.never ++ e.asked ++ codes "; found: "
    ++ found_words (found_beside report e) ++ codes "\n"

-- A line for each that does not hold.
abbrev pub unmet_text : (report : List ℕ) → List Expected → List ℕ
unmet_text report expected = flat_map (unmet_line report) (unmet report expected)

-- What is printed of an expectation that does not hold, or nothing.
abbrev pub unmet_part : (report : List ℕ) → Expected → List ℕ
unmet_part report e = if is_met report e then [] else unmet_line report e

-- The exit status, by that of the run.
abbrev pub expected_status : (are_met : Bool) → (status : ℕ) → ℕ
expected_status true status = status
expected_status false status = 4
