-- The lines of reports that may be asked for, and the lines that they are.
use Rattle.std.specs.Prelude.{Bool, true, false, not, ◌&&◌, ◌||◌, ◌==◌, nat_le, if◌then◌else◌, ℕ, Option, None, Some, List, [], ◌∷◌, codes, length}
use Rattle.std.specs.List.{after_first, before_first, list_all}
use Rattle.std.specs.Str.{bytes_eq}
use Rattle.l4_model.specs.Words.{GlobalId, same_id}
use Rattle.l4_words.specs.Lines.{parts_of}
use Rattle.l4_words.specs.Names.{is_hash}
use Rattle.l4_words.specs.Threads.{thread_of}
use Rattle.l4_words.specs.Words.{words_in}
use Rattle.l4_lines.specs.declared.lines.LineFault.{LineFault}
use Rattle.l4_lines.specs.declared.lines.LineFault.TheVariants.{Unknown, Deleted, Number}

-- `*` stands for any one word, `N.V#*` for any send of a thread, and `..` at the end for the words
-- that are left, none or more.

abbrev pub is_any : (asked : List ℕ) → Bool
is_any asked = bytes_eq asked (codes "*")

abbrev pub is_rest : (asked : List ℕ) → Bool
is_rest asked = bytes_eq asked (codes "..")

-- The thread of which any send is asked for.
abbrev pub thread_asked : (asked : List ℕ) → Option GlobalId
thread_asked asked =
    if is_any (after_first is_hash asked) then thread_of (before_first is_hash asked) else None

-- A send's number has one digit or more, and no greatest length.

abbrev pub is_digit : (byte : ℕ) → Bool
is_digit byte = nat_le 48 byte && nat_le byte 57

abbrev pub is_numeral : (word : List ℕ) → Bool
is_numeral word = not (length word == 0) && list_all is_digit word

abbrev pub has_number : (word : List ℕ) → Bool
has_number word = is_numeral (after_first is_hash word)

-- The thread of which a word names a send, whatever its number.
abbrev pub thread_named : (word : List ℕ) → Option GlobalId
thread_named word = if has_number word then thread_of (before_first is_hash word) else None

abbrev pub is_send_of : (asked named : Option GlobalId) → Bool
is_send_of (Some asked) (Some named) = same_id named asked
is_send_of _ _ = false

abbrev pub fits_word : (asked word : List ℕ) → Bool
fits_word asked word =
    is_any asked || bytes_eq asked word || is_send_of (thread_asked asked) (thread_named word)

abbrev pub are_rest : (asked : List (List ℕ)) → Bool
are_rest (asked ∷ []) = is_rest asked
are_rest _ = false

-- The words of a line are those that are asked for, one by one.
abbrev pub fits : (asked words : List (List ℕ)) → Bool
fits [] [] = true
fits [] (word ∷ words) = false
fits (a ∷ asked) [] = are_rest (a ∷ asked)
fits (a ∷ asked) (word ∷ words) = are_rest (a ∷ asked) || (fits_word a word && fits asked words)

abbrev pub fits_line : (asked line : List ℕ) → Bool
fits_line asked line = fits (words_in asked) (words_in line)

-- What stands behind the last line end is no line.
abbrev pub is_among : (asked : List ℕ) → (parts : List (List ℕ)) → Bool
is_among asked [] = false
is_among asked (last ∷ []) = false
is_among asked (line ∷ next ∷ parts) = fits_line asked line || is_among asked (next ∷ parts)

-- A text has such a line.
abbrev pub has_line : (asked text : List ℕ) → Bool
has_line asked text = is_among asked (parts_of text)

-- The lines of a text.

abbrev pub without_last : (parts : List (List ℕ)) → List (List ℕ)
without_last [] = []
without_last (last ∷ []) = []
without_last (line ∷ next ∷ parts) = line ∷ without_last (next ∷ parts)

abbrev pub lines_of : (text : List ℕ) → List (List ℕ)
lines_of text = without_last (parts_of text)

-- Which lines may be asked for

-- A line of a report begins with one of these.
abbrev pub may_begin : (first : List ℕ) → Bool
may_begin first =
    is_any first || bytes_eq first (codes "thread") || bytes_eq first (codes "waiting")
    || bytes_eq first (codes "ending")

-- With this word first, and these behind its second, it may be that of a deleted thread, and asks
-- for more than its state.
abbrev pub asks_of_deleted : (first : List ℕ) → (others : List (List ℕ)) → Bool
asks_of_deleted first (state ∷ rest) =
    fits_word first (codes "thread") && fits_word state (codes "deleted") && not (are_rest rest)
asks_of_deleted first [] = false

-- With these words first it may be that of a send that waits, and asks for its number.
abbrev pub asks_for_number : (first second : List ℕ) → Bool
asks_for_number first second = fits_word first (codes "waiting") && has_number second

-- Runs that end in one state may differ in the registers of a deleted thread, in the numbers of
-- sends, and in nothing else that a line tells. So a line may not ask for them.
abbrev pub fault_of_words : (asked : List (List ℕ)) → Option LineFault
fault_of_words [] = Some Unknown
fault_of_words (first ∷ []) = if may_begin first then None else Some Unknown
fault_of_words (first ∷ second ∷ others) =
    if not (may_begin first) then Some Unknown
    else if asks_of_deleted first others then Some Deleted
    else if asks_for_number first second then Some Number else None

abbrev pub line_fault : (asked : List ℕ) → Option LineFault
line_fault asked = fault_of_words (words_in asked)
