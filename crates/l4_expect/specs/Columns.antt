-- The words that the lines of reports have in their places.
use Rattle.std.specs.Prelude.{Bool, true, false, not, ◌&&◌, ◌||◌, ◌==◌, ℕ, zero, suc, nat_le, nat_lt, Option, None, Some, is_some, List, [], ◌∷◌, codes}
use Rattle.std.specs.Str.{bytes_eq}
use Rattle.l4_model.specs.Words.{W64, LocalThread, has_typed_words, has_word_in, last_register}
use Rattle.l4_words.specs.Names.{name_of}
use Rattle.l4_words.specs.Numbers.{number_of}
use Rattle.l4_words.specs.Threads.{thread_of}
use Rattle.l4_lines.specs.Lines.{are_rest, fits_word, is_any, is_rest, thread_asked}
use Rattle.l4_expect.specs.declared.columns.Column.{Column}
use Rattle.l4_expect.specs.declared.columns.Column.TheVariants.{First, Thread, State, Code, Sender, Id, Tag, Send, Destination, Ending}

abbrev pub is_state : (word : List ℕ) → Bool
is_state word =
    bytes_eq word (codes "ready") || bytes_eq word (codes "sending")
    || bytes_eq word (codes "receiving") || bytes_eq word (codes "ordering")
    || bytes_eq word (codes "ended") || bytes_eq word (codes "deleted")

abbrev pub is_ending : (word : List ℕ) → Bool
is_ending word = bytes_eq word (codes "quiet") || bytes_eq word (codes "spent")

-- There is a number, and this is so of it.
abbrev pub is_number : (ℕ → Bool) → Option ℕ → Bool
is_number is None = false
is_number is (Some number) = is number

-- 0, or the ErrorCode of an ipc that failed or of an order that was not admitted.
abbrev pub is_code : (word : List ℕ) → Bool
is_code word =
    is_number (λ code. code == 0 || (nat_le 2 code && nat_le code 7)) (number_of 10 word)

-- A local id is its word in hexadecimal behind a `#`, byte 35.
abbrev pub is_local : (word : List ℕ) → Bool
is_local [] = false
is_local (first ∷ digits) =
    first == 35
    && is_number (λ local. has_word_in W64 (LocalThread local)) (number_of 16 digits)

-- An id that a send may go to.
abbrev pub is_destination : (word : List ℕ) → Bool
is_destination word =
    bytes_eq word (codes "any") || bytes_eq word (codes "anylocal") || is_local word
    || is_some (thread_of word)

-- The word of MR0, which has no typed items.
abbrev pub is_tag : (word : List ℕ) → Bool
is_tag word = is_number (λ tag. not (has_typed_words tag)) (number_of 16 word)

abbrev pub is_nil : (word : List ℕ) → Bool
is_nil word = bytes_eq word (codes "nil")

-- A report of some machine may have such a word in this column, or the word stands for several that
-- it may have. The first word, the kind of the line, is judged separately.
abbrev pub is_of : Column → (word : List ℕ) → Bool
is_of First word = true
is_of Thread word = is_some (thread_of word)
is_of State word = is_state word
is_of Code word = is_code word
is_of Sender word = is_nil word || is_some (thread_of word)
is_of Id word = is_nil word || is_destination word
is_of Tag word = is_tag word
is_of Send word = is_some (name_of word) || is_some (thread_asked word)
is_of Destination word = is_destination word
is_of Ending word = is_ending word

abbrev pub may_stand : Column → (word : List ℕ) → Bool
may_stand column word = is_any word || is_of column word

-- Nothing is left, or what stands for it.
abbrev pub are_none : (asked : List (List ℕ)) → Bool
are_none [] = true
are_none (word ∷ words) = are_rest (word ∷ words)

-- Behind MR0 come the other registers up to the last that is not 0.

abbrev pub is_register : (word : List ℕ) → Bool
is_register word = is_any word || is_some (number_of 16 word)

abbrev pub is_last_register : (word : List ℕ) → Bool
is_last_register word = is_any word || is_number (nat_lt 0) (number_of 16 word)

abbrev pub are_registers : (most : ℕ) → (asked : List (List ℕ)) → Bool
are_registers zero asked = are_none asked
are_registers (suc most) [] = true
are_registers (suc most) (word ∷ []) = is_rest word || is_last_register word
are_registers (suc most) (word ∷ next ∷ words) =
    is_register word && are_registers most (next ∷ words)

abbrev pub are_more : (has_registers : Bool) → (asked : List (List ℕ)) → Bool
are_more true asked = are_registers last_register asked
are_more false asked = are_none asked

-- Each word may stand in its column, and none is missing.
abbrev pub fits_columns : (has_registers : Bool) → (columns : List Column) →
    (asked : List (List ℕ)) → Bool
fits_columns has_registers [] asked = are_more has_registers asked
fits_columns has_registers (column ∷ columns) [] = false
fits_columns has_registers (column ∷ columns) (word ∷ words) =
    are_rest (word ∷ words)
    || (may_stand column word && fits_columns has_registers columns words)

-- The columns that each line of a thread, of a send and of an ending has.

abbrev pub of_thread : List Column
of_thread = First ∷ Thread ∷ State ∷ Code ∷ Sender ∷ Id ∷ Tag ∷ []

abbrev pub of_send : List Column
of_send = First ∷ Send ∷ Destination ∷ []

abbrev pub of_ending : List Column
of_ending = First ∷ Ending ∷ []

-- A line that is asked for may be one of a report. Each word may stand in its place, and no word is
-- missing or too many.
abbrev pub may_be_line : (asked : List (List ℕ)) → Bool
may_be_line [] = false
may_be_line (first ∷ words) =
    (fits_word first (codes "thread") && fits_columns true of_thread (first ∷ words))
    || (fits_word first (codes "waiting") && fits_columns false of_send (first ∷ words))
    || (fits_word first (codes "ending") && fits_columns false of_ending (first ∷ words))

-- It may be one of a world on the way, which tells no ending.
abbrev pub may_be_told : (asked : List (List ℕ)) → Bool
may_be_told [] = false
may_be_told (first ∷ words) =
    (fits_word first (codes "thread") && fits_columns true of_thread (first ∷ words))
    || (fits_word first (codes "waiting") && fits_columns false of_send (first ∷ words))
