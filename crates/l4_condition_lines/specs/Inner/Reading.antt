-- What a line of a report reads of a world.
use Rattle.std.specs.Prelude.{ℕ, Bool, true, false, not, ◌&&◌, ◌||◌, List, [], ◌∷◌, codes}
use Rattle.std.specs.List.{list_any}
use Rattle.l4_model.specs.Words.{GlobalId}
use Rattle.l4_words.specs.Threads.{thread_of, thread_word}
use Rattle.l4_words.specs.Words.{words_in}
use Rattle.l4_lines.specs.Lines.{are_rest, fits_word, has_number, is_any, is_rest, is_send_of, thread_asked}
use Rattle.l4_invariants.specs.Inner.Reads.{Part, InState, InCode, InSenders, InRegisters, InSend, Reads}

abbrev pub is_part : Part → Part → Bool
is_part InState InState = true
is_part InCode InCode = true
is_part InSenders InSenders = true
is_part InRegisters InRegisters = true
is_part InSend InSend = true
is_part one other = false

-- What the words of a thread's line are, behind its id. Registers stand behind these.
abbrev pub columns : List Part
columns = InState ∷ InCode ∷ InSenders ∷ InSenders ∷ []

-- Which of them these words ask for: `*` asks for nothing, and neither does `..` for what is left.
abbrev pub columns_read : (asked : List (List ℕ)) → List Part → Part → Bool
columns_read asked [] part = not (are_rest asked) && is_part InRegisters part
columns_read [] (column ∷ others) part = false
columns_read (a ∷ asked) (column ∷ others) part =
    not (are_rest (a ∷ asked))
    && ((not (is_any a) && is_part column part) || columns_read asked others part)

-- The line may be that of this thread.
abbrev pub thread_read : (asked : List (List ℕ)) → GlobalId → Part → Bool
thread_read (first ∷ second ∷ others) id part =
    fits_word first (codes "thread") && fits_word second (thread_word id)
    && columns_read others columns part
thread_read asked id part = false

-- It may be that of a send of this thread. Which number a send has is read of all.

abbrev pub may_name : (asked : List ℕ) → GlobalId → Bool
may_name asked id =
    is_any asked || has_number asked
    || is_send_of (thread_asked asked) (thread_of (thread_word id))

abbrev pub send_read : (asked : List (List ℕ)) → GlobalId → Part → Bool
send_read [] id part = false
send_read (first ∷ []) id part = is_rest first && is_part InSend part
send_read (first ∷ second ∷ others) id part =
    fits_word first (codes "waiting") && (are_rest (second ∷ others) || may_name second id)
    && is_part InSend part

abbrev pub line_reads : (line : List ℕ) → Reads
line_reads line id part =
    thread_read (words_in line) id part || send_read (words_in line) id part

-- Some of these lines reads it.
abbrev pub reads_of : (asked : List (List ℕ)) → Reads
reads_of asked id part = list_any (λ line. line_reads line id part) asked
