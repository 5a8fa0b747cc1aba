-- The line of a step in a trace.
use Rattle.std.specs.Prelude.{ℕ, ◌≡◌, true, ◌/◌, ◌%◌, ◌^◌, Bool, ◌==◌, ◌&&◌, nat_lt, List, [], ◌∷◌, length, map, flat_map, codes, decimal}
use Rattle.std.specs.List.{list_all}
use Rattle.l4_model.specs.Words.{is_global, clock_limit}
use Rattle.l4_model.specs.Machine.{OrderKind, CancelSend, CancelReceive, CancelBoth, Delete, most_processors}
use Rattle.l4_model.specs.Steps.{Step, Local, Begin, Queue, Deliver, Wait, SendTimeout, ReceiveTimeout, SendNobody, ReceiveNobody, SendCancel, ReceiveCancel, Drop, Order, Obey, Tick, Retarget}
pub use Rattle.l4_words.specs.Lines.{line_of_words}
pub use Rattle.l4_words.specs.Names.{is_name, name_word}
pub use Rattle.l4_words.specs.Numbers.{hexadecimal, is_word}
pub use Rattle.l4_words.specs.Threads.{thread_word}

abbrev pub order_kind_word : OrderKind → List ℕ
order_kind_word CancelSend = codes "S"
order_kind_word CancelReceive = codes "R"
order_kind_word CancelBoth = codes "SR"
order_kind_word Delete = codes "delete"

-- The words of the line of a step.
abbrev pub words_of : Step → List (List ℕ)
words_of (Local t) = codes "local" ∷ thread_word t ∷ []
words_of (Begin s) = codes "begin" ∷ name_word s ∷ []
words_of (Queue s) = codes "queue" ∷ name_word s ∷ []
words_of (Deliver s receiver shown actual tag words) =
    codes "deliver" ∷ name_word s ∷ thread_word receiver ∷ thread_word shown ∷ thread_word actual ∷
    hexadecimal tag
    ∷ map hexadecimal words
words_of (Wait t) = codes "wait" ∷ thread_word t ∷ []
words_of (SendTimeout s) = codes "stimeout" ∷ name_word s ∷ []
words_of (ReceiveTimeout t) = codes "rtimeout" ∷ thread_word t ∷ []
words_of (SendNobody s) = codes "snobody" ∷ name_word s ∷ []
words_of (ReceiveNobody t) = codes "rnobody" ∷ thread_word t ∷ []
words_of (SendCancel s) = codes "scancel" ∷ name_word s ∷ []
words_of (ReceiveCancel t) = codes "rcancel" ∷ thread_word t ∷ []
words_of (Drop s) = codes "drop" ∷ name_word s ∷ []
words_of (Order caller target what) =
    codes "order" ∷ thread_word caller ∷ thread_word target ∷ order_kind_word what ∷ []
words_of (Obey caller) = codes "obey" ∷ thread_word caller ∷ []
words_of (Tick cpu clock) = codes "tick" ∷ decimal cpu ∷ decimal clock ∷ []
words_of (Retarget s) = codes "retarget" ∷ name_word s ∷ []

abbrev pub line_of : Step → List ℕ
line_of step = line_of_words (words_of step)

-- The lines of the steps of a history, in order.
abbrev pub trace_of : List Step → List ℕ
trace_of steps = flat_map line_of steps

-- Which steps a trace can spell

-- The tag of a delivery counts its words, and has no typed items and neither of the flags `r` and
-- `E`.
abbrev pub is_tag_of : (tag : ℕ) → (words : List ℕ) → Bool
is_tag_of tag words =
    is_word tag && (tag / 2 ^ 6) % 64 == 0 && (tag / 2 ^ 13) % 2 == 0 && (tag / 2 ^ 15) % 2 == 0 &&
    tag % 64 == length words

abbrev pub has_line : Step → Bool
has_line (Local t) = is_global t
has_line (Begin s) = is_name s
has_line (Queue s) = is_name s
has_line (Deliver s receiver shown actual tag words) =
    is_name s && is_global receiver && is_global shown && is_global actual && is_tag_of tag words &&
    list_all is_word words
has_line (Wait t) = is_global t
has_line (SendTimeout s) = is_name s
has_line (ReceiveTimeout t) = is_global t
has_line (SendNobody s) = is_name s
has_line (ReceiveNobody t) = is_global t
has_line (SendCancel s) = is_name s
has_line (ReceiveCancel t) = is_global t
has_line (Drop s) = is_name s
has_line (Order caller target what) = is_global caller && is_global target
has_line (Obey caller) = is_global caller
has_line (Tick cpu clock) = nat_lt cpu most_processors && nat_lt 0 clock && nat_lt clock clock_limit
has_line (Retarget s) = is_name s

-- A text is the trace of these steps, and each of them has a line.
abbrev pub IsTraceOf : (text : List ℕ) → List Step → Type 0
IsTraceOf text steps = (list_all has_line steps ≡ true) × (trace_of steps ≡ text)
