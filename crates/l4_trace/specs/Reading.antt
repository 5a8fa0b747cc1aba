-- The step that a line spells, and the steps of a text.
use Rattle.std.specs.Prelude.{ℕ, ◌≡◌, ◌↔◌, ◌+◌, ◌<◌, true, ◌==◌, ◌&&◌, nat_lt, if◌then◌else◌, Option, Some, None, Result, Ok, Err, List, [], ◌∷◌, ◌++◌, length, codes}
use Rattle.std.specs.Option.{option_map}
use Rattle.std.specs.List.{list_all}
use Rattle.std.specs.Str.{bytes_eq}
use Rattle.l4_model.specs.Words.{GlobalId, clock_limit, last_register}
use Rattle.l4_model.specs.World.{Name}
use Rattle.l4_model.specs.Machine.{OrderKind, CancelSend, CancelReceive, CancelBoth, Delete, most_processors}
use Rattle.l4_model.specs.Steps.{Step, Local, Begin, Queue, Deliver, Wait, SendTimeout, ReceiveTimeout, SendNobody, ReceiveNobody, SendCancel, ReceiveCancel, Drop, Order, Obey, Tick, Retarget}
use Rattle.l4_model.specs.Conditions.{◌>>=◌, ◌>>◌}
use Rattle.l4_trace.specs.declared.fault.TraceFault.{TraceFault}
use Rattle.l4_trace.specs.declared.fault.TraceFault.TheVariants.{NoMemory, Line}
use Rattle.l4_trace.specs.Lines.{line_of, trace_of, has_line, is_tag_of, IsTraceOf}
use Rattle.l4_words.specs.Lines.{parts_of}
use Rattle.l4_words.specs.Numbers.{number_of}
use Rattle.l4_words.specs.Threads.{thread_of}
use Rattle.l4_words.specs.Words.{words_in, one, two, three, first_five}
use Rattle.l4_words.specs.Names.{name_of}

-- What stands behind the first word of a line

-- The words of a message: those read so far, and those left. There is at most one for each register
-- but MR0.
abbrev pub message_words : (read : List ℕ) → List (List ℕ) → Option (List ℕ)
message_words read [] = Some read
message_words read (spelled ∷ others) = do
  word ← number_of 16 spelled
  nat_lt (length read) last_register
  message_words (read ++ word ∷ []) others

-- The tag has to be one that counts these words.
abbrev pub delivered : Name → (receiver shown actual : GlobalId) → (tag : ℕ) →
    (words : List ℕ) → Option Step
delivered name receiver shown actual tag words = do
  is_tag_of tag words
  Some (Deliver name receiver shown actual tag words)

-- `T#K R S A TAG W..`
unfoldable pub delivery_of : List (List ℕ) → Option Step
delivery_of operands = do
  words ← first_five operands
  name ← name_of words.0
  receiver ← thread_of words.1
  shown ← thread_of words.2
  actual ← thread_of words.3
  tag ← number_of 16 words.4
  message ← message_words [] words.5
  delivered name receiver shown actual tag message

abbrev pub order_kind_of_word : List ℕ → Option OrderKind
order_kind_of_word word =
    if bytes_eq word (codes "S") then Some CancelSend
    else (if bytes_eq word (codes "R") then Some CancelReceive
    else (if bytes_eq word (codes "SR") then Some CancelBoth
    else (if bytes_eq word (codes "delete") then Some Delete
    else None)))

-- `C R WHAT`
unfoldable pub order_of : List (List ℕ) → Option Step
order_of operands = do
  words ← three operands
  caller ← thread_of words.0
  target ← thread_of words.1
  what ← order_kind_of_word words.2
  Some (Order caller target what)

-- `P N`
unfoldable pub tick_of : List (List ℕ) → Option Step
tick_of operands = do
  words ← two operands
  cpu ← number_of 10 words.0
  clock ← number_of 10 words.1
  nat_lt cpu most_processors && nat_lt 0 clock && nat_lt clock clock_limit
  Some (Tick cpu clock)

-- A line

unfoldable pub of_thread : List (List ℕ) → Option GlobalId
of_thread operands = one operands >>= thread_of

unfoldable pub of_name : List (List ℕ) → Option Name
of_name operands = one operands >>= name_of

unfoldable pub step_behind : (first : List ℕ) → List (List ℕ) → Option Step
step_behind first operands =
    if bytes_eq first (codes "local") then option_map Local (of_thread operands)
    else (if bytes_eq first (codes "begin") then option_map Begin (of_name operands)
    else (if bytes_eq first (codes "queue") then option_map Queue (of_name operands)
    else (if bytes_eq first (codes "deliver") then delivery_of operands
    else (if bytes_eq first (codes "wait") then option_map Wait (of_thread operands)
    else (if bytes_eq first (codes "stimeout") then option_map SendTimeout (of_name operands)
    else (if bytes_eq first (codes "rtimeout") then option_map ReceiveTimeout (of_thread operands)
    else (if bytes_eq first (codes "snobody") then option_map SendNobody (of_name operands)
    else (if bytes_eq first (codes "rnobody") then option_map ReceiveNobody (of_thread operands)
    else (if bytes_eq first (codes "scancel") then option_map SendCancel (of_name operands)
    else (if bytes_eq first (codes "rcancel") then option_map ReceiveCancel (of_thread operands)
    else (if bytes_eq first (codes "drop") then option_map Drop (of_name operands)
    else (if bytes_eq first (codes "order") then order_of operands
    else (if bytes_eq first (codes "obey") then option_map Obey (of_thread operands)
    else (if bytes_eq first (codes "tick") then tick_of operands
    else (if bytes_eq first (codes "retarget") then option_map Retarget (of_name operands)
    else None)))))))))))))))

abbrev pub step_of_words : List (List ℕ) → Option Step
step_of_words [] = None
step_of_words (first ∷ operands) = step_behind first operands

-- The step that a line without its end spells.
unfoldable pub step_of_line : List ℕ → Option Step
step_of_line line = step_of_words (words_in line)

-- A text

-- A line that spells a step leads on; one that spells none is named by its number.
abbrev pub or_line : (number : ℕ) → Option Step → (Step → Result (List Step) ℕ) →
    Result (List Step) ℕ
or_line number None rest = Err number
or_line number (Some step) rest = rest step

-- The steps so far and those of the parts that are left. Or the number, counted from 1, of the
-- first line that spells no step. What has no line end has to be empty.
abbrev pub read_parts : (steps : List Step) → List (List ℕ) → Result (List Step) ℕ
read_parts steps [] = Err (length steps + 1)
read_parts steps (part ∷ []) = if length part == 0 then Ok steps else Err (length steps + 1)
read_parts steps (part ∷ next ∷ parts) = or_line (length steps + 1) (step_of_line part) (λ step.
    read_parts (steps ++ step ∷ []) (next ∷ parts))

abbrev pub steps_of : List ℕ → Result (List Step) ℕ
steps_of text = read_parts [] (parts_of text)

-- What was read of a text, seen by a view, is what the definition gives, unless memory ran out.
abbrev pub Reads : {X : Type 0} → (X → List Step) → Result X TraceFault →
    Result (List Step) ℕ → Type 0
Reads view (Ok x) text = text ≡ Ok (view x)
Reads view (Err NoMemory) text = Unit {0}
Reads view (Err (Line number)) text = text ≡ Err number

-- What is written is read

-- The trace of steps that have lines is read as these steps.
abbrev pub IsReadBack : Type 0
IsReadBack = (steps : List Step) → list_all has_line steps ≡ true →
    steps_of (trace_of steps) ≡ Ok steps

-- A text that is read is the trace of the steps that are read, and these have lines.
abbrev pub IsWritten : Type 0
IsWritten = (text : List ℕ) (steps : List Step) → steps_of text ≡ Ok steps →
    IsTraceOf text steps

-- The first fault of a text is in the line of this number, counted from 1. Lines of steps stand
-- before it. What follows them is not empty, and does not begin with the line of a step.
pub record HasFaultAt (text : List ℕ) (number : ℕ) : Type 0 where
  pub before : List Step
  pub spelled : list_all has_line before ≡ true
  pub counted : length before + 1 ≡ number
  pub rest : List ℕ
  pub whole : text ≡ trace_of before ++ rest
  pub some : 0 < length rest
  pub none : (step : Step) (others : List ℕ) → has_line step ≡ true →
      rest ≡ line_of step ++ others → ⊥

abbrev pub IsFirstFault : Type 0
IsFirstFault = (text : List ℕ) (number : ℕ) → (steps_of text ≡ Err number) ↔ HasFaultAt text number
