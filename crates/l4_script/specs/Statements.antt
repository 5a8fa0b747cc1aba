-- What the lines of a machine text say: keywords and the number of words are judged first, then the
-- operands from left to right.
use Rattle.std.specs.Prelude.{ℕ, ◌/◌, ◌%◌, ◌^◌, ◌-◌, Bool, true, false, ◌&&◌, ◌==◌, not, nat_lt, if◌then◌else◌, Option, Some, None, Ok, Err, List, [], ◌∷◌, find, length, codes}
use Rattle.std.specs.Option.{option_map}
use Rattle.std.specs.Str.{bytes_eq}
use Rattle.l4_model.specs.Words.{Format, W64, W32, last_register}
use Rattle.l4_model.specs.Machine.{Operation, Value, Word, Register, Computed, Assign, Instr, Run, Tag, Vs, Ipc, IdFrom, Fixed, Last, Ask, OrderKind, CancelSend, CancelReceive, CancelBoth, Delete, Jump, OnErr, End, Declaration, Machine, most_processors, most_threads, most_instructions}
use Rattle.l4_script.specs.declared.text.fault.TextFaultKind.TheVariants.{BadLine, BadNumber, BadId, BadCpu, TypedItems, DoubleId, TooManyThreads, TooManyInstructions}
use Rattle.l4_script.specs.Judged.{Judged, ◌>>=◌, ◌>>◌, must, needs}
use Rattle.l4_script.specs.Numbers.{number_of, number_from, word_from, time_from}
use Rattle.l4_words.specs.Words.{one, two, four, five}
use Rattle.l4_script.specs.Ids.{thread_in, id_of}
use Rattle.l4_script.specs.Lines.{after}
use Rattle.l4_script.specs.Operations.{operation_named}
use Rattle.l4_script.specs.Machines.{is_taken, with_thread, last_thread, extended}

-- What a first line says: whether its machine retargets, and the format of its words.
pub record Heading : Type 0 where
  pub retargeting : Bool
  pub format : Format

-- A first line: its profile, how many bits a word has, and what these say.
pub record FirstLine : Type 0 where
  pub profile : ℕ
  pub width : ℕ
  pub heading : Heading

abbrev pub first_line : (profile width : ℕ) → (retargeting : Bool) → Format → FirstLine
first_line profile width retargeting format =
    record {
      profile = profile;
      width = width;
      heading = record { retargeting = retargeting; format = format };
    }

abbrev pub first_lines : List FirstLine
first_lines =
    first_line 1 64 false W64
    ∷ first_line 1 32 false W32
    ∷ first_line 2 64 true W64
    ∷ first_line 2 32 true W32 ∷ []

abbrev pub names : (profile width : ℕ) → FirstLine → Bool
names profile width line = profile == line.profile && width == line.width

-- What these numbers say, where there is such a first line.
abbrev pub heading_by : (profile width : ℕ) → Option Heading
heading_by profile width = option_map (λ line.
    line.heading) (find (names profile width) first_lines)

-- `l4 1 64`, `l4 1 32`, `l4 2 64` and `l4 2 32`.
unfoldable pub format_line : List (List ℕ) → Judged Heading
format_line words = do
  operands ← after (codes "l4") words
  numbers ← needs (two operands) BadLine
  profile ← needs (number_of numbers.0) BadNumber
  width ← needs (number_of numbers.1) BadNumber
  needs (heading_by profile width) BadNumber

-- `cpus N`.
unfoldable pub processors_line : List (List ℕ) → Judged ℕ
processors_line words = do
  operands ← after (codes "cpus") words
  number ← needs (one operands) BadLine
  number_from 1 most_processors number

-- A number below the number of processors.
unfoldable pub processor_of : (cpus : ℕ) → List ℕ → Judged ℕ
processor_of cpus word = do
  cpu ← needs (number_of word) BadNumber
  must (nat_lt cpu cpus) BadCpu
  Ok cpu

-- `thread ID cpu P space S`, behind its first word.
unfoldable pub declaration_of : Format → (cpus : ℕ) → List (List ℕ) → Judged Declaration
declaration_of format cpus operands = do
  words ← needs (five operands) BadLine
  must (bytes_eq words.1 (codes "cpu") && bytes_eq words.3 (codes "space")) BadLine
  id ← needs (thread_in format words.0) BadId
  cpu ← processor_of cpus words.2
  space ← number_from 0 (2 ^ 32 - 1) words.4
  Ok (record { id = id; cpu = cpu; space = space; script = [] })

-- What a register becomes, by the last word of a line: a word, what a register has, or what an
-- operation makes of it and a word.

abbrev pub word_value : Format → List ℕ → Judged Value
word_value format operand = word_from format operand >>= λ word. Ok (Word word)

abbrev pub register_value : List ℕ → Judged Value
register_value operand = number_from 0 last_register operand >>= λ b. Ok (Register b)

abbrev pub computed_value : Format → Operation → List ℕ → Judged Value
computed_value format operation operand =
    word_from format operand >>= λ word. Ok (Computed operation format word)

-- How a line says what a register becomes, by its first word.
unfoldable pub value_of : Format → (name : List ℕ) → Option (List ℕ → Judged Value)
value_of format name =
    if bytes_eq name (codes "set") then Some (word_value format)
    else (if bytes_eq name (codes "copy") then Some register_value
    else option_map (computed_value format) (operation_named name))

-- `set A W`, `copy A B`, or the word of an operation and `A W`, behind its first word.
unfoldable pub assign_of : (List ℕ → Judged Value) → List (List ℕ) → Judged Instr
assign_of said operands = do
  numbers ← needs (two operands) BadLine
  register ← number_from 1 last_register numbers.0
  value ← said numbers.1
  Ok (Run (Assign register value))

-- `tag W`, behind its first word: bits 6 to 11 are the number of typed words.
unfoldable pub tag_of : Format → List (List ℕ) → Judged Instr
tag_of format operands = do
  number ← needs (one operands) BadLine
  word ← word_from format number
  must (word / 2 ^ 6 % 64 == 0) TypedItems
  Ok (Tag word)

-- `vs ID`, behind its first word.
unfoldable pub vs_of : Format → List (List ℕ) → Judged Instr
vs_of format operands = do
  word ← needs (one operands) BadLine
  id ← needs (id_of format word) BadId
  Ok (Vs (Fixed id))

-- Where an ipc sends to: an id, or `last`.
unfoldable pub destination_of : Format → List ℕ → Judged IdFrom
destination_of format word = if bytes_eq word (codes "last") then Ok Last
    else (needs (id_of format word) BadId >>= λ id. Ok (Fixed id))

-- `ipc TO FROM STO RTO`, behind its first word.
unfoldable pub ipc_of : Format → List (List ℕ) → Judged Instr
ipc_of format operands = do
  words ← needs (four operands) BadLine
  to ← destination_of format words.0
  from ← needs (id_of format words.1) BadId
  send ← time_from words.2
  receive ← time_from words.3
  Ok (Ipc to (Fixed from) send receive)

-- The bits of the control word, S and R in this order (manual: ExchangeRegisters).
unfoldable pub bits_of : List ℕ → Option OrderKind
bits_of word =
    if bytes_eq word (codes "S") then Some CancelSend
    else (if bytes_eq word (codes "R") then Some CancelReceive
    else (if bytes_eq word (codes "SR") then Some CancelBoth
    else None))

-- `exregs ID S`, `exregs ID R` and `exregs ID SR`, behind the first word: the last one is a
-- keyword.
unfoldable pub exregs_of : Format → List (List ℕ) → Judged Instr
exregs_of format operands = do
  words ← needs (two operands) BadLine
  what ← needs (bits_of words.1) BadLine
  target ← needs (id_of format words.0) BadId
  Ok (Ask (Fixed target) what)

-- `delete ID`, behind its first word.
unfoldable pub delete_of : Format → List (List ℕ) → Judged Instr
delete_of format operands = do
  word ← needs (one operands) BadLine
  target ← needs (id_of format word) BadId
  Ok (Ask (Fixed target) Delete)

-- `jump L` and `onerr L`, behind the first word: whether there is such a place shows at the end of
-- the text.
unfoldable pub target_of : List (List ℕ) → Judged ℕ
target_of operands = do
  number ← needs (one operands) BadLine
  needs (number_of number) BadNumber

abbrev pub jump_of : List (List ℕ) → Judged Instr
jump_of operands = target_of operands >>= λ place. Ok (Jump place)

abbrev pub on_error_of : List (List ℕ) → Judged Instr
on_error_of operands = target_of operands >>= λ place. Ok (OnErr place)

-- `end`, behind its first word: nothing.
abbrev pub end_of : List (List ℕ) → Judged Instr
end_of [] = Ok End
end_of _ = Err BadLine

-- An instruction that assigns no value, by its first word.
unfoldable pub other_of : Format → (name : List ℕ) → (operands : List (List ℕ)) → Judged Instr
other_of format name operands =
    if bytes_eq name (codes "tag") then tag_of format operands
    else (if bytes_eq name (codes "vs") then vs_of format operands
    else (if bytes_eq name (codes "ipc") then ipc_of format operands
    else (if bytes_eq name (codes "exregs") then exregs_of format operands
    else (if bytes_eq name (codes "delete") then delete_of format operands
    else (if bytes_eq name (codes "jump") then jump_of operands
    else (if bytes_eq name (codes "onerr") then on_error_of operands
    else (if bytes_eq name (codes "end") then end_of operands
    else Err BadLine)))))))

abbrev pub assigned_or : Option (List ℕ → Judged Value) → (operands : List (List ℕ)) →
    Judged Instr → Judged Instr
assigned_or (Some said) operands other = assign_of said operands
assigned_or None operands other = other

-- An instruction by its first word.
unfoldable pub instruction_of : Format → (name : List ℕ) → (operands : List (List ℕ)) → Judged Instr
instruction_of format name operands =
    assigned_or (value_of format name) operands (other_of format name operands)

-- Adds a thread, unless there are too many or its number is taken.
unfoldable pub declare : Declaration → Machine → Judged Machine
declare thread m = do
  must (nat_lt (length m.threads) most_threads) TooManyThreads
  must (not (is_taken thread.id.number m)) DoubleId
  Ok (with_thread thread m)

unfoldable pub extend : Instr → Machine → Judged Machine
extend instr m = do
  must (nat_lt (length (last_thread m).script) most_instructions) TooManyInstructions
  Ok (extended instr m)
