-- A machine as one text of it in a format: all numbers in decimal, ids by their names or numbers,
-- periods by their least time, and no line or space more than are needed.
use Rattle.std.specs.Prelude.{ℕ, zero, suc, ◌≡◌, ◌≤◌, ◌+◌, ◌*◌, ◌/◌, ◌%◌, ◌^◌, Bool, true, false, not, ◌&&◌, ◌==◌, nat_lt, nat_le, if◌then◌else◌, is_some, Ok, Option, Some, None, List, [], ◌∷◌, ◌++◌, length, map, flat_map, find, codes, decimal}
use Rattle.std.specs.Fmt.{digit_glyph}
use Rattle.std.specs.List.{list_all, list_any, range_with_len}
use Rattle.l4_model.specs.Words.{Format, W64, W32, is_word_in, is_global_in, has_word_in, last_register, Id, NilThread, AnyThread, AnyLocalThread, LocalThread, GlobalThread, Period}
use Rattle.l4_model.specs.Machine.{Value, Word, Register, Computed, FromWord, Assign, Instr, Run, Tag, Vs, Ipc, IdFrom, Fixed, Last, InRegister, Ask, CancelSend, CancelReceive, CancelBoth, Delete, Jump, OnErr, OnLabel, OnWord, OnFrom, End, Declaration, Machine, most_processors, most_threads, most_instructions}
use Rattle.l4_model.specs.Formats.{gives_words}
use Rattle.l4_core_model.specs.Runs.{IsMachine}
use Rattle.l4_words.specs.Lines.{line_of_words}
use Rattle.l4_words.specs.Threads.{thread_word}
use Rattle.l4_script.specs.Ids.{id_digits}
use Rattle.l4_script.specs.Machines.{has_number}
use Rattle.l4_script.specs.Operations.{operation_word}
use Rattle.l4_script.specs.Texts.{first_machine_of_text, format_of_text}

-- Words

-- The lowest `count` hexadecimal digits of a number.
unfoldable pub low_digits : (count n : ℕ) → List ℕ
low_digits zero n = []
low_digits (suc count) n = low_digits count (n / 16) ++ digit_glyph false (n % 16) ∷ []

-- A local id has no other spelling than its word.
abbrev pub id_word : Format → Id → List ℕ
id_word f NilThread = codes "nil"
id_word f AnyThread = codes "any"
id_word f AnyLocalThread = codes "anylocal"
id_word f (LocalThread word) = codes "#" ++ low_digits (id_digits f) word
id_word f (GlobalThread t) = thread_word t

-- Where an id is from. A register stands in texts of version 2 alone.
abbrev pub id_from_word : Format → IdFrom → List ℕ
id_from_word f (Fixed id) = id_word f id
id_from_word f Last = codes "last"
id_from_word f (InRegister format a) = codes "mr" ++ decimal a

-- These ticks are a mantissa of 10 bits times two to the power of the exponent.
abbrev pub is_exponent : (ticks exponent : ℕ) → Bool
is_exponent ticks exponent = nat_lt (ticks / 2 ^ exponent) (2 ^ 10) &&
    ticks / 2 ^ exponent * 2 ^ exponent == ticks

-- The least such exponent of 5 bits.
unfoldable pub exponent_of : (ticks : ℕ) → Option ℕ
exponent_of ticks = find (is_exponent ticks) (range_with_len 0 32)

-- The least time of these ticks: an exponent in bits 10 to 14, the mantissa in bits 0 to 9.
abbrev pub ticks_word : (ticks : ℕ) → (exponent : Option ℕ) → List ℕ
ticks_word ticks None = []
ticks_word ticks (Some exponent) = decimal (exponent * 2 ^ 10 + ticks / 2 ^ exponent)

abbrev pub time_word : Period → List ℕ
time_word None = codes "never"
time_word (Some ticks) = if ticks == 0 then codes "zero" else ticks_word ticks (exponent_of ticks)

-- Lines, as the lists of their words

-- Which line assigns a value, and the number that stands there last. The word of `from` is assigned
-- in texts of version 2 alone, and has no such number.

abbrev pub keyword_of : Value → List ℕ
keyword_of (Word word) = codes "set"
keyword_of (Register b) = codes "copy"
keyword_of (Computed operation format word) = operation_word operation
keyword_of (FromWord format) = codes "from"

abbrev pub operand_of : Value → ℕ
operand_of (Word word) = word
operand_of (Register b) = b
operand_of (Computed operation format word) = word
operand_of (FromWord format) = 0

abbrev pub words_of_instruction : Format → Instr → List (List ℕ)
words_of_instruction f (Run (Assign a value)) =
    keyword_of value ∷ decimal a ∷ decimal (operand_of value) ∷ []
words_of_instruction f (Tag word) = codes "tag" ∷ decimal word ∷ []
words_of_instruction f (Vs from) = codes "vs" ∷ id_from_word f from ∷ []
words_of_instruction f (Ipc to from send receive) =
    codes "ipc" ∷ id_from_word f to ∷ id_from_word f from ∷ time_word send ∷ time_word receive ∷ []
words_of_instruction f (Ask target CancelSend) =
    codes "exregs" ∷ id_from_word f target ∷ codes "S" ∷ []
words_of_instruction f (Ask target CancelReceive) =
    codes "exregs" ∷ id_from_word f target ∷ codes "R" ∷ []
words_of_instruction f (Ask target CancelBoth) =
    codes "exregs" ∷ id_from_word f target ∷ codes "SR" ∷ []
words_of_instruction f (Ask target Delete) = codes "delete" ∷ id_from_word f target ∷ []
words_of_instruction f (Jump place) = codes "jump" ∷ decimal place ∷ []
words_of_instruction f (OnErr place) = codes "onerr" ∷ decimal place ∷ []
words_of_instruction f (OnLabel label place) =
    codes "onlabel" ∷ decimal label ∷ decimal place ∷ []
words_of_instruction f (OnWord a word place) =
    codes "onword" ∷ decimal a ∷ decimal word ∷ decimal place ∷ []
words_of_instruction f (OnFrom id place) = codes "onfrom" ∷ id_word f id ∷ decimal place ∷ []
words_of_instruction f End = codes "end" ∷ []

abbrev pub words_of_thread : Declaration → List (List ℕ)
words_of_thread d = codes "thread" ∷ thread_word d.id ∷ codes "cpu" ∷ decimal d.cpu ∷
    codes "space" ∷ decimal d.space ∷ []

abbrev pub lines_of_thread : Format → Declaration → List (List (List ℕ))
lines_of_thread f d = words_of_thread d ∷ map (words_of_instruction f) d.script

abbrev pub profile_word : (retargeting : Bool) → List ℕ
profile_word false = codes "1"
profile_word true = codes "2"

abbrev pub width_word : Format → List ℕ
width_word W64 = codes "64"
width_word W32 = codes "32"

abbrev pub words_of_format : Format → (retargeting : Bool) → List (List ℕ)
words_of_format f retargeting = codes "l4" ∷ profile_word retargeting ∷ width_word f ∷ []

abbrev pub lines_of : Format → Machine → List (List (List ℕ))
lines_of f m = words_of_format f m.retargeting ∷ (codes "cpus" ∷ decimal m.cpus ∷ []) ∷
    flat_map (lines_of_thread f) m.threads

abbrev pub canonical_text : Format → Machine → List ℕ
canonical_text f m = flat_map line_of_words (lines_of f m)

-- Which machines a text of a format can declare. A machine that computes has texts in the format in
-- which it does alone.

abbrev pub is_register : ℕ → Bool
is_register n = nat_le 1 n && nat_le n last_register

-- An id that stands there, and a destination, which may be `last` besides. Ids in registers, and
-- branches on labels, words and senders, stand in texts of version 2 alone.

abbrev pub has_id : Format → IdFrom → Bool
has_id f (Fixed id) = has_word_in f id
has_id f from = false

abbrev pub has_destination : Format → IdFrom → Bool
has_destination f Last = true
has_destination f to = has_id f to

-- A period that some time means.
abbrev pub has_time : Period → Bool
has_time None = true
has_time (Some ticks) = is_some (exponent_of ticks)

abbrev pub has_operand : Format → Value → Bool
has_operand f (Register b) = nat_le b last_register
has_operand f (FromWord format) = false
has_operand f value = is_word_in f (operand_of value)

abbrev pub can_be_assigned : Format → Value → Bool
can_be_assigned f value = gives_words f value && has_operand f value

-- An instruction of a script of this size.
abbrev pub can_be_written : Format → (size : ℕ) → Instr → Bool
can_be_written f size (Run (Assign a value)) = is_register a && can_be_assigned f value
can_be_written f size (Tag word) = is_word_in f word && word / 2 ^ 6 % 64 == 0
can_be_written f size (Vs from) = has_id f from
can_be_written f size (Ipc to from send receive) = has_destination f to && has_id f from &&
    has_time send && has_time receive
can_be_written f size (Ask target what) = has_id f target
can_be_written f size (Jump place) = nat_le place size
can_be_written f size (OnErr place) = nat_le place size
can_be_written f size End = true
can_be_written f size instr = false

-- A thread of a machine of this number of processors.
abbrev pub can_be_declared : Format → (cpus : ℕ) → Declaration → Bool
can_be_declared f cpus d =
    is_global_in f d.id && nat_lt d.cpu cpus && nat_lt d.space (2 ^ 32) &&
    nat_le (length d.script) most_instructions
    && list_all (can_be_written f (length d.script)) d.script

-- No thread number stands twice.
abbrev pub are_apart : List Declaration → Bool
are_apart [] = true
are_apart (d ∷ ds) = not (list_any (has_number d.id.number) ds) && are_apart ds

pub record HasText (f : Format) (m : Machine) : Type 0 where
  pub some : 1 ≤ m.cpus
  pub limit : m.cpus ≤ most_processors
  pub few : length m.threads ≤ most_threads
  pub apart : are_apart m.threads ≡ true
  pub each : list_all (can_be_declared f m.cpus) m.threads ≡ true

-- A machine that has a canonical text in a format is what is read of it, unless that text is too
-- long.
abbrev pub IsReadBack : Type 0
IsReadBack = (f : Format) (m : Machine) → HasText f m → length (canonical_text f m) ≤ 0x100000 →
    first_machine_of_text (canonical_text f m) ≡ Ok m

-- Every machine that is read of a text, however it is spelled, has a canonical text in the format
-- that the text names.
abbrev pub EachHasText : Type 0
EachHasText = (text : List ℕ) (m : Machine) → first_machine_of_text text ≡ Ok m →
    IsMachine m × ((f : Format) × (format_of_text text ≡ Some f) × HasText f m)
