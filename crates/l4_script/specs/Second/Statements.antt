-- What the lines of scripts of version 2 say, beside those of version 1.
use Rattle.std.specs.Prelude.{ℕ, ◌-◌, ◌^◌, ◌==◌, Bool, false, ◌&&◌, nat_le, if◌then◌else◌, Option, Some, None, is_some, Ok, Err, List, [], ◌∷◌, codes}
use Rattle.std.specs.Option.{option_map}
use Rattle.std.specs.Str.{bytes_eq}
use Rattle.l4_model.specs.Words.{Format, GlobalId, last_register, label_limit_in}
use Rattle.l4_model.specs.Machine.{Assign, FromWord, Instr, Run, Vs, Ipc, Ask, Delete, Jump, OnErr, OnLabel, OnWord, OnFrom, Declaration}
use Rattle.l4_words.specs.Words.{one, two, three, four}
use Rattle.l4_script.specs.declared.text.fault.TextFaultKind.TheVariants.{BadLine, BadNumber, BadId}
use Rattle.l4_script.specs.Judged.{Judged, ◌>>=◌, ◌>>◌, must, needs}
use Rattle.l4_script.specs.Numbers.{number_of, number_from, word_from}
use Rattle.l4_script.specs.Lines.{after}
use Rattle.l4_script.specs.Statements.{Heading, heading_by, processor_of, value_of, assigned_or, tag_of, bits_of, end_of}
use Rattle.l4_script.specs.Second.Names.{Named, id_named, thread_named}
use Rattle.l4_script.specs.Second.Operands.{Place, id_or_register_of, id_or_last_of, place_of, second_time_from}

-- `l4 P B 2`: the words behind `l4`, where the last one is a number that is 2.
abbrev pub is_second : (number : Option ℕ) → Bool
is_second None = false
is_second (Some number) = number == 2

abbrev pub is_second_heading : (words : List (List ℕ)) → Bool
is_second_heading (l4 ∷ profile ∷ width ∷ version ∷ []) =
    bytes_eq l4 (codes "l4") && is_second (number_of version)
is_second_heading words = false

unfoldable pub second_format_line : (words : List (List ℕ)) → Judged Heading
second_format_line words = do
  operands ← after (codes "l4") words
  numbers ← needs (three operands) BadLine
  profile ← needs (number_of numbers.0) BadNumber
  width ← needs (number_of numbers.1) BadNumber
  needs (heading_by profile width) BadNumber

-- The home of threads: `cpu P space S`, and whose script they have: `as ID`, or nothing.
pub record HomeWords : Type 0 where
  pub cpu : List ℕ
  pub space : List ℕ
  pub source : Option (List ℕ)

abbrev pub home_words : (cpu space : List ℕ) → (source : Option (List ℕ)) → HomeWords
home_words cpu space source = record { cpu = cpu; space = space; source = source }

abbrev pub source_words_of : (words : List (List ℕ)) → Option (Option (List ℕ))
source_words_of [] = Some None
source_words_of (keyword ∷ words) =
    if bytes_eq keyword (codes "as") then option_map (λ source. Some source) (one words) else None

abbrev pub home_words_of : (words : List (List ℕ)) → Option HomeWords
home_words_of (first ∷ cpu ∷ second ∷ space ∷ words) =
    if bytes_eq first (codes "cpu") && bytes_eq second (codes "space")
    then option_map (home_words cpu space) (source_words_of words) else None
home_words_of words = None

-- The words of a thread line: `ID` or `ID to ID`, and behind it their home.
pub record ThreadWords : Type 0 where
  pub id : List ℕ
  pub last : Option (List ℕ)
  pub home : HomeWords

abbrev pub one_thread : (id : List ℕ) → HomeWords → ThreadWords
one_thread id home = record { id = id; last = None; home = home }

-- Many threads have the script of another.
abbrev pub many_threads : (id last : List ℕ) → Option HomeWords → Option ThreadWords
many_threads id last None = None
many_threads id last (Some home) = if is_some home.source
    then Some (record { id = id; last = Some last; home = home }) else None

abbrev pub many_words_of : (id : List ℕ) → (words : List (List ℕ)) → Option ThreadWords
many_words_of id [] = None
many_words_of id (last ∷ words) = many_threads id last (home_words_of words)

abbrev pub thread_words_of : (operands : List (List ℕ)) → Option ThreadWords
thread_words_of (id ∷ keyword ∷ words) =
    if bytes_eq keyword (codes "to") then many_words_of id words
    else option_map (one_thread id) (home_words_of (keyword ∷ words))
thread_words_of operands = None

-- What a thread line declares: the first thread, the greatest number, which is that of the first one
-- where there are no others, and whose script they have, where that is not the thread's own.
pub record Heir : Type 0 where
  pub declaration : Declaration
  pub last : ℕ
  pub source : Option (List ℕ)

-- The last thread has the version of the first one, and no lower number.
abbrev pub last_number : Format → List Named → (first : GlobalId) → Option (List ℕ) → Judged ℕ
last_number format names first None = Ok first.number
last_number format names first (Some word) = do
  last ← thread_named format names word
  must (last.version == first.version && nat_le first.number last.number) BadId
  Ok last.number

unfoldable pub second_declaration_of : Format → List Named → (cpus : ℕ) →
    (operands : List (List ℕ)) → Judged Heir
second_declaration_of format names cpus operands = do
  words ← needs (thread_words_of operands) BadLine
  id ← thread_named format names words.id
  last ← last_number format names id words.last
  cpu ← processor_of cpus words.home.cpu
  space ← number_from 0 (2 ^ 32 - 1) words.home.space
  Ok (record {
    declaration = record { id = id; cpu = cpu; space = space; script = [] };
    last = last;
    source = words.home.source;
  })

-- An instruction, and the instruction of its script that it names, if it names one: then its own
-- place is 0 as yet.
pub record Unplaced : Type 0 where
  pub instr : Instr
  pub target : Option Place

-- What it names is judged last.
abbrev pub targeting : Instr → (word : List ℕ) → Judged Unplaced
targeting instr word = do
  place ← place_of word
  Ok (record { instr = instr; target = Some place })

abbrev pub with_place : (place : ℕ) → Instr → Instr
with_place place (Jump at) = Jump place
with_place place (OnErr at) = OnErr place
with_place place (OnLabel label at) = OnLabel label place
with_place place (OnWord a word at) = OnWord a word place
with_place place (OnFrom id at) = OnFrom id place
with_place place instr = instr

-- `from A`, behind its first word.
unfoldable pub from_of : Format → (operands : List (List ℕ)) → Judged Instr
from_of format operands = do
  number ← needs (one operands) BadLine
  register ← number_from 1 last_register number
  Ok (Run (Assign register (FromWord format)))

-- `vs ID`: an id, a name, a register or `last`.
unfoldable pub second_vs_of : Format → List Named → (operands : List (List ℕ)) → Judged Instr
second_vs_of format names operands = do
  word ← needs (one operands) BadLine
  id ← id_or_last_of format names word
  Ok (Vs id)

-- `ipc TO FROM STO RTO`.
unfoldable pub second_ipc_of : Format → List Named → (operands : List (List ℕ)) → Judged Instr
second_ipc_of format names operands = do
  words ← needs (four operands) BadLine
  to ← id_or_last_of format names words.0
  from ← id_or_last_of format names words.1
  send ← second_time_from words.2
  receive ← second_time_from words.3
  Ok (Ipc to from send receive)

-- `exregs ID S`, `exregs ID R`, `exregs ID SR`.
unfoldable pub second_exregs_of : Format → List Named → (operands : List (List ℕ)) → Judged Instr
second_exregs_of format names operands = do
  words ← needs (two operands) BadLine
  what ← needs (bits_of words.1) BadLine
  target ← id_or_last_of format names words.0
  Ok (Ask target what)

-- `delete ID`: no `last`.
unfoldable pub second_delete_of : Format → List Named → (operands : List (List ℕ)) → Judged Instr
second_delete_of format names operands = do
  word ← needs (one operands) BadLine
  target ← id_or_register_of format names word
  Ok (Ask target Delete)

-- `jump L` and `onerr L`.
abbrev pub goes_to : (instr : Instr) → (operands : List (List ℕ)) → Judged Unplaced
goes_to instr operands = do
  word ← needs (one operands) BadLine
  targeting instr word

-- `onlabel W L`: W is a label of the format.
unfoldable pub on_label_of : Format → (operands : List (List ℕ)) → Judged Unplaced
on_label_of format operands = do
  words ← needs (two operands) BadLine
  label ← number_from 0 (label_limit_in format - 1) words.0
  targeting (OnLabel label 0) words.1

-- `onword A W L`.
unfoldable pub on_word_of : Format → (operands : List (List ℕ)) → Judged Unplaced
on_word_of format operands = do
  words ← needs (three operands) BadLine
  a ← number_from 0 last_register words.0
  word ← word_from format words.1
  targeting (OnWord a word 0) words.2

-- `onfrom ID L`: an id or a name.
unfoldable pub on_from_of : Format → List Named → (operands : List (List ℕ)) → Judged Unplaced
on_from_of format names operands = do
  words ← needs (two operands) BadLine
  id ← id_named format names words.0
  targeting (OnFrom id 0) words.1

-- An instruction that goes on with the next, and assigns no value, by its first word.
unfoldable pub second_other_of : Format → List Named → (name : List ℕ) →
    (operands : List (List ℕ)) → Judged Instr
second_other_of format names name operands =
    if bytes_eq name (codes "from") then from_of format operands
    else (if bytes_eq name (codes "tag") then tag_of format operands
    else (if bytes_eq name (codes "vs") then second_vs_of format names operands
    else (if bytes_eq name (codes "ipc") then second_ipc_of format names operands
    else (if bytes_eq name (codes "exregs") then second_exregs_of format names operands
    else (if bytes_eq name (codes "delete") then second_delete_of format names operands
    else (if bytes_eq name (codes "end") then end_of operands
    else Err BadLine))))))

-- One that goes on with the next.
unfoldable pub plain_of : Format → List Named → (name : List ℕ) → (operands : List (List ℕ)) →
    Judged Instr
plain_of format names name operands =
    assigned_or (value_of format name) operands (second_other_of format names name operands)

abbrev pub without_target : Judged Instr → Judged Unplaced
without_target said = said >>= λ instr. Ok (record { instr = instr; target = None })

-- An instruction by its first word.
unfoldable pub second_instruction_of : Format → List Named → (name : List ℕ) →
    (operands : List (List ℕ)) → Judged Unplaced
second_instruction_of format names name operands =
    if bytes_eq name (codes "jump") then goes_to (Jump 0) operands
    else (if bytes_eq name (codes "onerr") then goes_to (OnErr 0) operands
    else (if bytes_eq name (codes "onlabel") then on_label_of format operands
    else (if bytes_eq name (codes "onword") then on_word_of format operands
    else (if bytes_eq name (codes "onfrom") then on_from_of format names operands
    else without_target (plain_of format names name operands)))))
