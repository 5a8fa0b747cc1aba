-- The machine that a text with scripts of version 2 declares, or its first fault.
use Rattle.std.specs.Prelude.{ℕ, suc, ◌+◌, ◌-◌, Bool, false, not, ◌&&◌, ◌==◌, nat_lt, nat_le, if◌then◌else◌, Option, Some, None, is_none, Result, Ok, Err, List, [], ◌∷◌, ◌++◌, length, find, slice_set, codes}
use Rattle.std.specs.Option.{option_map}
use Rattle.std.specs.List.{list_any, range_with_len}
use Rattle.std.specs.Str.{bytes_eq}
use Rattle.l4_model.specs.Words.{Format, global_id}
use Rattle.l4_model.specs.Machine.{Instr, Declaration, Machine, instruction_at, place_of, most_threads}
use Rattle.l4_core_model.specs.Local.{declared}
use Rattle.l4_words.specs.Words.{two}
use Rattle.l4_script.specs.declared.text.fault.TextFault.{TextFault}
use Rattle.l4_script.specs.declared.text.fault.TextFaultKind.{TextFaultKind}
use Rattle.l4_script.specs.declared.text.fault.TextFaultKind.TheVariants.{BadLine, BadId, BadName, DoubleId, TooManyThreads, BadTarget}
use Rattle.l4_script.specs.Faults.{fault_at}
use Rattle.l4_script.specs.Judged.{Judged, ◌>>=◌, ◌>>◌, must, needs}
use Rattle.l4_script.specs.Machines.{is_taken, last_thread, with_last_script, with_thread, machine_with}
use Rattle.l4_script.specs.Statements.{Heading, processors_line, extend}
use Rattle.l4_script.specs.Texts.{named_by}
use Rattle.l4_script.specs.Second.Names.{is_name, most_names, Named, is_declared_in, id_named, thread_named}
use Rattle.l4_script.specs.Second.Lines.{Said, second_line_of}
use Rattle.l4_script.specs.Second.Operands.{Place, Numbered, Labelled}
use Rattle.l4_script.specs.Second.Statements.{is_second_heading, second_format_line, Heir, second_declaration_of, Unplaced, with_place, second_instruction_of}

-- The name of an instruction of the last script, and its place.
pub record Label : Type 0 where
  pub name : List ℕ
  pub at : ℕ

-- An instruction of the last script that names one: the number of the line, its own place, and what
-- it names.
pub record Target : Type 0 where
  pub line : ℕ
  pub at : ℕ
  pub place : Place

-- The format of the text, the names that it declares, the machine of the lines so far, and of the
-- last script the names of its instructions, and what these name. `heir_of` is the place of the
-- thread whose script the last one has, where it has no line of its own. `missed` is the first fault
-- of the scripts before: an instruction names one that its script does not have.
pub record Reading : Type 0 where
  pub format : Format
  pub names : List Named
  pub machine : Machine
  pub heir_of : Option ℕ
  pub labels : List Label
  pub targets : List Target
  pub missed : Option TextFault

pub data Stage : Type 0 where
  Start : Stage
  Processors : Heading → Stage
  Threads : Reading → Stage

abbrev pub nothing_read : Heading → (cpus : ℕ) → Reading
nothing_read heading cpus = record {
  format = heading.format;
  names = [];
  machine = machine_with heading.retargeting cpus [];
  heir_of = None;
  labels = [];
  targets = [];
  missed = None;
}

abbrev pub has_thread : Reading → Bool
has_thread r = nat_lt 0 (length r.machine.threads)

-- The last thread has a script of its own.
abbrev pub has_script : Reading → Bool
has_script r = has_thread r && is_none r.heir_of

-- What instructions name

abbrev pub label_of : List Label → (name : List ℕ) → Option ℕ
label_of labels name = option_map (λ l. l.at) (find (λ l. bytes_eq l.name name) labels)

-- The place that an instruction names, if its script has such a name. A number may be too great:
-- then it is missed.
abbrev pub found_place : List Label → Place → Option ℕ
found_place labels (Numbered place) = Some place
found_place labels (Labelled name) = label_of labels name

-- The instruction at one place goes on at another.
abbrev pub placed_at : (at : ℕ) → (place : Option ℕ) → List Instr → List Instr
placed_at at None script = script
placed_at at (Some place) script =
    slice_set script at (with_place place (instruction_at script at))

-- Each instruction that names one goes on there.
abbrev pub placed : List Label → List Target → List Instr → List Instr
placed labels [] script = script
placed labels (t ∷ ts) script =
    placed labels ts (placed_at t.at (found_place labels t.place) script)

-- What a script of so many instructions does not have.
abbrev pub missed_in : List Label → (size : ℕ) → Place → Option TextFaultKind
missed_in labels size (Numbered place) = if nat_lt size place then Some BadTarget else None
missed_in labels size (Labelled name) =
    if is_none (label_of labels name) then Some BadName else None

abbrev pub fault_or : (line : ℕ) → Option TextFaultKind → (later : Option TextFault) →
    Option TextFault
fault_or line None later = later
fault_or line (Some kind) later = Some (fault_at line kind)

abbrev pub first_missed : List Label → (size : ℕ) → List Target → Option TextFault
first_missed labels size [] = None
first_missed labels size (t ∷ ts) =
    fault_or t.line (missed_in labels size t.place) (first_missed labels size ts)

abbrev pub first_of : (earlier later : Option TextFault) → Option TextFault
first_of None later = later
first_of (Some fault) later = Some fault

-- The script of the last thread ends.
abbrev pub with_script_ended : Reading → Reading
with_script_ended r = record r {
  machine = with_last_script (placed r.labels r.targets (last_thread r.machine).script) r.machine;
  labels = [];
  targets = [];
  missed = first_of r.missed
      (first_missed r.labels (length (last_thread r.machine).script) r.targets);
}

abbrev pub settled : Reading → Reading
settled r = if has_thread r then with_script_ended r else r

-- Lines

-- A name that may be declared: no keyword, and no id has it.
abbrev pub may_name : Reading → (name : List ℕ) → Bool
may_name r name = is_name name && not (is_declared_in r.names name)

-- `name NAME ID`, before the first thread.
abbrev pub name_line : Reading → (operands : List (List ℕ)) → Judged Reading
name_line r operands = do
  must (not (has_thread r)) BadLine
  words ← needs (two operands) BadLine
  must (may_name r words.0 && nat_lt (length r.names) most_names) BadName
  id ← id_named r.format r.names words.1
  Ok (record r { names = r.names ++ record { name = words.0; id = id } ∷ [] })

-- The place of the thread whose script a thread has: it is declared before.
abbrev pub source_of : Reading → Option (List ℕ) → Judged (Option ℕ)
source_of r None = Ok None
source_of r (Some word) = do
  thread ← thread_named r.format r.names word
  place ← needs (place_of r.machine thread) BadId
  Ok (Some place)

abbrev pub script_of : Machine → (source : Option ℕ) → List Instr
script_of m None = []
script_of m (Some place) = (declared m place).script

-- The numbers of the threads that a line declares.
abbrev pub numbers_of : Heir → List ℕ
numbers_of heir =
    range_with_len heir.declaration.id.number (suc heir.last - heir.declaration.id.number)

-- There is room for them, and none of their numbers is taken.
abbrev pub may_declare : Heir → Machine → Judged (Unit {0})
may_declare heir m = do
  must (nat_le (length m.threads + length (numbers_of heir)) most_threads) TooManyThreads
  must (not (list_any (λ number. is_taken number m) (numbers_of heir))) DoubleId

-- A thread of each of these numbers.
abbrev pub with_threads : (numbers : List ℕ) → Declaration → Machine → Machine
with_threads [] d m = m
with_threads (number ∷ numbers) d m = with_threads numbers d
    (with_thread (record d { id = global_id number d.id.version }) m)

-- A thread line. The script before it ends.
abbrev pub second_declared : Reading → (operands : List (List ℕ)) → Judged Reading
second_declared r operands = do
  heir ← second_declaration_of r.format r.names r.machine.cpus operands
  source ← source_of r heir.source
  may_declare heir r.machine
  Ok (record (settled r) {
    machine = with_threads (numbers_of heir)
        (record heir.declaration { script = script_of (settled r).machine source })
        (settled r).machine;
    heir_of = source;
  })

-- A script of its own follows, in which no instruction has this name.
abbrev pub may_label : Reading → (name : List ℕ) → Judged (Unit {0})
may_label r name = do
  must (has_script r) BadLine
  must (may_name r name && is_none (label_of r.labels name) &&
      nat_lt (length r.labels) most_names) BadName

-- The name of the instruction that follows.

abbrev pub may_be_labelled : Reading → Option (List ℕ) → Judged (Unit {0})
may_be_labelled r None = Ok tt
may_be_labelled r (Some name) = may_label r name

abbrev pub with_label : Option (List ℕ) → Reading → Reading
with_label None r = r
with_label (Some name) r = record r {
  labels = r.labels ++ record { name = name; at = length (last_thread r.machine).script } ∷ [];
}

abbrev pub labelled : Option (List ℕ) → Reading → Judged Reading
labelled None r = Ok r
labelled (Some name) r = do
  may_label r name
  Ok (with_label (Some name) r)

abbrev pub target_at : (line at : ℕ) → Option Place → List Target
target_at line at None = []
target_at line at (Some place) = record { line = line; at = at; place = place } ∷ []

-- What the last thread does next.
abbrev pub said_line : (line : ℕ) → Unplaced → Reading → Judged Reading
said_line line said r = do
  machine ← extend said.instr r.machine
  Ok (record r {
    machine = machine;
    targets = r.targets ++ target_at line (length (last_thread r.machine).script) said.target;
  })

-- An instruction of the last thread.
abbrev pub instruction_line : (line : ℕ) → Reading → (name : List ℕ) → (operands : List (List ℕ)) →
    Judged Reading
instruction_line line r name operands = do
  must (has_script r) BadLine
  said ← second_instruction_of r.format r.names name operands
  said_line line said r

-- An instruction of the last thread, with its name if it has one.
abbrev pub labelled_instruction : (line : ℕ) → (label : Option (List ℕ)) → (name : List ℕ) →
    (operands : List (List ℕ)) → Reading → Judged Reading
labelled_instruction line label name operands r =
    labelled label r >>= λ named. instruction_line line named name operands

-- A line behind `cpus`. Only instructions have names.

abbrev pub unlabelled : Said → Judged Reading → Judged Reading
unlabelled said reading = must (is_none said.label) BadLine >> reading

abbrev pub words_line : (line : ℕ) → Reading → Said → (words : List (List ℕ)) → Judged Reading
words_line line r said [] = labelled said.label r
words_line line r said (name ∷ operands) =
    if bytes_eq name (codes "thread") then unlabelled said (second_declared r operands)
    else (if bytes_eq name (codes "name") then unlabelled said (name_line r operands)
    else labelled_instruction line said.label name operands r)

unfoldable pub second_thread_line : (line : ℕ) → Reading → Said → Judged Reading
second_thread_line line r said = words_line line r said said.words

abbrev pub unlabelled_words : Said → Judged (List (List ℕ))
unlabelled_words said = do
  must (is_none said.label) BadLine
  Ok said.words

unfoldable pub after_words : (line : ℕ) → Stage → Said → Judged Stage
after_words line Start said = do
  words ← unlabelled_words said
  heading ← second_format_line words
  Ok (Processors heading)
after_words line (Processors heading) said = do
  words ← unlabelled_words said
  cpus ← processors_line words
  Ok (Threads (nothing_read heading cpus))
after_words line (Threads r) said =
    second_thread_line line r said >>= λ after. Ok (Threads after)

abbrev pub after_said : (line : ℕ) → Stage → Option Said → Judged Stage
after_said line stage None = Ok stage
after_said line stage (Some said) = after_words line stage said

unfoldable pub after_line : (line : ℕ) → Stage → List ℕ → Judged Stage
after_line line stage text = second_line_of text >>= after_said line stage

-- The machine, unless an instruction names one that its script does not have.
abbrev pub unless_faulty : Machine → Option TextFault → Result Machine TextFault
unless_faulty m None = Ok m
unless_faulty m (Some fault) = Err fault

-- The text ends. `line` is the number of its lines, plus 1.
abbrev pub ended : Stage → (line : ℕ) → Result Machine TextFault
ended (Threads r) line = unless_faulty (settled r).machine (settled r).missed
ended stage line = Err (fault_at line BadLine)

abbrev pub judged_at : {X : Type 0} → (line : ℕ) → Judged Stage → (Stage → Result X TextFault) →
    Result X TextFault
judged_at line (Ok stage) rest = rest stage
judged_at line (Err kind) rest = Err (fault_at line kind)

abbrev pub read : (parts : List (List ℕ)) → Stage → (line : ℕ) → Result Machine TextFault
read [] stage line = ended stage line
read (part ∷ []) stage line = if length part == 0 then ended stage line
    else Err (fault_at line BadLine)
read (part ∷ next ∷ parts) stage line = judged_at line (after_line line stage part) (λ after.
    read (next ∷ parts) after (line + 1))

-- The first line that says something is `l4 P B 2`.
abbrev pub says_second : Judged (Option Said) → (later : Bool) → Bool
says_second (Ok None) later = later
says_second (Ok (Some said)) later = is_none said.label && is_second_heading said.words
says_second (Err kind) later = false

abbrev pub begins_second : (parts : List (List ℕ)) → Bool
begins_second [] = false
begins_second (part ∷ parts) = says_second (second_line_of part) (begins_second parts)

-- The format that the first line names which says something.
abbrev pub second_format_from : Judged (Option Said) → (behind : Option Format) → Option Format
second_format_from (Ok None) behind = behind
second_format_from (Ok (Some said)) behind = named_by (second_format_line said.words)
second_format_from (Err kind) behind = None

abbrev pub second_format_of : (parts : List (List ℕ)) → Option Format
second_format_of [] = None
second_format_of (part ∷ parts) = second_format_from (second_line_of part) (second_format_of parts)
