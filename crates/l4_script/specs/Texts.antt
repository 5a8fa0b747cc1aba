-- The machine that a text declares, or its first fault.
use Rattle.std.specs.Prelude.{ℕ, ◌≡◌, ◌⊎◌, ◌+◌, Bool, ◌==◌, nat_lt, if◌then◌else◌, Option, Some, None, Result, Ok, Err, List, [], ◌∷◌, ◌++◌, length, find, codes}
use Rattle.std.specs.Str.{bytes_eq}
use Rattle.l4_model.specs.Words.{Format}
use Rattle.l4_model.specs.Machine.{Instr, Jump, OnErr, Declaration, Machine}
use Rattle.l4_core_model.specs.Local.{declared}
use Rattle.l4_script.specs.declared.text.fault.TextFault.{TextFault}
use Rattle.l4_script.specs.declared.text.fault.TextFaultKind.TheVariants.{BadLine, BadTarget, TooLong}
use Rattle.l4_script.specs.Faults.{fault_at, no_memory}
use Rattle.l4_script.specs.Judged.{Judged, ◌>>=◌, ◌>>◌, must}
use Rattle.l4_words.specs.Lines.{parts_of}
use Rattle.l4_script.specs.Lines.{line_of}
use Rattle.l4_script.specs.Machines.{last_place, machine_with}
use Rattle.l4_script.specs.Statements.{Heading, format_line, processors_line, declaration_of, instruction_of, declare, extend}

-- A line that names a place of its script: the number of the line, the place of its thread, and the
-- place that it names.
pub record Target : Type 0 where
  pub line : ℕ
  pub thread : ℕ
  pub place : ℕ

-- The format of the text, the machine of the lines so far, and the places that they name.
pub record Reading : Type 0 where
  pub format : Format
  pub machine : Machine
  pub targets : List Target

-- What comes next in a text: the `l4` line, the `cpus` line, or the lines of threads.
pub data Stage : Type 0 where
  Start : Stage
  Processors : Heading → Stage
  Threads : Reading → Stage

abbrev pub target : (line thread place : ℕ) → List Target
target line thread place = record { line = line; thread = thread; place = place } ∷ []

abbrev pub targets_of : (line thread : ℕ) → Instr → List Target
targets_of line thread (Jump place) = target line thread place
targets_of line thread (OnErr place) = target line thread place
targets_of line thread instr = []

-- No thread was read.
abbrev pub nothing_read : Heading → (cpus : ℕ) → Reading
nothing_read heading cpus = record {
  format = heading.format;
  machine = machine_with heading.retargeting cpus [];
  targets = [];
}

-- One more thread, or one more instruction of the last thread.
abbrev pub declared_in : Reading → Declaration → Judged Reading
declared_in r thread = declare thread r.machine >>= λ machine. Ok (record r { machine = machine })

abbrev pub naming : List Target → Reading → Reading
naming targets r = record r { targets = r.targets ++ targets }

abbrev pub extended_at : (line : ℕ) → Reading → Instr → Judged Reading
extended_at line r instr = extend instr r.machine >>= λ machine.
    Ok (naming (targets_of line (last_place r.machine) instr) (record r { machine = machine }))

-- A thread line, or an instruction of the thread that was declared last.
unfoldable pub thread_line : (line : ℕ) → Reading → List (List ℕ) → Judged Reading
thread_line line r [] = Err BadLine
thread_line line r (name ∷ operands) =
    if bytes_eq name (codes "thread") then (do
      thread ← declaration_of r.format r.machine.cpus operands
      declared_in r thread)
    else (do
      must (nat_lt 0 (length r.machine.threads)) BadLine
      instr ← instruction_of r.format name operands
      extended_at line r instr)

-- What comes next after a line of words.
unfoldable pub after_words : (line : ℕ) → Stage → List (List ℕ) → Judged Stage
after_words line Start words = format_line words >>= λ heading. Ok (Processors heading)
after_words line (Processors heading) words =
    processors_line words >>= λ cpus. Ok (Threads (nothing_read heading cpus))
after_words line (Threads r) words = thread_line line r words >>= λ after. Ok (Threads after)

abbrev pub after_said : (line : ℕ) → Stage → Option (List (List ℕ)) → Judged Stage
after_said line stage None = Ok stage
after_said line stage (Some words) = after_words line stage words

unfoldable pub after_line : (line : ℕ) → Stage → List ℕ → Judged Stage
after_line line stage text = line_of text >>= after_said line stage

-- Whether a `jump` or `onerr` leads behind the end of its script. The place right behind the last
-- instruction is an `end`.
abbrev pub is_missed : Machine → Target → Bool
is_missed m t = nat_lt (length (declared m t.thread).script) t.place

-- The machine, unless some line names a place that its script does not have.
abbrev pub unless_missed : Machine → Option Target → Result Machine TextFault
unless_missed m None = Ok m
unless_missed m (Some t) = Err (fault_at t.line BadTarget)

-- The text ends. `line` is the number of its lines, plus 1.
abbrev pub ended : Stage → (line : ℕ) → Result Machine TextFault
ended (Threads r) line = unless_missed r.machine (find (is_missed r.machine) r.targets)
ended stage line = Err (fault_at line BadLine)

-- A line without a fault leads on, and the first fault is the text's.
abbrev pub judged_at : {X : Type 0} → (line : ℕ) → Judged Stage → (Stage → Result X TextFault) →
    Result X TextFault
judged_at line (Ok stage) rest = rest stage
judged_at line (Err kind) rest = Err (fault_at line kind)

-- The parts of a text from a line on: each is judged, and what has no line end has to be nothing.
abbrev pub read : (parts : List (List ℕ)) → Stage → (line : ℕ) → Result Machine TextFault
read [] stage line = ended stage line
read (part ∷ []) stage line = if length part == 0 then ended stage line
    else Err (fault_at line BadLine)
read (part ∷ next ∷ parts) stage line = judged_at line (after_line line stage part) (λ after.
    read (next ∷ parts) after (line + 1))

-- A text has at most 1,048,576 bytes.
abbrev pub first_machine_of_text : List ℕ → Result Machine TextFault
first_machine_of_text text = if nat_lt 0x100000 (length text) then Err (fault_at 0 TooLong)
    else read (parts_of text) Start 1

-- The format that the first line with words names.
abbrev pub named_by : Judged Heading → Option Format
named_by (Ok heading) = Some heading.format
named_by (Err kind) = None

abbrev pub format_from : Judged (Option (List (List ℕ))) → (behind : Option Format) → Option Format
format_from (Ok None) behind = behind
format_from (Ok (Some words)) behind = named_by (format_line words)
format_from (Err kind) behind = None

abbrev pub format_of_parts : (parts : List (List ℕ)) → Option Format
format_of_parts [] = None
format_of_parts (part ∷ parts) = format_from (line_of part) (format_of_parts parts)

abbrev pub format_of_text : List ℕ → Option Format
format_of_text text = format_of_parts (parts_of text)

-- What was read of a text is what the definition gives, unless memory ran out.
abbrev pub Reads : {X : Type 0} → Result X TextFault → Result X TextFault → Type 0
Reads (Ok x) text = text ≡ Ok x
Reads (Err fault) text = (fault ≡ no_memory) ⊎ (text ≡ Err fault)

-- What was changed in place is what the definition gives, unless memory ran out.
abbrev pub LeadsOn : {Y : Type 0} → Result (Unit {0}) TextFault → (after : Y) →
    Result Y TextFault → Type 0
LeadsOn (Ok x) after text = text ≡ Ok after
LeadsOn (Err fault) after text = (fault ≡ no_memory) ⊎ (text ≡ Err fault)
