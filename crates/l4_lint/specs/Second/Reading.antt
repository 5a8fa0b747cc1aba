-- How far a text with scripts of version 2 has been read.
use Rattle.std.specs.Prelude.{ℕ, ◌-◌, Bool, true, false, not, ◌&&◌, ◌||◌, if◌then◌else◌, Option}
use Rattle.std.specs.Prelude.{Some, None, Ok, List, [], ◌∷◌}
use Rattle.l4_model.specs.Words.{Format}
use Rattle.l4_script.specs.declared.text.fault.TextFaultKind.TheVariants as kinds
use Rattle.l4_script.specs.Judged.{Judged, ◌>>=◌, ◌>>◌, must}
use Rattle.l4_script.specs.Second.Lines.{Said, second_line_of}
use Rattle.l4_script.specs.Second.Names.{Named, is_name}
use Rattle.l4_script.specs.Second.Statements.{second_instruction_of}
use Rattle.l4_script.specs.Second.Texts.{Stage, Threads, after_line}
use Rattle.l4_lint.specs.Second.Parts.{begins_script}

-- What comes next; whether the last `thread` line was faulty, so that a script of no thread
-- follows; whether any line was faulty; and of how many more faults it is told where a name is
-- declared.
pub record Reader : Type 0 where
  pub stage : Stage
  pub lost : Bool
  pub faulty : Bool
  pub left : ℕ

abbrev pub reader : Stage → (lost faulty : Bool) → (left : ℕ) → Reader
reader stage lost faulty left =
    record { stage = stage; lost = lost; faulty = faulty; left = left }

-- A line of a script of no thread is judged as an instruction, and changes nothing. What it names
-- may be anywhere.

abbrev pub label_form : (label : Option (List ℕ)) → Judged (Unit {0})
label_form None = Ok tt
label_form (Some label) = must (is_name label) kinds.BadName

abbrev pub words_form : Format → List Named → List (List ℕ) → Judged (Unit {0})
words_form f names [] = Ok tt
words_form f names (name ∷ operands) =
    second_instruction_of f names name operands >>= λ instr. Ok tt

abbrev pub said_form : Format → List Named → Option Said → Judged (Unit {0})
said_form f names None = Ok tt
said_form f names (Some said) = label_form said.label >> words_form f names said.words

abbrev pub instruction_form : Format → List Named → (line : List ℕ) → Judged (Unit {0})
instruction_form f names line = second_line_of line >>= said_form f names

abbrev pub lost_form : Stage → (line : List ℕ) → Judged (Unit {0})
lost_form (Threads r) line = instruction_form r.format r.names line
lost_form stage line = Ok tt

-- What comes next behind a line, or what is wrong with it.

abbrev pub is_lost : Reader → (line : List ℕ) → Bool
is_lost r line = r.lost && not (begins_script line)

abbrev pub judged : (number : ℕ) → Reader → (line : List ℕ) → Judged Stage
judged number r line =
    if is_lost r line then lost_form r.stage line >>= (λ said. Ok r.stage)
    else after_line number r.stage line

-- The reader behind a line without a fault, and behind a faulty one.

abbrev pub led_on : Reader → (line : List ℕ) → (after : Stage) → Reader
led_on r line after = reader after (is_lost r line) r.faulty r.left

abbrev pub left_out : Reader → (line : List ℕ) → Reader
left_out r line = reader r.stage (r.lost || begins_script line) true (r.left - 1)

-- Behind a fault in front of the lines of threads nothing is judged.
abbrev pub goes_on : Stage → Bool
goes_on (Threads r) = true
goes_on stage = false
