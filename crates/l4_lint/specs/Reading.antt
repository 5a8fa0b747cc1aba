-- How far a text has been read.
use Rattle.std.specs.Prelude.{ℕ, Bool, true, false, not, ◌&&◌, ◌||◌, if◌then◌else◌, Option}
use Rattle.std.specs.Prelude.{Some, None, Ok, List, [], ◌∷◌, codes}
use Rattle.std.specs.Str.{bytes_eq}
use Rattle.l4_model.specs.Words.{Format}
use Rattle.l4_script.specs.Judged.{Judged, ◌>>=◌}
use Rattle.l4_script.specs.Lines.{line_of}
use Rattle.l4_script.specs.Statements.{instruction_of}
use Rattle.l4_script.specs.Texts.{Stage, Threads, after_line}
use Rattle.l4_lint.specs.Bytes.{word_of}

-- What comes next; whether the last `thread` line was faulty, so that a script of no thread
-- follows; and whether any line was faulty.
pub record Reader : Type 0 where
  pub stage : Stage
  pub lost : Bool
  pub faulty : Bool

abbrev pub reader : Stage → (lost faulty : Bool) → Reader
reader stage lost faulty = record { stage = stage; lost = lost; faulty = faulty }

abbrev pub begins_script : (words : List ℕ) → Bool
begins_script words = bytes_eq (word_of words) (codes "thread")

-- A line of a script of no thread is judged as an instruction, and changes nothing.
abbrev pub words_form : Format → List (List ℕ) → Judged (Unit {0})
words_form f [] = Ok tt
words_form f (name ∷ operands) = instruction_of f name operands >>= λ instr. Ok tt

abbrev pub said_form : Format → Option (List (List ℕ)) → Judged (Unit {0})
said_form f None = Ok tt
said_form f (Some words) = words_form f words

abbrev pub instruction_form : Format → (line : List ℕ) → Judged (Unit {0})
instruction_form f line = line_of line >>= said_form f

abbrev pub lost_form : Stage → (line : List ℕ) → Judged (Unit {0})
lost_form (Threads r) line = instruction_form r.format line
lost_form stage line = Ok tt

-- What comes next behind a line, or what is wrong with it.
abbrev pub is_lost : Reader → (line : List ℕ) → Bool
is_lost r line = r.lost && not (begins_script line)

abbrev pub judged : (number : ℕ) → Reader → (line : List ℕ) → Judged Stage
judged number r line =
    if is_lost r line then lost_form r.stage line >>= (λ said. Ok r.stage)
    else after_line number r.stage line

-- The reader behind a line without a fault.
abbrev pub led_on : Reader → (line : List ℕ) → (after : Stage) → Reader
led_on r line after = reader after (is_lost r line) r.faulty

-- The reader behind a faulty line.
abbrev pub left_out : Reader → (line : List ℕ) → Reader
left_out r line = reader r.stage (r.lost || begins_script line) true

-- Behind a fault in front of the lines of threads nothing is judged.
abbrev pub goes_on : Stage → Bool
goes_on (Threads r) = true
goes_on stage = false
