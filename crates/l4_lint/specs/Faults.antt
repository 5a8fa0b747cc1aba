-- The faults of a text.
use Rattle.std.specs.Prelude.{ℕ, false, ◌+◌, Bool, ◌==◌, nat_lt, if◌then◌else◌, Option, Some}
use Rattle.std.specs.Prelude.{None, Ok, Err, List, [], ◌∷◌, length, map, filter}
use Rattle.l4_words.specs.Lines.{parts_of}
use Rattle.l4_script.specs.declared.text.fault.TextFault.{TextFault}
use Rattle.l4_script.specs.declared.text.fault.TextFaultKind.{TextFaultKind}
use Rattle.l4_script.specs.declared.text.fault.TextFaultKind.TheVariants as kinds
use Rattle.l4_script.specs.Faults.{fault_at}
use Rattle.l4_script.specs.Judged.{Judged}
use Rattle.l4_script.specs.Texts.{Target, Stage, Start, Threads, is_missed}
use Rattle.l4_script.specs.Texts as texts
use Rattle.l4_script.specs.Second.Texts.{begins_second}
use Rattle.l4_lint.specs.declared.hints.Hint.TheVariants as hints
use Rattle.l4_lint.specs.Contexts.{context_at}
use Rattle.l4_lint.specs.Forms.{line_place}
pub use Rattle.l4_lint.specs.Found.{Fault, fault, fault_in, unended}
pub use Rattle.l4_lint.specs.Lines.{line_at}
use Rattle.l4_lint.specs.Places.{placed}
use Rattle.l4_lint.specs.Reading.{Reader, reader, judged, led_on, left_out, goes_on}
use Rattle.l4_lint.specs.Second.Faults as second

-- The fault of a text that ends in front of its first or its second line, the line of this number.
abbrev pub text_ends : (number : ℕ) → Stage → Fault
text_ends number stage =
    fault number kinds.BadLine (placed 1 [] (hints.Begins (context_at stage false).lines))

-- A line that names a place that its script does not have.
abbrev pub missed_fault : (parts : List (List ℕ)) → Target → Fault
missed_fault parts t =
    fault t.line kinds.BadTarget
    (line_place (context_at Start false) t.line (line_at parts t.line) kinds.BadTarget)

-- Places are judged only where no line is faulty, as a line that is left out would shift them.
abbrev pub missed_unless : (faulty : Bool) → (parts : List (List ℕ)) → texts.Reading → List Fault
missed_unless faulty parts r =
    if faulty then [] else map (missed_fault parts) (filter (is_missed r.machine) r.targets)

-- The faults of a text that ends in front of the line of this number.
abbrev pub ended : (parts : List (List ℕ)) → Stage → (faulty : Bool) → (number : ℕ) → List Fault
ended parts (Threads r) faulty number = missed_unless faulty parts r
ended parts stage faulty number = text_ends number stage ∷ []

abbrev pub line_fault : (number : ℕ) → Reader → (line : List ℕ) → TextFaultKind → Fault
line_fault number r line k = fault number k (line_place (context_at r.stage r.lost) number line k)

-- The reader behind a line, and the fault of the line. A faulty line is left out.
pub record Step : Type 0 where
  pub after : Reader
  pub found : Option Fault

abbrev pub step_by : (number : ℕ) → Reader → (line : List ℕ) → Judged Stage → Step
step_by number r line (Ok after) = record { after = led_on r line after; found = None }
step_by number r line (Err k) =
    record { after = left_out r line; found = Some (line_fault number r line k) }

abbrev pub step : (number : ℕ) → Reader → (line : List ℕ) → Step
step number r line = step_by number r line (judged number r line)

abbrev pub followed_by : Option Fault → (after : Reader) → (rest : Reader → List Fault) → List Fault
followed_by None after rest = rest after
followed_by (Some f) after rest = f ∷ (if goes_on after.stage then rest after else [])

abbrev pub followed : Step → (rest : Reader → List Fault) → List Fault
followed s rest = followed_by s.found s.after rest

-- The faults of a text from a line on. `whole` are all its parts.
abbrev pub faults_from : (whole parts : List (List ℕ)) → Reader → (number : ℕ) → List Fault
faults_from whole [] r number = ended whole r.stage r.faulty number
faults_from whole (part ∷ []) r number =
    if length part == 0 then ended whole r.stage r.faulty number else unended number part ∷ []
faults_from whole (part ∷ next ∷ parts) r number =
    followed (step number r part) (λ after. faults_from whole (next ∷ parts) after (number + 1))

abbrev pub too_long : Fault
too_long = fault 0 kinds.TooLong (placed 0 [] hints.LongText)

abbrev pub not_read : Reader
not_read = reader Start false false

-- All faults of a text, in order of their lines.
abbrev pub faults_of : (text : List ℕ) → List Fault
faults_of text =
    if nat_lt 0x100000 (length text) then too_long ∷ []
    else (if begins_second (parts_of text)
    then second.faults_from (parts_of text) (parts_of text) second.not_read 1
    else faults_from (parts_of text) (parts_of text) not_read 1)

-- The first fault of a list.
abbrev pub first_in : List Fault → Option TextFault
first_in [] = None
first_in (f ∷ others) = Some (fault_at f.line f.kind)
