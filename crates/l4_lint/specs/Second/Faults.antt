-- The faults of a text with scripts of version 2.
use Rattle.std.specs.Prelude.{ℕ, false, ◌+◌, Bool, ◌==◌, if◌then◌else◌, Option, Some, None, Ok, Err}
use Rattle.std.specs.Prelude.{List, [], ◌∷◌, length}
use Rattle.l4_script.specs.declared.text.fault.TextFault.{TextFault}
use Rattle.l4_script.specs.declared.text.fault.TextFaultKind.{TextFaultKind}
use Rattle.l4_script.specs.declared.text.fault.TextFaultKind.TheVariants as kinds
use Rattle.l4_script.specs.Judged.{Judged}
use Rattle.l4_script.specs.Second.Texts.{Stage, Start, Processors, Threads}
use Rattle.l4_script.specs.Second.Texts as texts
use Rattle.l4_lint.specs.declared.hints.Hint.TheVariants as hints
use Rattle.l4_lint.specs.declared.hints.Lines.TheVariants as these
use Rattle.l4_lint.specs.Found.{Fault, fault, fault_in, unended}
use Rattle.l4_lint.specs.Lines.{line_at, without_last}
use Rattle.l4_lint.specs.Places.{placed}
use Rattle.l4_lint.specs.Second.Forms.{line_place, missed_place}
use Rattle.l4_lint.specs.Second.Reading.{Reader, reader, judged, led_on, left_out, goes_on}

-- The fault of a text that ends in front of the line of this number. What scripts do not have that
-- their instructions name is judged only where no line is faulty; the first one is told.

abbrev pub missed_fault : (parts : List (List ℕ)) → TextFault → Fault
missed_fault parts f =
    fault f.line f.kind (missed_place (without_last parts) (line_at parts f.line) f.kind)

abbrev pub missed_faults : (parts : List (List ℕ)) → Option TextFault → List Fault
missed_faults parts None = []
missed_faults parts (Some f) = missed_fault parts f ∷ []

abbrev pub text_ends : (number : ℕ) → Fault
text_ends number = fault number kinds.BadLine (placed 1 [] (hints.Begins these.Processors))

abbrev pub ended : (parts : List (List ℕ)) → Stage → (faulty : Bool) → (number : ℕ) → List Fault
ended parts (Threads r) faulty number =
    if faulty then [] else missed_faults parts (fault_in (texts.ended (Threads r) number))
ended parts stage faulty number = text_ends number ∷ []

-- The lines of a text, as long as it is told where names are declared.
abbrev pub looked_in : (left : ℕ) → (parts : List (List ℕ)) → Option (List (List ℕ))
looked_in left parts = if left == 0 then None else Some (without_last parts)

abbrev pub line_fault : (parts : List (List ℕ)) → (number : ℕ) → Reader → (line : List ℕ) →
    TextFaultKind → Fault
line_fault parts number r line k =
    fault number k (line_place r.stage r.lost (looked_in r.left parts) number line k)

-- The reader behind a line, and the fault of the line. A faulty line is left out.
pub record Step : Type 0 where
  pub after : Reader
  pub found : Option Fault

abbrev pub step_by : (parts : List (List ℕ)) → (number : ℕ) → Reader → (line : List ℕ) →
    Judged Stage → Step
step_by parts number r line (Ok after) = record { after = led_on r line after; found = None }
step_by parts number r line (Err k) =
    record { after = left_out r line; found = Some (line_fault parts number r line k) }

abbrev pub step : (parts : List (List ℕ)) → (number : ℕ) → Reader → (line : List ℕ) → Step
step parts number r line = step_by parts number r line (judged number r line)

abbrev pub followed_by : Option Fault → (after : Reader) → (rest : Reader → List Fault) → List Fault
followed_by None after rest = rest after
followed_by (Some f) after rest = f ∷ (if goes_on after.stage then rest after else [])

abbrev pub followed : Step → (rest : Reader → List Fault) → List Fault
followed s rest = followed_by s.found s.after rest

-- The faults of a text from a line on. `whole` are all its parts.
abbrev pub faults_from : (whole parts : List (List ℕ)) → Reader → (number : ℕ) → List Fault
faults_from whole [] r number = ended whole r.stage r.faulty number
faults_from whole (part ∷ []) r number =
    if length part == 0 then ended whole r.stage r.faulty number else unended number part ∷ []
faults_from whole (part ∷ next ∷ parts) r number =
    followed (step whole number r part)
    (λ after. faults_from whole (next ∷ parts) after (number + 1))

-- Of so many faults it is told where a name is declared, since that takes as long as the text is.
abbrev pub most_looked : ℕ
most_looked = 64

abbrev pub not_read : Reader
not_read = reader Start false false most_looked
