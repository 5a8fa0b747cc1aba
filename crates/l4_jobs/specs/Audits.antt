-- The audit of the text of a trace, its line and its fault.
use Rattle.std.specs.Prelude.{◌≡◌, ◌↔◌, ◌⊎◌, ◌+◌, ◌||◌, ℕ, Bool, true, false, if◌then◌else◌, Option, Some, None, Result, Ok, Err, List, [], ◌∷◌, ◌++◌, length, slice_get, take, codes, decimal}
use Rattle.l4_model.specs.Machine.{Machine}
use Rattle.l4_model.specs.Steps.{Step}
use Rattle.l4_model.specs.World.{World}
use Rattle.l4_model.specs.History.{reached, refused_place, view, waiting as undecided_sends}
use Rattle.l4_model.specs.Still.{IsStill}
use Rattle.l4_audit.specs.Audits.{is_quiet}
use Rattle.l4_audit.specs.declared.reasons.StepFault.{StepFault}
use Rattle.l4_audit.specs.declared.reasons.StepFault.TheVariants.{NoMemory, Refused}
use Rattle.l4_audit.specs.Reasons.{reason}
use Rattle.l4_audit.specs.declared.reasons.Reason.{Reason}
use Rattle.l4_commands.specs.declared.job.Judged.{Judged}
use Rattle.l4_explain.specs.Reasons.{cause}
use Rattle.l4_explain.specs.Worlds.{explanation}
use Rattle.l4_explain.specs.declared.reasons.Cause.{Cause}
use Rattle.l4_reports.specs.ReportLines.{ending_word, report_text}
use Rattle.l4_trace.specs.Lines.{IsTraceOf, line_of_words}
use Rattle.l4_trace.specs.Reading.{HasFaultAt}
use Rattle.l4_types.specs.declared.reports.Ending.{Ending}
use Rattle.l4_trace.specs.declared.fault.TraceFault.{TraceFault}
use Rattle.l4_trace.specs.declared.fault.TraceFault.TheVariants as trace_fault
use Rattle.l4_jobs.specs.Extras.{behind}
use Rattle.l4_jobs.specs.FaultLines.{fault_line}
use Rattle.l4_jobs.specs.Inputs.{FailsWith, Gives}
use Rattle.l4_jobs.specs.Outputs.{Output}
use Rattle.l4_jobs.specs.declared.audits.PassedTrace.{PassedTrace}
use Rattle.l4_jobs.specs.declared.fault.Fault.{Fault}
use Rattle.l4_jobs.specs.declared.fault.Fault.TheVariants as fault

-- Each line spells a step, and the steps are a history with this number of steps and this ending.
pub record HasPassed (m : Machine) (text : List ℕ) (passed : PassedTrace) : Type 0 where
  pub steps : List Step
  pub reads : IsTraceOf text steps
  pub counted : passed.steps ≡ length steps
  pub world : World
  pub reaches : reached m steps ≡ Some world
  pub quiet : (is_quiet passed.ending ≡ true) ↔ IsStill m world

-- A faulty line behind a refused step comes first.
abbrev pub fault_of_rest : (place : ℕ) → Result (List Step) ℕ → Fault
fault_of_rest place (Ok steps) = fault.Refused place
fault_of_rest place (Err behind) = fault.Trace (place + behind)

-- The fault of a text, by what is read behind so many steps and by the fault of the last of these.
abbrev pub fault_behind : (place : ℕ) → Result (List Step) ℕ → StepFault → Fault
fault_behind place rest NoMemory = fault.NoMemory
fault_behind place rest (Refused reason) = fault_of_rest place rest

-- Each line spells a step, and the first step that is not possible has this number, if there is one.
abbrev pub IsRefusedAt : Machine → (trace : List ℕ) → (number : Option ℕ) → Type 0
IsRefusedAt m trace number =
    (steps : List Step) × IsTraceOf trace steps × (refused_place m steps ≡ number)

-- The fault of a trace: its first line that spells no step, else its first step that is not
-- possible. Where such a step is told of, it is no fault.
abbrev pub IsFaultOfTrace : (tells : Bool) → Machine → (trace : List ℕ) → Fault → Type 0
IsFaultOfTrace tells m trace f =
    ((line : ℕ) × (f ≡ fault.Trace line) × HasFaultAt trace line)
    ⊎ ((number : ℕ) × (f ≡ fault.Refused number) × (tells ≡ false)
    × IsRefusedAt m trace (Some number))

-- The line of an audit that a trace of so many steps passed.
abbrev pub passed_line : (steps : ℕ) → Ending → List ℕ
passed_line steps ending = line_of_words (codes "passed" ∷ decimal steps ∷ ending_word ending ∷ [])

-- Where a step is not possible

-- A refused step is told of where the report or the explanation is asked for.
abbrev pub tells_refusals : Judged → Bool
tells_refusals judged = judged.report || judged.explain

-- The report of the world that these steps lead to, and why a step is not possible there, each
-- where it is asked for.

abbrev pub report_where : (asked : Bool) → Machine → World → List Step → Ending → List ℕ
report_where asked m w h ending =
    if asked then report_text (view m w) (undecided_sends m w h) ending else []

abbrev pub explanation_where : (asked : Bool) → Machine → World → Cause → List ℕ
explanation_where asked m w c = if asked then explanation m w c else []

-- Each line spells a step. The first `taken` steps lead to this world, and the next is not possible
-- there, for this reason. These lines tell of it.
pub record IsRefused (judged : Judged) (m : Machine) (trace lines : List ℕ) : Type 0 where
  pub asked : tells_refusals judged ≡ true
  pub steps : List Step
  pub reads : IsTraceOf trace steps
  pub taken : ℕ
  pub first : refused_place m steps ≡ Some (taken + 1)
  pub world : World
  pub reaches : reached m (take taken steps) ≡ Some world
  pub step : Step
  pub stands : slice_get steps taken ≡ Some step
  pub because : Reason
  pub why : reason m world step ≡ Some because
  pub ending : Ending
  pub quiet : (is_quiet ending ≡ true) ↔ IsStill m world
  pub lines_are : lines ≡
      explanation_where judged.explain m world (cause m step because)
      ++ report_where judged.report m world (take taken steps) ending

-- What an audit prints

-- The lines of a trace that passes tell how many steps it has, and whether only clocks can go on
-- behind them. What is asked for follows.
pub record IsPassed (judged : Judged) (machine : Machine) (trace lines : List ℕ) : Type 0 where
  pub steps : List Step
  pub reads : IsTraceOf trace steps
  pub world : World
  pub reaches : reached machine steps ≡ Some world
  pub ending : Ending
  pub quiet : (is_quiet ending ≡ true) ↔ IsStill machine world
  pub lines_are : lines ≡
      passed_line (length steps) ending ++ report_where judged.report machine world steps ending
      ++ behind judged.extras machine world steps

-- The trace is a history, or the lines tell of its first step that is not possible.
abbrev pub IsAudited : Judged → Machine → (trace lines : List ℕ) → (status : ℕ) → Type 0
IsAudited judged m trace lines status =
    (IsPassed judged m trace lines × (status ≡ 0)) ⊎ (IsRefused judged m trace lines × (status ≡ 1))

-- The first step that is not possible, where anything is printed of such a trace.
abbrev pub IsRefusedBy : (tells : Bool) → Machine → (trace : List ℕ) → Option ℕ → Type 0
IsRefusedBy true m trace refused = IsRefusedAt m trace refused
IsRefusedBy false m trace refused = refused ≡ None

-- What is said of such a step on the faults.
abbrev pub refusal_text : (refused : Option ℕ) → List ℕ
refusal_text None = []
refusal_text (Some number) = fault_line (fault.Refused number)

pub record IsAuditDone (judged : Judged) (m : Machine) (trace : List ℕ) (o : Output) : Type 0 where
  pub audited : IsAudited judged m trace o.lines o.status
  pub refused : Option ℕ
  pub refused_at : IsRefusedBy (tells_refusals judged) m trace refused
  pub said : o.said ≡ refusal_text refused
  pub unrecorded : o.list ≡ None

-- Why nothing is printed of a trace. It is read only where there is a machine to audit it on.

abbrev pub fault_of_reading : TraceFault → Fault
fault_of_reading trace_fault.NoMemory = fault.NoMemory
fault_of_reading (trace_fault.Line line) = fault.Trace line

abbrev pub IsTraceFault : (tells : Bool) → Machine → (name : List ℕ) → Gives → Fault → Type 0
IsTraceFault tells m name gives f =
    FailsWith name gives f
    ⊎ ((trace : List ℕ) × gives (Ok trace) × IsFaultOfTrace tells m trace f)
