-- What a job comes to, or why it comes to nothing.
use Rattle.std.specs.Prelude.{◌≡◌, ◌⊎◌, ℕ, Bool, true, false, Option, Some, None, is_some, IsSomeAnd, Result, Ok, Err, List}
use Rattle.l4_model.specs.Machine.{Machine}
use Rattle.l4_expect.specs.Expected.{Expected, expectations_of}
use Rattle.l4_expect.specs.declared.expectations.ExpectFault.{ExpectFault}
use Rattle.l4_machine.specs.Outcomes.{Findings, IsTrueOf}
use Rattle.l4_script.specs.Versions.{machine_of_text}
use Rattle.l4_script.specs.declared.text.fault.TextFault.{TextFault}
use Rattle.l4_script.specs.declared.text.fault.TextFaultKind.{TextFaultKind}
use Rattle.l4_script.specs.declared.text.fault.TextFaultKind.TheVariants.{NoMemory as NoMemoryKind}
use Rattle.l4_commands.specs.Files.{expected_of, file_of, list_name, list_name_in, shown_name}
use Rattle.l4_commands.specs.declared.job.Job.{Job}
use Rattle.l4_commands.specs.declared.job.Job.TheVariants.{Run, Replay, Next, Audit, Chart, Endings, Lint, Step}
use Rattle.l4_commands.specs.declared.job.Printed.{Printed}
use Rattle.l4_commands.specs.declared.job.Wanted.TheVariants.{NoEnding, AnEnding}
use Rattle.l4_jobs.specs.Audits.{IsAuditDone, IsTraceFault, tells_refusals}
use Rattle.l4_jobs.specs.ChartJobs.{IsChartDone, IsChartFault}
use Rattle.l4_jobs.specs.Expectations.{IsExpected, fault_of_expect, scope_of}
use Rattle.l4_jobs.specs.Inputs.{FailsWith, Gives, IsRead}
use Rattle.l4_jobs.specs.Lints.{IsLinted, IsListLinted}
use Rattle.l4_jobs.specs.Nexts.{IsNextDone, IsNextFault}
use Rattle.l4_jobs.specs.Objects.{IsTold, is_retold}
use Rattle.l4_jobs.specs.Outputs.{Output}
use Rattle.l4_jobs.specs.Runs.{IsReplayJobDone, IsRunJobDone, IsWritten, status_of_ending}
use Rattle.l4_jobs.specs.Schedules.{IsReplayFault, fault_of_turns}
use Rattle.l4_jobs.specs.Searches.{IsSearchDone, fault_of_search}
use Rattle.l4_jobs.specs.Steps.{IsStepDone, IsStepFault}
use Rattle.l4_jobs.specs.declared.fault.Fault.{Fault}
use Rattle.l4_jobs.specs.declared.fault.Fault.TheVariants as fault

-- What a job comes to in lines, on the machine that a text declares, where this is expected of it.
-- `second` gives the trace, or the list where that is in a file.
abbrev pub IsDoneOn : Job → (text : List ℕ) → Machine → (second : Gives) →
    Option (List Expected) → Output → Type 0
IsDoneOn (Run run) text m second expected o = IsRunJobDone run text m expected o
IsDoneOn (Replay replay) text m second expected o =
    (list : List ℕ) × IsRead (list_name replay.schedule.now) second list
    × IsReplayJobDone replay text m list expected o
IsDoneOn (Next next) text m second expected o =
    (list : List ℕ) × IsRead (list_name next.schedule.now) second list
    × IsNextDone m next.schedule.now list o
IsDoneOn (Audit audit) text m second expected o =
    (trace : List ℕ) × second (Ok trace) × IsAuditDone audit.judged m trace o
IsDoneOn (Chart chart) text m second expected o =
    (trace : List ℕ) × second (Ok trace) × IsChartDone chart text m trace o
IsDoneOn (Endings search) text m second expected o = IsSearchDone search text m expected o
IsDoneOn (Lint lint) text m second expected o =
    (list : List ℕ) × IsRead (list_name_in lint.schedule) second list
    × IsListLinted (shown_name lint) text m lint.schedule list o
IsDoneOn (Step step) text m second expected o =
    (input : List ℕ) × second (Ok input) × IsStepDone step text m input o

-- Only a lint comes to anything for a text with a fault.
abbrev pub is_lint : Job → Bool
is_lint (Lint lint) = true
is_lint _ = false

abbrev pub name_shown : Job → Option (List ℕ)
name_shown (Lint lint) = shown_name lint
name_shown _ = None

abbrev pub IsFaultyDone : Job → (text : List ℕ) → Output → Type 0
IsFaultyDone job text o = (is_lint job ≡ true) × IsLinted (name_shown job) text o

-- What a job comes to in lines for a text, with what its file expects.
abbrev pub IsInLinesFor : Job → (text : List ℕ) → Result Machine TextFault →
    (second expects : Gives) → Output → Type 0
IsInLinesFor job text (Ok m) second expects o =
    (expected : Option (List Expected)) × IsExpected (expected_of job) (scope_of job) expects expected
    × IsDoneOn job text m second expected o
IsInLinesFor job text (Err f) second expects o = IsFaultyDone job text o

-- The same, with its lines told as objects where that is asked for.
abbrev pub IsDoneFor : Job → (text : List ℕ) → Result Machine TextFault →
    (second expects : Gives) → Output → Type 0
IsDoneFor job text machine second expects o =
    IsTold (is_retold job) (IsInLinesFor job text machine second expects) o

-- What a job comes to for a machine text that its source gives.
pub record IsDone (job : Job) (machine second expects : Gives) (o : Output) : Type 0 where
  pub text : List ℕ
  pub given : machine (Ok text)
  pub is : IsDoneFor job text (machine_of_text text) second expects o

-- Why a job comes to nothing. The text is judged first, then what is expected, and then the turns,
-- the list, the trace or the limits of a search. Nothing is read before that.

abbrev pub text_fault : (line : ℕ) → TextFaultKind → Fault
text_fault line NoMemoryKind = fault.NoMemory
text_fault line kind = fault.Text line kind

abbrev pub IsFaultOn : Job → Machine → (second : Gives) → Fault → Type 0
IsFaultOn (Run run) m second f = fault_of_turns run.turns ≡ Some f
IsFaultOn (Replay replay) m second f =
    IsReplayFault m replay.then_rest replay.schedule.now second f
IsFaultOn (Next next) m second f = IsNextFault m next.schedule.now second f
IsFaultOn (Audit audit) m second f =
    IsTraceFault (tells_refusals audit.judged) m audit.trace.now second f
IsFaultOn (Chart chart) m second f = IsChartFault chart m second f
IsFaultOn (Endings search) m second f = fault_of_search m search ≡ Some f
IsFaultOn (Lint lint) m second f =
    IsSomeAnd (list_name_in lint.schedule) (λ name. FailsWith name second f)
IsFaultOn (Step step) m second f = IsStepFault second f

-- The fault of a text, which a lint prints.
abbrev pub IsTextFault : Job → TextFault → Fault → Type 0
IsTextFault job t f = (is_lint job ≡ false) × (f ≡ text_fault t.line t.kind)

-- The fault of what is expected, or of the job where that has none.
abbrev pub IsAskedFault : Job → Machine → (second : Gives) → Result (List Expected) ExpectFault →
    Fault → Type 0
IsAskedFault job m second (Err e) f = f ≡ fault_of_expect e
IsAskedFault job m second (Ok lines) f = IsFaultOn job m second f

abbrev pub IsFaultBehind : Job → (name : Option (List ℕ)) → Machine → (second expects : Gives) →
    Fault → Type 0
IsFaultBehind job None m second expects f = IsFaultOn job m second f
IsFaultBehind job (Some name) m second expects f =
    FailsWith name expects f
    ⊎ ((asked : List ℕ) × expects (Ok asked)
    × IsAskedFault job m second (expectations_of (scope_of job) asked) f)

abbrev pub IsFaultFor : Job → Result Machine TextFault → (second expects : Gives) → Fault → Type 0
IsFaultFor job (Ok m) second expects f = IsFaultBehind job (expected_of job) m second expects f
IsFaultFor job (Err t) second expects f = IsTextFault job t f

abbrev pub IsFault : Job → (machine second expects : Gives) → Fault → Type 0
IsFault job machine second expects f =
    (f ≡ fault.NoMemory)
    ⊎ FailsWith (file_of job) machine f
    ⊎ ((text : List ℕ) × machine (Ok text)
    × IsFaultFor job (machine_of_text text) second expects f)

-- The exit statuses. 4 stands for an ending that should not exist, or for none where one should, for
-- a world that no history may come to, or for an expectation that does not hold.

abbrev pub IsWanted : Job → Type 0
IsWanted (Endings search) =
    (search.wanted ≡ NoEnding) ⊎ (search.wanted ≡ AnEnding) ⊎ (is_some search.always ≡ true)
IsWanted _ = ⊥

abbrev pub IsStatusOf : Job → (status : ℕ) → Type 0
IsStatusOf job status =
    (status ≡ 0) ⊎ (status ≡ 1) ⊎ (status ≡ 3)
    ⊎ ((status ≡ 4) × (IsWanted job ⊎ (is_some (expected_of job) ≡ true)))

-- The lines of a run or a replay are of findings that are true of its machine, and so is the status.
-- Nothing here names a run of processors.
pub record IsTrueShown (printed : Printed) (text : List ℕ) (m : Machine) (lines : List ℕ)
    (status : ℕ) : Type 0 where
  pub findings : Findings
  pub is_true : IsTrueOf m findings
  pub written : IsWritten printed text m findings lines
  pub status_is : (status ≡ status_of_ending findings.ending) ⊎ (status ≡ 4)

-- What is printed of a run or a replay.
abbrev pub printed_of : Job → Option Printed
printed_of (Run run) = Some run.printed
printed_of (Replay replay) = Some replay.printed
printed_of _ = None

abbrev pub IsTrueBy : Option Printed → (text lines : List ℕ) → (status : ℕ) → Type 0
IsTrueBy None text lines status = Unit {0}
IsTrueBy (Some printed) text lines status =
    (m : Machine) × (machine_of_text text ≡ Ok m) × IsTrueShown printed text m lines status

abbrev pub IsTrueFor : Job → (text lines : List ℕ) → (status : ℕ) → Type 0
IsTrueFor job text lines status = IsTrueBy (printed_of job) text lines status
