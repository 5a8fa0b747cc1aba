-- What is printed and recorded of a run or a replay.
use Rattle.std.specs.Prelude.{◌≡◌, ◌&&◌, ℕ, Bool, true, false, not, is_none, Option, Some, None, Ok, List, ◌++◌}
use Rattle.std.specs.List.{list_all}
use Rattle.std.specs.Option.{option_copied, option_map}
use Rattle.l4_model.specs.Machine.{Machine}
use Rattle.l4_model.specs.World.{World}
use Rattle.l4_model.specs.History.{reached}
use Rattle.l4_core_model.specs.Runs.{Run as CoreRun}
use Rattle.l4_core_model.specs.Schedules.{Entry, replay_entries}
use Rattle.l4_types.specs.declared.reports.Ending.{Ending}
use Rattle.l4_types.specs.declared.reports.Ending.TheVariants.{Quiet, Spent}
use Rattle.l4_chart.specs.Listings.{listing_of}
use Rattle.l4_chart.specs.Whole.{whole_text}
use Rattle.l4_expect.specs.Expected.{Expected}
use Rattle.l4_machine.specs.Outcomes.{Findings, IsOutcomeOf}
use Rattle.l4_reports.specs.ReportLines.{report_text}
use Rattle.l4_schedules.specs.InFiles.{schedule_in_file}
use Rattle.l4_schedules.specs.Written.{recorded_text}
use Rattle.l4_trace.specs.Lines.{has_line}
use Rattle.l4_commands.specs.declared.job.Printed.{Printed}
use Rattle.l4_commands.specs.declared.job.ReplayJob.{ReplayJob}
use Rattle.l4_commands.specs.declared.job.RunJob.{RunJob}
use Rattle.l4_commands.specs.declared.job.TextChart.{TextChart}
use Rattle.l4_jobs.specs.Expectations.{status_by, unmet_by}
use Rattle.l4_jobs.specs.Extras.{behind}
use Rattle.l4_jobs.specs.Objects.{told, told_steps}
use Rattle.l4_jobs.specs.Outputs.{Output}
use Rattle.l4_jobs.specs.Schedules.{IsReplayAsked, IsRunAsked}
use Rattle.l4_jobs.specs.Searches.{text_form}

-- The report of an outcome has the threads, the undecided sends and the ending.
abbrev pub report_of : Findings → List ℕ
report_of o = report_text o.threads o.waiting o.ending

-- The report of an outcome, or its trace, on the machine that this text declares. A chart stands in
-- the place of both.

abbrev pub lines_by : (report json : Bool) → (text : List ℕ) → Machine → Findings → List ℕ
lines_by true json text m o = told json (report_of o)
lines_by false json text m o = told_steps json text m o.history

abbrev pub charted_or : Option TextChart → (text : List ℕ) → Machine → Findings → List ℕ → List ℕ
charted_or None text m o lines = lines
charted_or (Some chart) text m o lines =
    whole_text m (listing_of text) o.history (text_form chart)

abbrev pub lines_of_outcome : Printed → (text : List ℕ) → Machine → Findings → List ℕ
lines_of_outcome printed text m o =
    charted_or printed.chart text m o (lines_by printed.report printed.json text m o)

-- Whether the trace is printed.
abbrev pub prints_steps : Printed → Bool
prints_steps printed = not printed.report && is_none printed.chart

-- These lines are printed of an outcome, by the world that its history reaches.
pub record IsWritten (printed : Printed) (text : List ℕ) (m : Machine) (o : Findings)
    (lines : List ℕ) : Type 0 where
  pub world : World
  pub reaches : reached m o.history ≡ Some world
  pub lines_are : lines ≡
      lines_of_outcome printed text m o
      ++ told printed.json (behind printed.extras m world o.history)
  -- each step of a printed trace has a line of its own
  pub spelled : prints_steps printed ≡ true → list_all has_line o.history ≡ true

-- The exit status by the ending.
abbrev pub status_of_ending : Ending → ℕ
status_of_ending Quiet = 0
status_of_ending Spent = 3

-- What is kept of a run or a replay where its record is asked for: the list of entries that is read
-- back as these, and by which a replay has the very findings.
pub record IsRecord (m : Machine) (o : Findings) (text : List ℕ) : Type 0 where
  pub entries : List Entry
  pub text_is : text ≡ recorded_text entries
  pub reads : schedule_in_file m text ≡ Ok entries
  pub of_replay : IsOutcomeOf m (replay_entries m entries) o

-- The list of these entries, where a file is named for it.
abbrev pub list_for : (name : Option (List ℕ)) → List Entry → Option (List ℕ × List ℕ)
list_for name entries = option_map (λ n. (n, recorded_text entries)) name

abbrev pub IsRecorded : (name : Option (List ℕ)) → Machine → Findings →
    (list : Option (List ℕ × List ℕ)) → Type 0
IsRecorded None m o list = list ≡ None
IsRecorded (Some name) m o list = (text : List ℕ) × (list ≡ Some (name, text)) × IsRecord m o text

-- This is the output for a core run that is asked for. The report is judged whether it is printed
-- or not.
pub record IsRunDone (printed : Printed) (text : List ℕ) (m : Machine)
    (IsAsked : CoreRun → Type 0) (record_to : Option (List ℕ)) (expected : Option (List Expected))
    (o : Output) : Type 0 where
  pub run : CoreRun
  pub is : IsAsked run
  pub findings : Findings
  pub of_run : IsOutcomeOf m run findings
  pub written : IsWritten printed text m findings o.lines
  pub said : o.said ≡ unmet_by expected (report_of findings)
  pub status_is :
      o.status ≡ status_by expected (report_of findings) (status_of_ending findings.ending)
  pub recorded : IsRecorded record_to m findings o.list

-- What the job of a run comes to, and that of a replay, of whose list this text was read where it is
-- in a file.
abbrev pub IsRunJobDone : RunJob → (text : List ℕ) → Machine → Option (List Expected) → Output →
    Type 0
IsRunJobDone run text m expected o =
    IsRunDone run.printed text m (IsRunAsked m run.turns) (option_copied run.record_to) expected o

abbrev pub IsReplayJobDone : ReplayJob → (text : List ℕ) → Machine → (list : List ℕ) →
    Option (List Expected) → Output → Type 0
IsReplayJobDone replay text m list expected o =
    IsRunDone replay.printed text m (IsReplayAsked m replay.then_rest replay.schedule.now list)
    (option_copied replay.record_to) expected o
