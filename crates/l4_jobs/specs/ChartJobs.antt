-- What a chart of a trace shows, and its faults.
use Rattle.std.specs.Prelude.{◌≡◌, ◌⊎◌, ◌==◌, ℕ, true, if◌then◌else◌, Option, Some, None, Result, Ok, Err, List}
use Rattle.std.specs.Option.{option_copied}
use Rattle.l4_model.specs.Words.{GlobalId}
use Rattle.l4_model.specs.Machine.{Machine}
use Rattle.l4_model.specs.Steps.{Step}
use Rattle.l4_model.specs.History.{refused_place}
use Rattle.l4_chart.specs.Charts.{chart_of}
use Rattle.l4_chart.specs.Drawings.{IsDrawing}
use Rattle.l4_chart.specs.Listings.{listing_of}
use Rattle.l4_chart.specs.Threads.{threads_of}
use Rattle.l4_chart.specs.Windows.{Part, until_refused}
use Rattle.l4_chart.specs.declared.threads.ThreadsFault.{ThreadsFault}
use Rattle.l4_chart.specs.declared.threads.ThreadsFault.TheVariants as threads_fault
use Rattle.l4_trace.specs.Lines.{IsTraceOf}
use Rattle.l4_jobs.specs.Audits.{IsRefusedAt, IsTraceFault, refusal_text}
use Rattle.l4_jobs.specs.Inputs.{Gives}
use Rattle.l4_jobs.specs.Outputs.{Output}
use Rattle.l4_jobs.specs.declared.fault.Fault.{Fault}
use Rattle.l4_jobs.specs.declared.fault.Fault.TheVariants as fault
use Rattle.l4_chart.specs.declared.drawing.Form.{Form}
use Rattle.l4_chart.specs.declared.drawing.Form.TheVariants as drawing
use Rattle.l4_commands.specs.declared.job.ChartForm.{ChartForm}
use Rattle.l4_commands.specs.declared.job.ChartForm.TheVariants.{Lines, Ascii, Svg, Html, Mermaid}
use Rattle.l4_commands.specs.declared.job.ChartJob.{ChartJob}

-- The threads that are shown: all where there is no list.
abbrev pub some_threads : Result (List GlobalId) ℕ → Result (Option (List GlobalId)) ℕ
some_threads (Ok threads) = Ok (Some threads)
some_threads (Err number) = Err number

abbrev pub chosen_threads : Machine → (list : Option (List ℕ)) → Result (Option (List GlobalId)) ℕ
chosen_threads m None = Ok None
chosen_threads m (Some list) = some_threads (threads_of m list)

abbrev pub chosen_by : Machine → ChartJob → Result (Option (List GlobalId)) ℕ
chosen_by m chart = chosen_threads m (option_copied chart.threads)

abbrev pub part_of : ChartJob → Option (List GlobalId) → Part
part_of chart threads = record {
  first = chart.first;
  last = chart.last;
  threads = threads;
  registers = chart.registers;
  folds = chart.folds;
}

-- The width of a text in columns. 0 stands for 80.
abbrev pub text_width : (width : ℕ) → ℕ
text_width width = if width == 0 then 80 else width

-- The form of a drawing.
abbrev pub drawing_form : ChartForm → Form
drawing_form Lines = drawing.Lines
drawing_form Ascii = drawing.Ascii
drawing_form Svg = drawing.Svg
drawing_form Html = drawing.Html
drawing_form Mermaid = drawing.Mermaid

-- The exit status by the first step that is not possible, if there is one.
abbrev pub status_of_refused : Option ℕ → ℕ
status_of_refused None = 0
status_of_refused (Some number) = 1

-- These lines are the chart of the chosen threads of the machine that a text declares, with the steps
-- before the first that is not possible.
pub record IsCharted (chart : ChartJob) (text : List ℕ) (m : Machine) (trace lines : List ℕ)
    (status : ℕ) : Type 0 where
  pub threads : Option (List GlobalId)
  pub chosen : chosen_by m chart ≡ Ok threads
  pub steps : List Step
  pub reads : IsTraceOf trace steps
  pub drawn :
      IsDrawing (drawing_form chart.form) (text_width chart.width)
      (chart_of m (listing_of text)
      (until_refused (refused_place m steps) (part_of chart threads)) steps) lines
  pub status_is : status ≡ status_of_refused (refused_place m steps)

-- The fault of its list of threads.
abbrev pub fault_of_list : ThreadsFault → Fault
fault_of_list threads_fault.NoMemory = fault.NoMemory
fault_of_list (threads_fault.Item number) = fault.Threads number

abbrev pub fault_of_threads : Result (Option (List GlobalId)) ℕ → Option Fault
fault_of_threads (Ok threads) = None
fault_of_threads (Err number) = Some (fault.Threads number)

pub record IsChartDone (chart : ChartJob) (text : List ℕ) (m : Machine) (trace : List ℕ)
    (o : Output) : Type 0 where
  pub charted : IsCharted chart text m trace o.lines o.status
  pub refused : Option ℕ
  pub refused_at : IsRefusedAt m trace refused
  pub said : o.said ≡ refusal_text refused
  pub unrecorded : o.list ≡ None

-- The fault of a chart: that of its list of threads, else that of its trace. It tells of a refused
-- step.
abbrev pub IsChartFault : ChartJob → Machine → Gives → Fault → Type 0
IsChartFault chart m gives f =
    (fault_of_threads (chosen_by m chart) ≡ Some f)
    ⊎ ((fault_of_threads (chosen_by m chart) ≡ None) × IsTraceFault true m chart.trace.now gives f)
