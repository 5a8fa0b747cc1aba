-- The files that a job reads, and the job as an output of a given kind needs it.
use Rattle.std.specs.Prelude.{◌==◌, ◌&&◌, ℕ, Bool, true, false, not, if◌then◌else◌, Option, Some, None, List, [], ◌∷◌, codes}
use Rattle.std.specs.Borrow.{Bor}
use Rattle.std.specs.Option.{option_copied}
use Rattle.std.specs.Str.{bytes_eq}
use Rattle.l4_commands.specs.declared.job.ChartForm.{ChartForm}
use Rattle.l4_commands.specs.declared.job.ChartForm.TheVariants.{Lines, Ascii}
use Rattle.l4_commands.specs.declared.job.Job.{Job}
use Rattle.l4_commands.specs.declared.job.LintJob.{LintJob}
use Rattle.l4_commands.specs.declared.job.Printed.{Printed}
use Rattle.l4_commands.specs.declared.job.TextChart.{TextChart}
use Rattle.l4_commands.specs.declared.job.Job.TheVariants.{Run, Replay, Next, Audit, Chart, Endings, Lint, Step}

-- The name that stands for the standard input: `-`. A file of that name is `./-`.
abbrev pub is_input : (name : List ℕ) → Bool
is_input name = bytes_eq name (codes "-")

-- The name of the file that has the schedule: what follows a first `@`, byte 64.
abbrev pub list_name : (schedule : List ℕ) → Option (List ℕ)
list_name [] = None
list_name (first ∷ name) = if first == 64 then Some name else None

-- The names of the files that a job reads: the machine text's, that of the trace or of the list,
-- and that of the expectations.

abbrev pub file_of : Job → List ℕ
file_of (Run run) = run.file.now
file_of (Replay replay) = replay.file.now
file_of (Next next) = next.file.now
file_of (Audit audit) = audit.file.now
file_of (Chart chart) = chart.file.now
file_of (Endings search) = search.file.now
file_of (Lint lint) = lint.file.now
file_of (Step step) = step.file.now

abbrev pub list_name_in : Option (Bor (List ℕ)) → Option (List ℕ)
list_name_in None = None
list_name_in (Some schedule) = list_name schedule.now

abbrev pub second_file_of : Job → Option (List ℕ)
second_file_of (Run run) = None
second_file_of (Replay replay) = list_name replay.schedule.now
second_file_of (Next next) = list_name next.schedule.now
second_file_of (Audit audit) = Some audit.trace.now
second_file_of (Chart chart) = Some chart.trace.now
second_file_of (Endings search) = None
second_file_of (Lint lint) = list_name_in lint.schedule
second_file_of (Step step) = Some (codes "-")

abbrev pub expected_of : Job → Option (List ℕ)
expected_of (Run run) = option_copied run.expected
expected_of (Replay replay) = option_copied replay.expected
expected_of (Endings search) = option_copied search.expected
expected_of _ = None

-- The name that the line of a fault or a doubt of a lint begins with, if any.
abbrev pub shown_name : LintJob → Option (List ℕ)
shown_name lint = if lint.is_named then Some lint.file.now else None

-- Whether the lines of a job may be painted. Objects, pictures, pages and diagrams are for programs,
-- and the words of a lint are those of its machine text.

abbrev pub is_text : ChartForm → Bool
is_text Lines = true
is_text Ascii = true
is_text _ = false

abbrev pub may_be_painted : Job → Bool
may_be_painted (Run run) = not run.printed.json
may_be_painted (Replay replay) = not replay.printed.json
may_be_painted (Next next) = not next.json
may_be_painted (Audit audit) = not audit.json
may_be_painted (Chart chart) = is_text chart.form
may_be_painted (Endings search) = not search.json
may_be_painted (Lint lint) = false
may_be_painted (Step step) = true

-- The job without a record, and of which nothing is expected.
abbrev pub alone : Job → Job
alone (Run run) = Run (record run { record_to = None; expected = None })
alone (Replay replay) = Replay (record replay { record_to = None; expected = None })
alone (Endings search) = Endings (record search { expected = None })
alone job = job

-- A chart for an output that may show lines and has this many columns. What the user chose stays.
abbrev pub form_on : (shows_lines : Bool) → ChartForm → ChartForm
form_on true form = form
form_on false Lines = Ascii
form_on false form = form

abbrev pub width_on : (columns width : ℕ) → ℕ
width_on columns width = if width == 0 then columns else width

abbrev pub text_chart_on : (shows_lines : Bool) → (columns : ℕ) → TextChart → TextChart
text_chart_on shows_lines columns chart =
    record chart { shows_lines = shows_lines; width = columns }

abbrev pub chart_on : (shows_lines : Bool) → (columns : ℕ) → Option TextChart → Option TextChart
chart_on shows_lines columns None = None
chart_on shows_lines columns (Some chart) =
    Some (text_chart_on shows_lines columns chart)

abbrev pub printed_on : (shows_lines : Bool) → (columns : ℕ) → Printed → Printed
printed_on shows_lines columns p =
    record p { chart = chart_on shows_lines columns p.chart }

abbrev pub on_output : (shows_lines : Bool) → (columns : ℕ) → Job → Job
on_output shows_lines columns (Run run) =
    Run (record run { printed = printed_on shows_lines columns run.printed })
on_output shows_lines columns (Replay replay) =
    Replay (record replay { printed = printed_on shows_lines columns replay.printed })
on_output shows_lines columns (Chart c) = Chart (record c {
  form = form_on shows_lines c.form;
  width = width_on columns c.width;
})
on_output shows_lines columns (Endings search) = Endings (record search {
  chart = chart_on shows_lines columns search.chart;
})
on_output shows_lines columns (Lint lint) =
    Lint (record lint { is_named = shows_lines && not lint.json })
on_output shows_lines columns (Step step) =
    Step (record step { chart = text_chart_on shows_lines columns step.chart })
on_output shows_lines columns job = job
