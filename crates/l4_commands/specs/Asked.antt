-- What the words of the command line ask for.
use Rattle.std.specs.Prelude.{◌≡◌, ◌≢◌, ◌⊎◌, ◌&&◌, ◌||◌, ℕ, Bool, true, false, ⊤, if◌then◌else◌, not, Option, Some, None, is_none, is_some, IsSomeAnd, List, [], ◌∷◌, ◌++◌, codes, option_map, option_and_then}
use Rattle.std.specs.Option.{option_copied}
use Rattle.std.specs.Str.{bytes_eq}
use Rattle.std.specs.String.{string_bytes}
use Rattle.std.specs.Str.Parse.{digits_value, without_leading_plus}
use Rattle.clap.specs.Words.{Row, Text, first_of, found_of, one_of, rows_of, subcommand_of}
use Rattle.clap.specs.Kinds.{Kinds, IsAmong}
use Rattle.clap.specs.declared.error.kind.ErrorKind.{ErrorKind}
use Rattle.clap.specs.declared.error.kind.ErrorKind.TheVariants.{DisplayHelp, DisplayVersion, ArgumentConflict}
use Rattle.clap.specs.declared.parser.matches.ArgMatches.{ArgMatches}
use Rattle.l4_lines.specs.Lines.{line_fault}
use Rattle.l4_lines.specs.declared.lines.LineFault.{LineFault}
use Rattle.l4_lines.specs.declared.lines.LineFault.TheVariants.{Unknown, Deleted, Number}
use Rattle.l4_commands.specs.Commands.{faults_of, l4run_app}
use Rattle.l4_commands.specs.Files.{is_input, list_name}
use Rattle.l4_commands.specs.declared.asked.Conflict.{Conflict}
use Rattle.l4_commands.specs.declared.asked.Conflict.TheVariants.{Arguments, Line}
use Rattle.l4_commands.specs.declared.asked.Flags.{Flags}
use Rattle.l4_commands.specs.declared.job.AuditJob.{AuditJob}
use Rattle.l4_commands.specs.declared.job.ChartForm.{ChartForm}
use Rattle.l4_commands.specs.declared.job.ChartForm.TheVariants.{Lines, Ascii, Svg, Html, Mermaid}
use Rattle.l4_commands.specs.declared.job.ChartJob.{ChartJob}
use Rattle.l4_commands.specs.declared.job.Colours.{Colours}
use Rattle.l4_commands.specs.declared.job.Colours.TheVariants.{Auto, Always, Never}
use Rattle.l4_commands.specs.declared.job.EndingsJob.{EndingsJob}
use Rattle.l4_commands.specs.declared.job.Extras.{Extras}
use Rattle.l4_commands.specs.declared.job.Job.{Job}
use Rattle.l4_commands.specs.declared.job.Job.TheVariants.{Run, Replay, Next, Audit, Chart, Endings, Lint, Step}
use Rattle.l4_commands.specs.declared.job.Judged.{Judged}
use Rattle.l4_commands.specs.declared.job.LintJob.{LintJob}
use Rattle.l4_commands.specs.declared.job.NextJob.{NextJob}
use Rattle.l4_commands.specs.declared.job.Printed.{Printed}
use Rattle.l4_commands.specs.declared.job.ReplayJob.{ReplayJob}
use Rattle.l4_commands.specs.declared.job.RunJob.{RunJob}
use Rattle.l4_commands.specs.declared.job.Scheduler.{Scheduler}
use Rattle.l4_commands.specs.declared.job.StepJob.{StepJob}
use Rattle.l4_commands.specs.declared.job.Scheduler.TheVariants.{Any, Placed}
use Rattle.l4_commands.specs.declared.job.TextChart.{TextChart}
use Rattle.l4_commands.specs.declared.job.Wanted.{Wanted}
use Rattle.l4_commands.specs.declared.job.Wanted.TheVariants.{Whatever, NoEnding, AnEnding}
use Rattle.l4_commands.specs.declared.texts.TheConstants.{INPUT_TWICE, INPUT_OF_STEPS, SCHEDULE_OF_RUN, RECORD_AND_EXPECT, TURNS_ALONE, NEXT_BESIDE, OVER_ITS_FILE, TWO_FORMS, UNKNOWN_LINE, DELETED_LINE, NUMBER_LINE, NONE_AND_SOME, RESTS_ALONE, ALWAYS_BESIDE, TRACE_BESIDE, CHART_AND_JSON, CHART_BESIDE, COLOUR_WORDS, REGISTERS_ALONE}
use Rattle.l4_commands.specs.declared.words.WordsFault.{WordsFault}
use Rattle.l4_commands.specs.declared.words.WordsFault.TheVariants.{Help, Usage, NoMemory}

-- The rows in the matches of a subcommand.
abbrev pub rows_in : ArgMatches → List Row
rows_in matches = rows_of (found_of matches)

-- What they have: a number, an option that was given a value, a flag that is on.

abbrev pub number_of : Text → ℕ
number_of text = digits_value 10 (without_leading_plus text)

abbrev pub number_in : (name : Text) → List Row → Option ℕ
number_in name rows = option_map number_of (one_of name rows)

abbrev pub has_value : (name : Text) → List Row → Bool
has_value name rows = is_some (first_of name rows)

abbrev pub is_on : Option Text → Bool
is_on None = false
is_on (Some text) = bytes_eq text (codes "true")

abbrev pub has_flag : (name : Text) → List Row → Bool
has_flag name rows = is_on (one_of name rows)

-- What is printed last, of a run or a replay, and of an audit.
abbrev pub extras_in : List Row → Extras
extras_in rows = record {
  waits = has_flag (codes "waits") rows;
  counts = has_flag (codes "counts") rows;
}

-- The chart that is drawn of a run, a replay or an ending is for a terminal that shows lines, until the
-- output is known.
abbrev pub lines_chart : (registers : Bool) → TextChart
lines_chart registers = record { shows_lines = true; width = 0; registers = registers }

abbrev pub text_chart : (asked registers : Bool) → Option TextChart
text_chart true registers = Some (lines_chart registers)
text_chart false registers = None

abbrev pub chart_in : List Row → Option TextChart
chart_in rows = text_chart (has_flag (codes "chart") rows) (has_flag (codes "registers") rows)

abbrev pub printed_in : List Row → Printed
printed_in rows = record {
  report = has_flag (codes "report") rows;
  chart = chart_in rows;
  extras = extras_in rows;
  json = has_flag (codes "json") rows;
}

abbrev pub judged_in : List Row → Judged
judged_in rows = record {
  report = has_flag (codes "report") rows;
  explain = has_flag (codes "explain") rows;
  extras = extras_in rows;
}

-- The job of each subcommand, a line for each of its parts.

pub record IsRunOf (rows : List Row) (run : RunJob) : Type 0 where
  pub file : Some run.file.now ≡ first_of (codes "file") rows
  pub turns : Some run.turns ≡ number_in (codes "turns") rows
  pub printed : run.printed ≡ printed_in rows
  pub record_to : option_copied run.record_to ≡ first_of (codes "record") rows
  pub expected : option_copied run.expected ≡ first_of (codes "expect") rows

-- For how many turns a replay goes on, if it does. `--turns` without `--then-rest` is not allowed.
abbrev pub rest_turns : (goes_on : Bool) → (given : Option Text) → (turns : Option ℕ) →
    Option (Option ℕ)
rest_turns false None turns = Some None
rest_turns false (Some given) turns = None
rest_turns true None turns = Some (Some 100000)
rest_turns true (Some given) turns = option_map Some turns

abbrev pub rest_in : List Row → Option (Option ℕ)
rest_in rows =
    rest_turns (has_flag (codes "then-rest") rows) (first_of (codes "turns") rows)
    (number_in (codes "turns") rows)

pub record IsReplayOf (rows : List Row) (replay : ReplayJob) : Type 0 where
  pub file : Some replay.file.now ≡ first_of (codes "file") rows
  pub schedule : Some replay.schedule.now ≡ first_of (codes "schedule") rows
  pub then_rest : Some replay.then_rest ≡ rest_in rows
  pub printed : replay.printed ≡ printed_in rows
  pub record_to : option_copied replay.record_to ≡ first_of (codes "record") rows
  pub expected : option_copied replay.expected ≡ first_of (codes "expect") rows

pub record IsNextOf (rows : List Row) (next : NextJob) : Type 0 where
  pub file : Some next.file.now ≡ first_of (codes "file") rows
  pub schedule : Some next.schedule.now ≡ first_of (codes "schedule") rows
  pub json : next.json ≡ has_flag (codes "json") rows

pub record IsAuditOf (rows : List Row) (audit : AuditJob) : Type 0 where
  pub file : Some audit.file.now ≡ first_of (codes "file") rows
  pub trace : Some audit.trace.now ≡ first_of (codes "trace") rows
  pub judged : audit.judged ≡ judged_in rows
  pub json : audit.json ≡ has_flag (codes "json") rows

-- At most one form of a chart is allowed. Without any, it is a text with lines.
abbrev pub form_by : (ascii svg html mermaid : Bool) → Option ChartForm
form_by false false false false = Some Lines
form_by true false false false = Some Ascii
form_by false true false false = Some Svg
form_by false false true false = Some Html
form_by false false false true = Some Mermaid
form_by _ _ _ _ = None

abbrev pub form_of : Flags → Option ChartForm
form_of f = form_by f.ascii f.svg f.html f.mermaid

abbrev pub flags_in : List Row → Flags
flags_in rows = record {
  ascii = has_flag (codes "ascii") rows;
  svg = has_flag (codes "svg") rows;
  html = has_flag (codes "html") rows;
  mermaid = has_flag (codes "mermaid") rows;
}

pub record IsChartOf (rows : List Row) (chart : ChartJob) : Type 0 where
  pub file : Some chart.file.now ≡ first_of (codes "file") rows
  pub trace : Some chart.trace.now ≡ first_of (codes "trace") rows
  pub first : Some chart.first ≡ number_in (codes "from") rows
  pub last : Some chart.last ≡ number_in (codes "to") rows
  pub threads : option_copied chart.threads ≡ first_of (codes "threads") rows
  pub form : Some chart.form ≡ form_of (flags_in rows)
  pub width : Some chart.width ≡ number_in (codes "width") rows
  pub registers : chart.registers ≡ has_flag (codes "registers") rows
  pub folds : chart.folds ≡ has_flag (codes "fold") rows

-- Under whom threads run, how many endings should exist, and the ending whose trace is asked for.

abbrev pub scheduler_by : (placed : Bool) → Scheduler
scheduler_by true = Placed
scheduler_by false = Any

abbrev pub wanted_by : (none some : Bool) → Option Wanted
wanted_by false false = Some Whatever
wanted_by true false = Some NoEnding
wanted_by false true = Some AnEnding
wanted_by true true = None

abbrev pub traced_by : (given : Option Text) → (number : Option ℕ) → Option (Option ℕ)
traced_by None number = Some None
traced_by (Some given) number = option_map Some number

abbrev pub traced_in : List Row → Option (Option ℕ)
traced_in rows =
    traced_by (first_of (codes "trace") rows) (number_in (codes "trace") rows)

pub record IsSearchOf (rows : List Row) (search : EndingsJob) : Type 0 where
  pub file : Some search.file.now ≡ first_of (codes "file") rows
  pub scheduler : search.scheduler ≡ scheduler_by (has_flag (codes "placed") rows)
  pub depth : Some search.depth ≡ number_in (codes "depth") rows
  pub states : Some search.states ≡ number_in (codes "states") rows
  pub memory : Some search.memory ≡ number_in (codes "memory") rows
  pub stuck : search.stuck ≡ has_flag (codes "stuck") rows
  pub rests : option_copied search.rests ≡ first_of (codes "rests") rows
  pub with_line : option_copied search.with_line ≡ first_of (codes "with") rows
  pub never : option_copied search.never ≡ first_of (codes "never") rows
  pub wanted :
      Some search.wanted ≡ wanted_by (has_flag (codes "none") rows) (has_flag (codes "some") rows)
  pub always : option_copied search.always ≡ first_of (codes "always") rows
  pub chart : search.chart ≡ chart_in rows
  pub waits : search.waits ≡ has_flag (codes "waits") rows
  pub expected : option_copied search.expected ≡ first_of (codes "expect") rows
  pub trace : Some search.trace ≡ traced_in rows
  pub json : search.json ≡ has_flag (codes "json") rows

pub record IsLintOf (rows : List Row) (lint : LintJob) : Type 0 where
  pub file : Some lint.file.now ≡ first_of (codes "file") rows
  pub schedule : option_copied lint.schedule ≡ first_of (codes "schedule") rows
  pub unnamed : lint.is_named ≡ false
  pub json : lint.json ≡ has_flag (codes "json") rows

pub record IsStepOf (rows : List Row) (step : StepJob) : Type 0 where
  pub file : Some step.file.now ≡ first_of (codes "file") rows
  pub chart : step.chart ≡ lines_chart (has_flag (codes "registers") rows)

-- The job that the matches ask for, by the name of the subcommand.
abbrev pub IsJobOf : (verb : Text) → List Row → Job → Type 0
IsJobOf verb rows (Run run) = (verb ≡ codes "run") × IsRunOf rows run
IsJobOf verb rows (Replay replay) =
    (verb ≡ codes "replay") × (has_flag (codes "next") rows ≡ false) × IsReplayOf rows replay
IsJobOf verb rows (Next next) =
    (verb ≡ codes "replay") × (has_flag (codes "next") rows ≡ true) × IsNextOf rows next
IsJobOf verb rows (Audit audit) = (verb ≡ codes "audit") × IsAuditOf rows audit
IsJobOf verb rows (Chart chart) = (verb ≡ codes "chart") × IsChartOf rows chart
IsJobOf verb rows (Endings search) = (verb ≡ codes "endings") × IsSearchOf rows search
IsJobOf verb rows (Lint lint) = (verb ≡ codes "lint") × IsLintOf rows lint
IsJobOf verb rows (Step step) = (verb ≡ codes "step") × IsStepOf rows step

abbrev pub IsJobIn : Option (Text × List Row) → Job → Type 0
IsJobIn found job = IsSomeAnd found (λ p. IsJobOf p.0 p.1 job)

-- The job that the words ask for, as clap reads them.
abbrev pub IsAsked : (words : List Text) → Job → Type 0
IsAsked words job = IsJobIn (subcommand_of l4run_app words) job

-- Where lines are painted, by the word of `--color`. None by any other word.

abbrev pub colours_of : (word : Text) → Option Colours
colours_of word =
    if bytes_eq word (codes "auto") then Some Auto
    else (if bytes_eq word (codes "always") then Some Always
    else (if bytes_eq word (codes "never") then Some Never else None))

abbrev pub colours_by : (word : Option Text) → Option Colours
colours_by None = Some Auto
colours_by (Some word) = colours_of word

abbrev pub colours_in : List Row → Option Colours
colours_in rows = colours_by (first_of (codes "color") rows)

abbrev pub colours_found : Option (Text × List Row) → Option Colours
colours_found found = option_and_then (λ p. colours_in p.1) found

abbrev pub colours_asked : (words : List Text) → Option Colours
colours_asked words = colours_found (subcommand_of l4run_app words)

-- What is told of words that clap accepts, though they ask for no job.

abbrev pub reason : LineFault → Text
reason Unknown = UNKNOWN_LINE.now
reason Deleted = DELETED_LINE.now
reason Number = NUMBER_LINE.now

abbrev pub line_text : (line reason : Text) → Text
line_text line reason = codes "error: invalid line '" ++ (line ++ (codes "': " ++ reason))

abbrev pub usage_text : Conflict → Text
usage_text (Arguments text) = text.now
usage_text (Line line fault) = line_text line.now (reason fault)

-- Whether the schedule would overwrite the machine text. `-` is a file where it is written, and the
-- standard input where it is read.
abbrev pub is_same : (file name : Option Text) → Bool
is_same (Some file) (Some name) = bytes_eq name file && not (is_input file)
is_same file name = false

abbrev pub is_over_file : List Row → Bool
is_over_file rows = is_same (first_of (codes "file") rows) (first_of (codes "record") rows)

-- Of a record over the machine text, or beside what is expected.
abbrev pub record_told : List Row → Option Text
record_told rows =
    if is_over_file rows then Some OVER_ITS_FILE.now
    else (if has_value (codes "record") rows && has_value (codes "expect") rows
    then Some RECORD_AND_EXPECT.now else None)

-- A chart is drawn in place of a report, and its lines are no objects. What changes in registers is
-- told in a chart.
abbrev pub is_chart_beside : List Row → Bool
is_chart_beside rows =
    has_flag (codes "chart") rows
    && (has_flag (codes "report") rows || has_flag (codes "json") rows)

abbrev pub has_registers_alone : List Row → Bool
has_registers_alone rows =
    has_flag (codes "registers") rows && not (has_flag (codes "chart") rows)

abbrev pub drawn_told : List Row → Option Text
drawn_told rows =
    if is_chart_beside rows then Some CHART_BESIDE.now
    else (if has_registers_alone rows then Some REGISTERS_ALONE.now else record_told rows)

-- Of a run whose arguments exclude each other, or that has a schedule, which it does not take.
abbrev pub run_told : List Row → Option Text
run_told rows =
    if has_value (codes "schedule") rows then Some SCHEDULE_OF_RUN.now else drawn_told rows

-- What may happen next is printed in place of what the others print, judge or record.
abbrev pub is_next_beside : List Row → Bool
is_next_beside rows =
    has_flag (codes "next") rows
    && (has_flag (codes "then-rest") rows || has_value (codes "turns") rows
    || has_flag (codes "report") rows || has_flag (codes "chart") rows
    || has_flag (codes "waits") rows || has_flag (codes "counts") rows
    || has_value (codes "record") rows || has_value (codes "expect") rows)

abbrev pub has_turns_alone : List Row → Bool
has_turns_alone rows = has_value (codes "turns") rows && not (has_flag (codes "then-rest") rows)

-- Of a replay whose arguments exclude each other.
abbrev pub replay_told : List Row → Option Text
replay_told rows =
    if is_next_beside rows then Some NEXT_BESIDE.now
    else (if has_turns_alone rows then Some TURNS_ALONE.now else drawn_told rows)

abbrev pub chart_told : List Row → Option Text
chart_told rows = if is_none (form_of (flags_in rows)) then Some TWO_FORMS.now else None

-- Of a line that can't be searched for: no report has it, or runs to one ending may differ in it.
abbrev pub line_told : Option Text → Option Text
line_told None = None
line_told (Some line) = option_map (λ fault. line_text line (reason fault)) (line_fault line)

abbrev pub or_else : Option Text → Option Text → Option Text
or_else None other = other
or_else (Some text) other = Some text

abbrev pub lines_told : List Row → Option Text
lines_told rows =
    or_else (line_told (first_of (codes "with") rows)) (line_told (first_of (codes "never") rows))

-- Threads may rest where `--stuck` would ask for them. `--none` and `--some` exclude each other.
-- `--trace` is printed in place of what the others print or judge, and a placed search has no trace.

abbrev pub has_rests_alone : List Row → Bool
has_rests_alone rows = has_value (codes "rests") rows && not (has_flag (codes "stuck") rows)

abbrev pub is_none_and_some : List Row → Bool
is_none_and_some rows = has_flag (codes "none") rows && has_flag (codes "some") rows

abbrev pub is_trace_beside : List Row → Bool
is_trace_beside rows =
    has_value (codes "trace") rows
    && (has_flag (codes "placed") rows || has_flag (codes "some") rows
    || has_flag (codes "chart") rows || has_flag (codes "waits") rows
    || has_value (codes "expect") rows)

-- It is asked whether a world meets a condition in place of what endings there are.
abbrev pub is_always_beside : List Row → Bool
is_always_beside rows =
    has_value (codes "always") rows
    && (has_flag (codes "some") rows || has_flag (codes "none") rows
    || has_value (codes "with") rows || has_value (codes "never") rows
    || has_flag (codes "stuck") rows || has_flag (codes "placed") rows
    || has_flag (codes "chart") rows || has_flag (codes "waits") rows
    || has_value (codes "expect") rows)

abbrev pub is_chart_and_json : List Row → Bool
is_chart_and_json rows = has_flag (codes "chart") rows && has_flag (codes "json") rows

-- A line that can't be searched for is told first.
abbrev pub endings_told : List Row → Option Text
endings_told rows =
    or_else (lines_told rows)
    (if is_always_beside rows then Some ALWAYS_BESIDE.now
    else (if has_rests_alone rows then Some RESTS_ALONE.now
    else (if is_none_and_some rows then Some NONE_AND_SOME.now
    else (if is_trace_beside rows then Some TRACE_BESIDE.now
    else (if is_chart_and_json rows then Some CHART_AND_JSON.now
    else (if has_registers_alone rows then Some REGISTERS_ALONE.now else None))))))

-- Whether the standard input, which can be read only once, is named more than once. A job reads a
-- machine text, a trace or a schedule, and expectations.
abbrev pub is_input_of : Option Text → Bool
is_input_of None = false
is_input_of (Some name) = is_input name

abbrev pub names_input : (name : Text) → List Row → Bool
names_input name rows = is_input_of (first_of name rows)

abbrev pub lists_input : List Row → Bool
lists_input rows = is_input_of (option_and_then list_name (first_of (codes "schedule") rows))

abbrev pub are_two : (first second third : Bool) → Bool
are_two first second third = (first && (second || third)) || (second && third)

abbrev pub names_input_twice : List Row → Bool
names_input_twice rows =
    are_two (names_input (codes "file") rows)
    (names_input (codes "trace") rows || lists_input rows) (names_input (codes "expect") rows)

-- A session reads its lines from the standard input, so no text can come from there.
abbrev pub step_told : List Row → Option Text
step_told rows = if names_input (codes "file") rows then Some INPUT_OF_STEPS.now else None

-- What is told where the arguments of a subcommand ask for no job, though clap accepts them.
abbrev pub told_in : Text × List Row → Option Text
told_in p =
    if names_input_twice p.1 then Some INPUT_TWICE.now
    else (if is_none (colours_in p.1) then Some COLOUR_WORDS.now
    else (if bytes_eq p.0 (codes "run") then run_told p.1
    else (if bytes_eq p.0 (codes "replay") then replay_told p.1
    else (if bytes_eq p.0 (codes "chart") then chart_told p.1
    else (if bytes_eq p.0 (codes "endings") then endings_told p.1
    else (if bytes_eq p.0 (codes "step") then step_told p.1
    else None))))))

abbrev pub excluded_by : Option Text → Kinds
excluded_by None = []
excluded_by (Some text) = ArgumentConflict ∷ []

-- What is told of words that clap accepts and that ask for no job.
abbrev pub told_of : (words : List Text) → Option Text
told_of words = option_and_then told_in (subcommand_of l4run_app words)

-- All faults that the words may have, among them requests for help. A job has none of them.
abbrev pub wrong_in : (words : List Text) → Kinds
wrong_in words = faults_of words ++ excluded_by (told_of words)

-- Why there is no job. Help, or the version, is answered only where the words ask for it, and usage
-- only where they are wrong.
abbrev pub IsRefusal : Kinds → WordsFault → Type 0
IsRefusal kinds (Help text) = (kind : ErrorKind) × IsAmong kind kinds ×
    ((kind ≡ DisplayHelp) ⊎ (kind ≡ DisplayVersion))
IsRefusal kinds (Usage text) = (kind : ErrorKind) × IsAmong kind kinds × (kind ≢ DisplayHelp) ×
    (kind ≢ DisplayVersion)
IsRefusal kinds NoMemory = ⊤

-- A usage text is this one.
abbrev pub Tells : Option Text → WordsFault → Type 0
Tells told (Usage text) = told ≡ Some (string_bytes text)
Tells told fault = ⊤
