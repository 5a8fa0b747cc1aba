-- What a search for all endings is asked, what it prints, and its faults.
use Rattle.std.specs.Prelude.{◌≡◌, ℕ, not, Option, None, Some, Result, Ok, Err, List, []}
use Rattle.std.specs.Borrow.{Bor}
use Rattle.std.specs.Option.{option_copied, option_map}
use Rattle.l4_model.specs.Machine.{Machine}
use Rattle.l4_chart.specs.Listings.{listing_of}
use Rattle.l4_chart.specs.declared.whole.TextForm.{TextForm}
use Rattle.l4_expect.specs.Conditions.{condition_of}
use Rattle.l4_expect.specs.Expected.{Expected}
use Rattle.l4_expect.specs.declared.expectations.ExpectFault.{ExpectFault}
use Rattle.l4_expect.specs.declared.expectations.ExpectFault.TheVariants as expect_fault
use Rattle.l4_questions.specs.Always.{IsAlwaysAnswer, IsAlwaysTrace}
use Rattle.l4_questions.specs.Limits.{question_fault}
use Rattle.l4_questions.specs.PlacedWalked.{IsAnyPlacedAnswer}
use Rattle.l4_questions.specs.Beside.{AskedChart, Shown}
use Rattle.l4_questions.specs.Walked.{IsAnyAnswer, IsAnyTrace}
use Rattle.l4_questions.specs.declared.question.Question.{Question}
use Rattle.l4_questions.specs.declared.question.QuestionFault.{QuestionFault}
use Rattle.l4_questions.specs.declared.question.QuestionFault.TheVariants as question
use Rattle.l4_questions.specs.declared.question.Wanted.{Wanted}
use Rattle.l4_questions.specs.declared.question.Wanted.TheVariants as wanted
use Rattle.l4_commands.specs.declared.job.EndingsJob.{EndingsJob}
use Rattle.l4_commands.specs.declared.job.Scheduler.{Scheduler}
use Rattle.l4_commands.specs.declared.job.Scheduler.TheVariants.{Any, Placed}
use Rattle.l4_commands.specs.declared.job.TextChart.{TextChart}
use Rattle.l4_commands.specs.declared.job.Wanted.{Wanted as Asked}
use Rattle.l4_commands.specs.declared.job.Wanted.TheVariants as asked
use Rattle.l4_jobs.specs.ChartJobs.{chosen_threads, fault_of_threads, text_width}
use Rattle.l4_jobs.specs.FaultLines.{fault_line}
use Rattle.l4_jobs.specs.Outputs.{Output}
use Rattle.l4_jobs.specs.declared.fault.Fault.{Fault}
use Rattle.l4_jobs.specs.declared.fault.Fault.TheVariants as fault

abbrev pub wanted_of : Asked → Wanted
wanted_of asked.Whatever = wanted.Whatever
wanted_of asked.NoEnding = wanted.NoEnding
wanted_of asked.AnEnding = wanted.AnEnding

abbrev pub question_of : EndingsJob → Question
question_of e = record {
  depth = e.depth;
  states = e.states;
  memory = e.memory;
  stuck = e.stuck;
  rests = e.rests;
  with_line = e.with_line;
  never = e.never;
  wanted = wanted_of e.wanted;
}

-- What is printed of each ending. A chart has 80 columns where the output tells no width.

abbrev pub text_form : TextChart → TextForm
text_form chart = record {
  is_ascii = not chart.shows_lines;
  width = text_width chart.width;
  has_registers = chart.registers;
}

abbrev pub asked_chart : (text : List ℕ) → TextChart → AskedChart
asked_chart text chart = record { form = text_form chart; listing = listing_of text }

abbrev pub shown_of : (text : List ℕ) → EndingsJob → Shown
shown_of text e = record { chart = option_map (asked_chart text) e.chart; waits = e.waits }

-- The answer is of all histories, or of the runs that processors make.
abbrev pub IsAnswerBy : Scheduler → Machine → Question → Shown →
    Option (List Expected) → (lines unmet : List ℕ) → (status : ℕ) → Type 0
IsAnswerBy Any = IsAnyAnswer
IsAnswerBy Placed = IsAnyPlacedAnswer

-- It is printed, and with each ending a chart and who waits for whom, where these are asked for, of the
-- machine that a text declares. Each ending that is printed has to meet what is expected.
pub record IsAnswerDone (search : EndingsJob) (text : List ℕ) (m : Machine)
    (expected : Option (List Expected)) (o : Output) : Type 0 where
  pub answered :
      IsAnswerBy search.scheduler m (question_of search) (shown_of text search) expected o.lines
      o.said o.status
  pub unrecorded : o.list ≡ None

-- A trace is printed, or else it is told that no ending has the number.
abbrev pub IsTraceOut : (trace : Option (List ℕ)) → Output → Type 0
IsTraceOut (Some trace) o = (o.lines ≡ trace) × (o.said ≡ []) × (o.status ≡ 0)
IsTraceOut None o = (o.lines ≡ []) × (o.said ≡ fault_line fault.Ending) × (o.status ≡ 1)

-- The trace of the ending that the answer of all histories gives this number is printed in place of
-- all else.
pub record IsTraceDone (search : EndingsJob) (m : Machine) (number : ℕ) (o : Output) :
    Type 0 where
  pub trace : Option (List ℕ)
  pub answered : IsAnyTrace m (question_of search) number trace
  pub out : IsTraceOut trace o
  pub unrecorded : o.list ≡ None

abbrev pub IsDoneBy : (trace : Option ℕ) → EndingsJob → (text : List ℕ) → Machine →
    Option (List Expected) → Output → Type 0
IsDoneBy None search text m expected o = IsAnswerDone search text m expected o
IsDoneBy (Some number) search text m expected o = IsTraceDone search m number o

-- The threads that may rest are threads of the machine.

abbrev pub fault_of_rests : Machine → EndingsJob → Option Fault
fault_of_rests m e = fault_of_threads (chosen_threads m (option_copied e.rests))

pub record IsEndingsDone (search : EndingsJob) (text : List ℕ) (m : Machine)
    (expected : Option (List Expected)) (o : Output) : Type 0 where
  pub known : fault_of_rests m search ≡ None
  pub done : IsDoneBy search.trace search text m expected o

-- Where it is asked whether a world on the way meets a condition, that answer is printed, or the trace
-- of the history that is told of it.

abbrev pub IsVerdictOut : (trace : Option ℕ) → Machine → Question → (asked : List (List ℕ)) →
    Output → Type 0
IsVerdictOut None m q asked o = IsAlwaysAnswer m q asked o.lines o.said o.status
IsVerdictOut (Some number) m q asked o =
    (trace : Option (List ℕ)) × IsAlwaysTrace m q asked number trace × IsTraceOut trace o

pub record IsVerdictDone (search : EndingsJob) (condition : List ℕ) (m : Machine) (o : Output) :
    Type 0 where
  pub asked : List (List ℕ)
  pub is : condition_of condition ≡ Ok asked
  pub out : IsVerdictOut search.trace m (question_of search) asked o
  pub unrecorded : o.list ≡ None

abbrev pub IsSearchDoneBy : (condition : Option (Bor (List ℕ))) → EndingsJob → (text : List ℕ) →
    Machine → Option (List Expected) → Output → Type 0
IsSearchDoneBy None search text m expected o = IsEndingsDone search text m expected o
IsSearchDoneBy (Some condition) search text m expected o = IsVerdictDone search condition.now m o

abbrev pub IsSearchDone : EndingsJob → (text : List ℕ) → Machine → Option (List Expected) →
    Output → Type 0
IsSearchDone search text m expected o = IsSearchDoneBy search.always search text m expected o

-- The faults of a search: of its condition or of the threads that may rest, and then of the lines that
-- are asked for and of its limits.

abbrev pub fault_of_question : QuestionFault → Fault
fault_of_question question.NoMemory = fault.NoMemory
fault_of_question (question.Line line wrong) = fault.Condition line wrong
fault_of_question question.Depth = fault.Depth
fault_of_question question.States = fault.States
fault_of_question question.Memory = fault.Memory

abbrev pub fault_of_limits : EndingsJob → Option Fault
fault_of_limits e = option_map fault_of_question (question_fault (question_of e))

abbrev pub fault_of_condition : ExpectFault → Fault
fault_of_condition expect_fault.NoMemory = fault.NoMemory
fault_of_condition (expect_fault.Line line wrong) = fault.Condition line wrong

abbrev pub fault_before : Result (List (List ℕ)) ExpectFault → Option Fault → Option Fault
fault_before (Err f) other = Some (fault_of_condition f)
fault_before (Ok asked) other = other

abbrev pub first_fault : Option Fault → Option Fault → Option Fault
first_fault None other = other
first_fault (Some f) other = Some f

abbrev pub fault_of_endings : Machine → EndingsJob → Option Fault
fault_of_endings m e = first_fault (fault_of_rests m e) (fault_of_limits e)

abbrev pub fault_by : (condition : Option (Bor (List ℕ))) → Machine → EndingsJob → Option Fault
fault_by None m e = fault_of_endings m e
fault_by (Some condition) m e = fault_before (condition_of condition.now) (fault_of_limits e)

abbrev pub fault_of_search : Machine → EndingsJob → Option Fault
fault_of_search m e = fault_by e.always m e
