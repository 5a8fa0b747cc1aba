-- The answer to a question about all histories, whatever the scheduler does and whatever time passes.
use Rattle.std.specs.Prelude.{Bool, true, false, ◌≡◌, ℕ, zero, suc, Option, None, Some, option_map, List, [], ◌∷◌, ◌++◌, codes, decimal, filter, map, slice_get, Vec}
use Rattle.std.specs.List.{list_all}
use Rattle.std.proofs.Common.{Global}
use Rattle.l4_model.specs.Machine.{Machine}
use Rattle.l4_model.specs.World.{World}
use Rattle.l4_model.specs.Steps.{Step}
use Rattle.l4_model.specs.History.{reached, view, waiting as undecided_sends}
use Rattle.l4_all_endings.specs.Tried.{schedules_from}
use Rattle.l4_expect.specs.Expected.{Expected}
use Rattle.l4_futures.specs.Endings.{length_of, AreAllEndings, HasLooked, IsEnding}
use Rattle.l4_futures.specs.Traces.{trace_along}
use Rattle.l4_reports.specs.ReportLines.{report_text}
use Rattle.l4_trace.specs.Lines.{has_line, trace_of}
use Rattle.l4_types.specs.declared.reports.Ending.TheVariants.{Quiet}
use Rattle.l4_waits.specs.Lines.{waits_text}
use Rattle.l4_words.specs.Lines.{line_of_words}
use Rattle.l4_questions.specs.Asked.{asks, is_asked}
use Rattle.l4_questions.specs.Endings.{Ending}
use Rattle.l4_questions.specs.Limits.{most_looked, question_fault}
use Rattle.l4_questions.specs.Printed.{IsTold}
use Rattle.l4_questions.specs.Resting.{stuck_in}
use Rattle.l4_questions.specs.Stuck.{is_any, stuck_lines, stuck_status, stuck_traces, AreAskedStuck}
use Rattle.l4_stuck.specs.Stuck.{Stuck}
use Rattle.l4_questions.specs.declared.question.Question.{Question}
use Rattle.l4_questions.specs.Beside.{Shown}

-- The histories that entries stand for.
abbrev pub traces_along : Machine → List (Vec ℕ Global) → List (List Step)
traces_along m endings = map (trace_along m) (schedules_from endings)

-- The ending that a trace comes to, in this world. Its first line tells how many of its steps are no
-- ticks.

abbrev pub report_in : Machine → (trace : List Step) → World → List ℕ
report_in m trace w = report_text (view m w) (undecided_sends m w trace) Quiet

abbrev pub ending_in : Machine → (trace : List Step) → World → Ending
ending_in m trace w = record {
  head = codes " steps " ++ decimal (length_of trace);
  report = report_in m trace w;
  waits = waits_text m w;
  machine = m;
  trace = trace;
  stuck = stuck_in m w;
}

abbrev pub no_ending : Machine → (trace : List Step) → Ending
no_ending m trace = record {
  head = [];
  report = [];
  waits = [];
  machine = m;
  trace = trace;
  stuck = [];
}

abbrev pub ending_or_none : Machine → (trace : List Step) → Option World → Ending
ending_or_none m trace None = no_ending m trace
ending_or_none m trace (Some w) = ending_in m trace w

abbrev pub ending_after : Machine → (trace : List Step) → Ending
ending_after m trace = ending_or_none m trace (reached m trace)

abbrev pub endings_after : Machine → (traces : List (List Step)) → List Ending
endings_after m traces = map (ending_after m) traces

-- Where a search is whole and there is no ending at all, that is told.

abbrev pub none_line : List ℕ
none_line = codes "no ending: it goes on for ever\n"

abbrev pub if_none : {A : Type 0} → (endings : List A) → (is_whole : Bool) → List ℕ
if_none [] true = none_line
if_none [] false = []
if_none (e ∷ endings) is_whole = []

-- The number of worlds looked at, the steps of the longest history that was needed, or to which all
-- endings were found, and whether there are no more.

abbrev pub whole_word : (is_whole : Bool) → List ℕ
whole_word true = codes "whole"
whole_word false = codes "cut"

abbrev pub worlds_line : (worlds depth : ℕ) → (is_whole : Bool) → List ℕ
worlds_line worlds depth is_whole =
    line_of_words
    (codes "worlds" ∷ decimal worlds ∷ codes "steps" ∷ decimal depth ∷ whole_word is_whole ∷ [])

abbrev pub last_lines : {A : Type 0} → (endings : List A) → (worlds depth : ℕ) →
    (is_whole : Bool) → List ℕ
last_lines endings worlds depth is_whole =
    if_none endings is_whole ++ worlds_line worlds depth is_whole

-- What a search of this depth among so many worlds has found: all endings that it may find, each
-- once, by a shortest trace, and what it looked at.
pub record AreFound (m : Machine) (q : Question) (traces : List (List Step)) (worlds depth : ℕ)
    (is_whole : Bool) : Type 0 where
  pub all : AreAllEndings m traces depth is_whole
  pub looked : HasLooked m q.depth (most_looked m q) worlds depth is_whole

-- These lines and this status are the answer: those of all endings that the question asks for, and of
-- the threads that may get stuck for ever. It may also ask for a chart of the history that leads to each
-- ending, and who waits for whom there, and expect something of each ending.
pub record IsAnswer (m : Machine) (q : Question) (shown : Shown)
    (expected : Option (List Expected)) (lines unmet : List ℕ) (status : ℕ) : Type 0 where
  pub lawful : question_fault q ≡ None
  pub traces : List (List Step)
  pub worlds : ℕ
  pub depth : ℕ
  pub is_whole : Bool
  pub searched : AreFound m q traces worlds depth is_whole
  pub stuck : List Stuck
  pub is_stuck_whole : Bool
  pub stuck_are : AreAskedStuck m q stuck is_stuck_whole
  pub told_status : ℕ
  pub told :
      IsTold q shown expected (endings_after m traces)
      (stuck_lines m stuck is_stuck_whole ++ last_lines traces worlds depth is_whole)
      is_whole lines unmet told_status
  pub status_is : status ≡ stuck_status q.wanted (is_any stuck) is_stuck_whole told_status

-- The trace of one ending, or of one thread that is stuck for ever

abbrev pub asked_traces : Machine → Question → (traces : List (List Step)) → List (List Step)
asked_traces m q traces = filter (λ trace. is_asked q (ending_after m trace)) traces

-- The element of this number, where the first has the number 1.
abbrev pub numbered : {A : Type 0} → (number : ℕ) → List A → Option A
numbered zero xs = None
numbered (suc before) xs = slice_get xs before

-- These lines are the trace of the ending that an answer gives this number. Without lines it gives
-- the number to none.
pub record IsTraceAnswer (m : Machine) (q : Question) (number : ℕ) (lines : Option (List ℕ)) :
    Type 0 where
  pub lawful : question_fault q ≡ None
  pub traces : List (List Step)
  pub worlds : ℕ
  pub depth : ℕ
  pub is_whole : Bool
  pub searched : AreFound m q traces worlds depth is_whole
  pub stuck : List Stuck
  pub is_stuck_whole : Bool
  pub stuck_are : AreAskedStuck m q stuck is_stuck_whole
  pub told : lines ≡ option_map trace_of
      (numbered number (asked_traces m q traces ++ stuck_traces m stuck))
  -- each step of the trace has a line of its own
  pub spelled : (trace : List Step) →
      numbered number (asked_traces m q traces ++ stuck_traces m stuck) ≡ Some trace →
      list_all has_line trace ≡ true

-- What status 0 says where no such ending should exist: no history comes to an ending that is asked
-- for.
abbrev pub NoneIsReached : Machine → Question → Type 0
NoneIsReached m q =
    (h : List Step) (w : World) → IsEnding m h w →
    asks q (stuck_in m w) (report_in m h w) ≡ false

-- What it says where one should exist: some history comes to an ending that is asked for.
pub record OneIsReached (m : Machine) (q : Question) : Type 0 where
  pub history : List Step
  pub world : World
  pub ending : IsEnding m history world
  pub asked : asks q (stuck_in m world) (report_in m history world) ≡ true
