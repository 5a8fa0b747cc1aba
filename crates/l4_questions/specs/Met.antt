-- What is said of all endings where each that was found meets what is expected.
use Rattle.std.specs.Prelude.{true, ◌≡◌, Some, List}
use Rattle.l4_model.specs.Machine.{Machine}
use Rattle.l4_model.specs.World.{World}
use Rattle.l4_model.specs.Steps.{Step}
use Rattle.l4_model.specs.History.{reached}
use Rattle.l4_core_model.specs.Runs.{Run}
use Rattle.l4_types.specs.declared.reports.Ending.TheVariants.{Quiet}
use Rattle.l4_futures.specs.Endings.{IsEnding}
use Rattle.l4_machine.specs.Outcomes.{Findings}
use Rattle.l4_expect.specs.Expected.{Expected}
use Rattle.l4_expect.specs.Unmet.{are_met}
use Rattle.l4_questions.specs.Answers.{report_in}
use Rattle.l4_questions.specs.Asked.{asks}
use Rattle.l4_questions.specs.Placed.{is_asked_after, report_of_run}
use Rattle.l4_questions.specs.Resting.{stuck_in}
use Rattle.l4_questions.specs.Runs.{ComesToRest}
use Rattle.l4_questions.specs.declared.question.Question.{Question}

-- Each ending that a history comes to meets what is expected, if the question asks for it.
abbrev pub EachIsMet : Machine → Question → List Expected → Type 0
EachIsMet m q expected =
    (h : List Step) (w : World) → IsEnding m h w →
    asks q (stuck_in m w) (report_in m h w) ≡ true →
    are_met (report_in m h w) expected ≡ true

-- If the ending of a run is quiet, the world that it came to meets it, if the question asks for it.
abbrev pub QuietIsMet : Machine → Question → List Expected → Findings → Type 0
QuietIsMet m q expected o =
    o.ending ≡ Quiet → (w : World) → reached m o.history ≡ Some w →
    asks q (stuck_in m w) (report_in m o.history w) ≡ true →
    are_met (report_in m o.history w) expected ≡ true

-- So does each core run that comes to rest, and whose ticks go to least deadlines.
abbrev pub EachRunIsMet : Machine → Question → List Expected → Type 0
EachRunIsMet m q expected =
    (r : Run) → ComesToRest m r → is_asked_after m q r ≡ true →
    are_met (report_of_run m r) expected ≡ true
