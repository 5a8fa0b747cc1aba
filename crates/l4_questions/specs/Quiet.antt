-- What is said of runs that come to rest, where all endings were searched for.
use Rattle.std.specs.Prelude.{◌≡◌, false, Some, List}
use Rattle.l4_model.specs.Machine.{Machine}
use Rattle.l4_model.specs.World.{World}
use Rattle.l4_model.specs.Steps.{Step}
use Rattle.l4_model.specs.History.{reached}
use Rattle.l4_types.specs.declared.reports.Ending.TheVariants.{Quiet}
use Rattle.l4_futures.specs.Endings.{length_of, IsListed}
use Rattle.l4_machine.specs.Outcomes.{Findings}
use Rattle.l4_questions.specs.Answers.{report_in}
use Rattle.l4_questions.specs.Asked.{asks}
use Rattle.l4_questions.specs.Resting.{stuck_in}
use Rattle.l4_questions.specs.declared.question.Question.{Question}

-- If the ending of a run is quiet, a listed trace leads to a world as good as the one it came to.
abbrev pub QuietIsListed : Machine → (traces : List (List Step)) → Findings → Type 0
QuietIsListed m traces o =
    o.ending ≡ Quiet → (w : World) → reached m o.history ≡ Some w →
    IsListed m traces w (length_of o.history)

-- If it is quiet, the question does not ask for the world that the run came to.
abbrev pub QuietIsNotAsked : Machine → Question → Findings → Type 0
QuietIsNotAsked m q o =
    o.ending ≡ Quiet → (w : World) → reached m o.history ≡ Some w →
    asks q (stuck_in m w) (report_in m o.history w) ≡ false
