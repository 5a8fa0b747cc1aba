-- Which endings a question asks for.
use Rattle.std.specs.Prelude.{Bool, true, false, not, ◌&&◌, ℕ, Option, None, Some, List, filter}
use Rattle.std.specs.List.{list_any}
use Rattle.std.specs.Option.{option_copied}
use Rattle.l4_model.specs.Words.{GlobalId}
use Rattle.l4_lines.specs.Lines.{has_line}
use Rattle.l4_questions.specs.Endings.{Ending}
use Rattle.l4_questions.specs.Resting.{counts}
use Rattle.l4_questions.specs.declared.question.Question.{Question}

-- The conditions of a question, of what is stuck and of the lines of a report.

abbrev pub if_stuck : (asked is : Bool) → Bool
if_stuck true is = is
if_stuck false is = true

abbrev pub has_asked : Option (List ℕ) → (report : List ℕ) → Bool
has_asked None report = true
has_asked (Some line) report = has_line line report

abbrev pub lacks_asked : Option (List ℕ) → (report : List ℕ) → Bool
lacks_asked None report = true
lacks_asked (Some line) report = not (has_line line report)

abbrev pub asks : Question → (stuck : List GlobalId) → (report : List ℕ) → Bool
asks q stuck report =
    if_stuck q.stuck (list_any (counts q) stuck)
    && has_asked (option_copied q.with_line) report
    && lacks_asked (option_copied q.never) report

abbrev pub is_asked : Question → Ending → Bool
is_asked q e = asks q e.stuck e.report

abbrev pub asked_of : Question → List Ending → List Ending
asked_of q endings = filter (is_asked q) endings
