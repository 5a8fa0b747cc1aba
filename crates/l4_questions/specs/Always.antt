-- The answer to the question whether a world on the way meets a condition.
use Rattle.std.specs.Prelude.{◌≡◌, ℕ, Bool, true, false, Option, None, Some, option_map, List, [], ◌∷◌, ◌++◌, codes, decimal}
use Rattle.std.specs.List.{list_all}
use Rattle.l4_model.specs.Machine.{Machine}
use Rattle.l4_model.specs.Steps.{Step}
use Rattle.l4_always.specs.Always.{IsVerdict, world_told}
use Rattle.l4_always.specs.declared.search.Met.{Met}
use Rattle.l4_always.specs.declared.search.Verdict.{Verdict}
use Rattle.l4_futures.specs.Choices.{world_after}
use Rattle.l4_futures.specs.Endings.{length_of}
use Rattle.l4_futures.specs.Traces.{trace_along}
use Rattle.l4_trace.specs.Lines.{has_line, trace_of}
use Rattle.l4_questions.specs.Answers.{numbered, worlds_line}
use Rattle.l4_questions.specs.Limits.{most_looked, question_fault}
use Rattle.l4_questions.specs.Printed.{status_of_search}
use Rattle.l4_questions.specs.declared.question.Question.{Question}

-- Where a world meets it, a line tells how many steps but ticks lead there, and that there may be
-- fewer where that is not known. Behind it stand the lines that this world tells.

abbrev pub or_fewer : (is_shortest : Bool) → List ℕ
or_fewer true = []
or_fewer false = codes " or fewer"

abbrev pub met_line : Machine → Met → List ℕ
met_line m met =
    codes "met, steps "
    ++ (decimal (length_of (trace_along m met.entries.items))
    ++ (or_fewer met.is_shortest ++ codes "\n"))

abbrev pub met_text : Machine → Met → List ℕ
met_text m met = met_line m met ++ world_told m (world_after m met.entries.items)

-- Else a line tells whether no history meets it.
abbrev pub unmet_line : (is_whole : Bool) → List ℕ
unmet_line true = codes "never met\n"
unmet_line false = codes "not met: cut\n"

abbrev pub verdict_text : Machine → Option Met → (is_whole : Bool) → List ℕ
verdict_text m (Some met) is_whole = met_text m met
verdict_text m None is_whole = unmet_line is_whole

-- 4 where a world meets it, 0 where no history does, and 3 where that is not known.
abbrev pub verdict_status : Option Met → (is_whole : Bool) → ℕ
verdict_status (Some met) is_whole = 4
verdict_status None is_whole = status_of_search is_whole

-- These lines and this status are the answer. Last the search tells of itself. Nothing is expected of
-- it that is not met.
pub record IsAlwaysAnswer (m : Machine) (q : Question) (asked : List (List ℕ))
    (lines unmet : List ℕ) (status : ℕ) : Type 0 where
  pub lawful : question_fault q ≡ None
  pub verdict : Verdict
  pub is : IsVerdict m asked q.depth (most_looked m q) verdict
  pub told :
      lines
      ≡ verdict_text m verdict.met verdict.is_whole
      ++ worlds_line verdict.worlds verdict.depth verdict.is_whole
  pub unmet_are : unmet ≡ []
  pub status_is : status ≡ verdict_status verdict.met verdict.is_whole

-- The history that is told of it has the number 1.
abbrev pub met_traces : Machine → Option Met → List (List Step)
met_traces m None = []
met_traces m (Some met) = trace_along m met.entries.items ∷ []

-- These lines are the trace of the history of this number. Without lines there is none.
pub record IsAlwaysTrace (m : Machine) (q : Question) (asked : List (List ℕ)) (number : ℕ)
    (lines : Option (List ℕ)) : Type 0 where
  pub lawful : question_fault q ≡ None
  pub verdict : Verdict
  pub is : IsVerdict m asked q.depth (most_looked m q) verdict
  pub told : lines ≡ option_map trace_of (numbered number (met_traces m verdict.met))
  -- each step of the trace has a line of its own
  pub spelled : (trace : List Step) → numbered number (met_traces m verdict.met) ≡ Some trace →
      list_all has_line trace ≡ true
