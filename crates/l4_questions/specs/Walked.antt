-- The answer by a walk: an ending that should not exist, without a search for the others.
use Rattle.std.specs.Prelude.{true, false, ◌≡◌, ◌⊎◌, ◌≤◌, ℕ, Option, None, Some, option_map, List, [], ◌∷◌, codes}
use Rattle.std.specs.List.{list_all}
use Rattle.l4_model.specs.Machine.{Machine}
use Rattle.l4_model.specs.World.{World}
use Rattle.l4_model.specs.Steps.{Step}
use Rattle.l4_expect.specs.Expected.{Expected}
use Rattle.l4_futures.specs.Endings.{length_of, IsEnding}
use Rattle.l4_trace.specs.Lines.{has_line, trace_of}
use Rattle.l4_questions.specs.Answers.{ending_after, endings_after, numbered, IsAnswer, IsTraceAnswer}
use Rattle.l4_questions.specs.Asked.{is_asked}
use Rattle.l4_questions.specs.Beside.{Shown}
use Rattle.l4_questions.specs.Limits.{question_fault}
use Rattle.l4_questions.specs.Printed.{IsTold}
use Rattle.l4_questions.specs.declared.question.Question.{Question}
use Rattle.l4_questions.specs.declared.question.Wanted.TheVariants.{NoEnding}

-- No ending should exist that the question asks for, and this history comes to one. It is perhaps not
-- a shortest history.
pub record IsWalked (m : Machine) (q : Question) (trace : List Step) : Type 0 where
  pub lawful : question_fault q ≡ None
  pub none : q.wanted ≡ NoEnding
  pub world : World
  pub ending : IsEnding m trace world
  pub asked : is_asked q (ending_after m trace) ≡ true
  pub near : length_of trace ≤ q.depth

abbrev pub walk_line : List ℕ
walk_line = codes "found by a walk, perhaps not the shortest; no others were looked for\n"

-- These lines and this status tell such an ending, as the only one.
pub record IsWalkAnswer (m : Machine) (q : Question) (shown : Shown)
    (expected : Option (List Expected)) (lines unmet : List ℕ) (status : ℕ) : Type 0 where
  pub trace : List Step
  pub walked : IsWalked m q trace
  pub told :
      IsTold q shown expected (endings_after m (trace ∷ [])) walk_line false lines unmet status

-- An answer by a search for all endings, or by a walk.
abbrev pub IsAnyAnswer : Machine → Question → Shown → Option (List Expected) →
    (lines unmet : List ℕ) → (status : ℕ) → Type 0
IsAnyAnswer m q shown expected lines unmet status =
    IsAnswer m q shown expected lines unmet status
    ⊎ IsWalkAnswer m q shown expected lines unmet status

-- These lines are a trace where it is asked for by the number 1.
pub record IsFirstTrace (trace : List Step) (number : ℕ) (lines : Option (List ℕ)) : Type 0 where
  pub told : lines ≡ option_map trace_of (numbered number (trace ∷ []))
  -- each step of the trace has a line of its own
  pub spelled : numbered number (trace ∷ []) ≡ Some trace → list_all has_line trace ≡ true

-- The ending that a walk came to has the number 1.
pub record IsWalkTrace (m : Machine) (q : Question) (number : ℕ) (lines : Option (List ℕ)) :
    Type 0 where
  pub trace : List Step
  pub walked : IsWalked m q trace
  pub first : IsFirstTrace trace number lines

abbrev pub IsAnyTrace : Machine → Question → (number : ℕ) → (lines : Option (List ℕ)) → Type 0
IsAnyTrace m q number lines = IsTraceAnswer m q number lines ⊎ IsWalkTrace m q number lines
