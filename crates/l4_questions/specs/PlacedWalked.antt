-- The answer by a walk of placed threads: an ending that should not exist, without a search for the
-- others.
use Rattle.std.specs.Prelude.{true, false, ◌≡◌, ◌⊎◌, ◌≤◌, ℕ, Option, None, List, [], ◌∷◌, length}
use Rattle.l4_model.specs.Machine.{Machine}
use Rattle.l4_core_model.specs.Runs.{at_rest}
use Rattle.l4_core_model.specs.Schedules.{Entry}
use Rattle.l4_expect.specs.Expected.{Expected}
use Rattle.l4_states.specs.Endings.{led}
use Rattle.l4_walks.specs.Replays.{IsReplay}
use Rattle.l4_questions.specs.Asked.{is_asked}
use Rattle.l4_questions.specs.Beside.{Shown}
use Rattle.l4_questions.specs.Limits.{question_fault}
use Rattle.l4_questions.specs.Placed.{placed_ending, placed_endings, IsPlacedAnswer}
use Rattle.l4_questions.specs.Printed.{IsTold}
use Rattle.l4_questions.specs.Walked.{walk_line}
use Rattle.l4_questions.specs.declared.question.Question.{Question}
use Rattle.l4_questions.specs.declared.question.Wanted.TheVariants.{NoEnding}

-- No ending should exist that the question asks for, and these entries lead to one. There is perhaps
-- a shorter schedule.
pub record IsPlacedWalked (m : Machine) (q : Question) (entries : List Entry) : Type 0 where
  pub lawful : question_fault q ≡ None
  pub none : q.wanted ≡ NoEnding
  pub replay : IsReplay m entries
  pub rest : at_rest m (led m entries) ≡ true
  pub asked : is_asked q (placed_ending m entries) ≡ true
  pub near : length entries ≤ q.depth

-- These lines and this status tell such an ending, as the only one.
pub record IsPlacedWalkAnswer (m : Machine) (q : Question) (shown : Shown)
    (expected : Option (List Expected)) (lines unmet : List ℕ) (status : ℕ) : Type 0 where
  pub entries : List Entry
  pub walked : IsPlacedWalked m q entries
  pub told :
      IsTold q shown expected (placed_endings m (entries ∷ [])) walk_line false lines unmet status

-- An answer by a search for all endings of placed threads, or by a walk.
abbrev pub IsAnyPlacedAnswer : Machine → Question → Shown → Option (List Expected) →
    (lines unmet : List ℕ) → (status : ℕ) → Type 0
IsAnyPlacedAnswer m q shown expected lines unmet status =
    IsPlacedAnswer m q shown expected lines unmet status
    ⊎ IsPlacedWalkAnswer m q shown expected lines unmet status
