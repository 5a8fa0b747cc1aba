-- What a question asks of core runs that come to rest, whether a search lists them or not.
use Rattle.std.specs.Prelude.{Bool, true, false, ◌≡◌, ◌<◌, ℕ, Option, None, Some, is_none, List, length}
use Rattle.std.specs.Option.{option_copied}
use Rattle.l4_model.specs.Machine.{Machine}
use Rattle.l4_core_model.specs.Runs.{Action, Run, at_rest, core_run, opening_run}
use Rattle.l4_core_model.specs.Schedules.{Entry}
use Rattle.l4_bisimilar.specs.Shifted.{IsShifted}
use Rattle.l4_states.specs.Choices.{AreLeastTicks}
use Rattle.l4_states.specs.Endings.{ending_at, led}
use Rattle.l4_persistent.specs.Rests.{clock_at, horizon}
use Rattle.l4_lines.specs.Lines.{line_fault}
use Rattle.l4_questions.specs.Asked.{is_asked}
use Rattle.l4_questions.specs.Placed.{is_asked_after, placed_ending}
use Rattle.l4_questions.specs.declared.question.Question.{Question}

-- A core run that comes to rest, and whose ticks go to least deadlines. Its clocks are below 2^61:
-- 73,000 years.
pub record ComesToRest (m : Machine) (r : Run) : Type 0 where
  pub actions : List Action
  pub is : core_run m (opening_run m) actions ≡ Some r
  pub ticks : AreLeastTicks m (opening_run m) actions
  pub rest : at_rest m r.system ≡ true
  pub soon : (cpu : ℕ) → clock_at r.system cpu < horizon

-- The lines that a question asks for, if any, are lines that may be asked for.

abbrev pub may_ask : Option (List ℕ) → Bool
may_ask None = true
may_ask (Some line) = is_none (line_fault line)

pub record AsksForLines (q : Question) : Type 0 where
  pub with_line : may_ask (option_copied q.with_line) ≡ true
  pub never : may_ask (option_copied q.never) ≡ true

-- A listed ending stands for this run: it is similar, and asked for exactly where the run is.
pub record StandsFor (m : Machine) (q : Question) (endings : List (List Entry))
    (r : Run) : Type 0 where
  pub place : ℕ
  pub inside : place < length endings
  pub similar : IsShifted (led m (ending_at endings place)) r.system
  pub asked : is_asked q (placed_ending m (ending_at endings place)) ≡ is_asked_after m q r

-- No core run that comes to rest, and whose ticks go to least deadlines, is asked for.
abbrev pub NoneIsAsked : Machine → Question → Type 0
NoneIsAsked m q = (r : Run) → ComesToRest m r → is_asked_after m q r ≡ false
