-- What is told of an answer while its endings are searched for.
use Rattle.std.specs.Prelude.{Bool, true, false, ◌≡◌, ◌≤◌, ◌⊎◌, ℕ, Option, None, Some, List, [], ◌++◌, length, take}
use Rattle.l4_model.specs.Machine.{Machine}
use Rattle.l4_model.specs.Steps.{Step}
use Rattle.l4_core_model.specs.Schedules.{Entry}
use Rattle.l4_futures.specs.Endings as histories
use Rattle.l4_persistent.specs.Endings as placed
use Rattle.l4_questions.specs.Answers.{endings_after}
use Rattle.l4_questions.specs.Beside.{Shown}
use Rattle.l4_questions.specs.Endings.{Ending}
use Rattle.l4_questions.specs.Limits.{question_fault}
use Rattle.l4_questions.specs.Placed.{placed_endings}
use Rattle.l4_questions.specs.Printed.{endings_text}
use Rattle.l4_questions.specs.declared.question.Question.{Question}
use Rattle.l4_questions.specs.declared.question.QuestionFault.TheVariants.{NoMemory}
use Rattle.l4_questions.specs.declared.teller.TellFault.{TellFault}
use Rattle.l4_questions.specs.declared.teller.TellFault.TheVariants.{NoAnswer, NotTold}

-- What telling these bytes came to. `all` says whether all of them were taken.
abbrev pub Takes : Type 1
Takes = (bytes : List ℕ) → (all : Bool) → Type 0

-- A vector keeps what it is told.
abbrev pub MayAppend : (old new bytes : List ℕ) → (all : Bool) → Type 0
MayAppend old new bytes true = new ≡ old ++ bytes
MayAppend old new bytes false = Unit {0}

-- What was told on the way, and these lines, which are left, are the lines of an answer.
pub record IsToldFirst (takes : Takes) (is_answer : (lines : List ℕ) → Type 0)
    (left : List ℕ) : Type 0 where
  pub told : List ℕ
  pub taken : takes told true
  pub answer : is_answer (told ++ left)

-- Of these endings the first so many were told, those of them that are asked for, each with its
-- number. Where not all was taken, it was a beginning of that.
pub record AreToldFirst (takes : Takes) (q : Question) (shown : Shown) (endings : List Ending)
    (all : Bool) : Type 0 where
  pub count : ℕ
  pub within : count ≤ length endings
  pub taken : takes (endings_text shown q (take count endings)) all

-- A search that was not carried to its end has found all endings to which histories of at most so
-- many steps come, or none. The first of them were told.
pub record HasBegun (takes : Takes) (m : Machine) (q : Question) (shown : Shown)
    (all : Bool) : Type 0 where
  pub lawful : question_fault q ≡ None
  pub traces : List (List Step)
  pub depth : ℕ
  pub are : (traces ≡ []) ⊎ histories.AreAllEndings m traces depth false
  pub told : AreToldFirst takes q shown (endings_after m traces) all

-- The same of the runs that processors make by schedules.
pub record PlacedHasBegun (takes : Takes) (m : Machine) (q : Question) (shown : Shown)
    (all : Bool) : Type 0 where
  pub lawful : question_fault q ≡ None
  pub endings : List (List Entry)
  pub depth : ℕ
  pub are : (endings ≡ []) ⊎ placed.AreAllEndings m endings depth false
  pub told : AreToldFirst takes q shown (placed_endings m endings) all

-- Why an answer was not told to its end: not all was taken, memory was refused on the way, or the
-- question is out of range, and nothing was told.
abbrev pub BreaksOff : Takes → Question → (begun : (all : Bool) → Type 0) → TellFault → Type 0
BreaksOff takes q begun NotTold = begun false
BreaksOff takes q begun (NoAnswer fault) =
    ((fault ≡ NoMemory) × begun true) ⊎ ((question_fault q ≡ Some fault) × takes [] true)
