-- What a search that was carried to its end has told.
use Rattle.std.specs.Prelude.{Bool, true, ◌≡◌, ℕ, Option, None, List}
use Rattle.l4_model.specs.Machine.{Machine}
use Rattle.l4_model.specs.Steps.{Step}
use Rattle.l4_core_model.specs.Schedules.{Entry}
use Rattle.l4_all_endings.specs.declared.search.Looked.{Looked}
use Rattle.l4_endings.specs.declared.endings_of.Looked as placed
use Rattle.l4_expect.specs.Expected.{Expected}
use Rattle.l4_questions.specs.Answers.{endings_after, AreFound}
use Rattle.l4_questions.specs.Beside.{Shown}
use Rattle.l4_questions.specs.Inner.Counted.{has_any, IsCounted}
use Rattle.l4_questions.specs.Placed.{placed_endings, ArePlaced}
use Rattle.l4_questions.specs.Printed.{endings_text}
use Rattle.l4_questions.specs.Told.{Takes}
use Rattle.l4_questions.specs.declared.judged.Told.{Told}
use Rattle.l4_questions.specs.declared.question.Question.{Question}

-- All endings that are asked for were told, and are counted.

pub record AreAllTold (takes : Takes) (m : Machine) (q : Question) (shown : Shown)
    (expected : Option (List Expected)) (looked : Looked) (told : Told) : Type 0 where
  pub traces : List (List Step)
  pub found : AreFound m q traces looked.worlds looked.depth looked.is_whole
  pub taken : takes (endings_text shown q (endings_after m traces)) true
  pub counted : IsCounted q expected (endings_after m traces) told
  pub any : told.is_any ≡ has_any traces

pub record AreAllPlacedTold (takes : Takes) (m : Machine) (q : Question) (shown : Shown)
    (expected : Option (List Expected)) (looked : placed.Looked) (told : Told) : Type 0 where
  pub endings : List (List Entry)
  pub found : ArePlaced m q endings looked.states looked.depth looked.is_whole
  pub taken : takes (endings_text shown q (placed_endings m endings)) true
  pub counted : IsCounted q expected (placed_endings m endings) told
