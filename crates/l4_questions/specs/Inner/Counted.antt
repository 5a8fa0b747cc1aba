-- What is counted of endings.
use Rattle.std.specs.Prelude.{◌≡◌, Bool, true, false, ℕ, Option, List, [], ◌∷◌, ◌++◌, length}
use Rattle.l4_expect.specs.Expected.{Expected}
use Rattle.l4_questions.specs.Answers.{none_line, worlds_line}
use Rattle.l4_questions.specs.Asked.{asked_of}
use Rattle.l4_questions.specs.Endings.{Ending}
use Rattle.l4_questions.specs.Printed.{all_unmet}
use Rattle.l4_questions.specs.declared.judged.Told.{Told}
use Rattle.l4_questions.specs.declared.question.Question.{Question}

abbrev pub has_any : {A : Type 0} → List A → Bool
has_any [] = false
has_any (x ∷ xs) = true

-- The last lines of a search that has found an ending or none
abbrev pub none_line_if : (is_any is_whole : Bool) → List ℕ
none_line_if false true = none_line
none_line_if false false = []
none_line_if true is_whole = []

abbrev pub last_lines_if : (is_any : Bool) → (worlds depth : ℕ) → (is_whole : Bool) → List ℕ
last_lines_if is_any worlds depth is_whole =
    none_line_if is_any is_whole ++ worlds_line worlds depth is_whole

-- How many of these are asked for, and what of them is not met.
pub record IsCounted (q : Question) (expected : Option (List Expected)) (endings : List Ending)
    (t : Told) : Type 0 where
  pub unmet : t.unmet.items ≡ all_unmet expected q endings
  pub count : t.count ≡ length (asked_of q endings)
