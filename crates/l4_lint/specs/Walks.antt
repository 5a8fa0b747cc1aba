-- The operands of a line from left to right.
use Rattle.std.specs.Prelude.{ℕ, Bool, not, ◌||◌, ◌==◌, if◌then◌else◌, Option, Some, None, List, []}
use Rattle.std.specs.Prelude.{◌∷◌, length}
use Rattle.l4_lint.specs.declared.hints.Operand.{Operand}
use Rattle.l4_lint.specs.declared.walks.Test.{Test}
use Rattle.l4_lint.specs.declared.walks.Test.TheVariants as test
use Rattle.l4_lint.specs.Bytes.{word_of, behind}
use Rattle.l4_lint.specs.Contexts.{Context}
use Rattle.l4_lint.specs.Judging.{is_right, is_keyword}

-- A word is there; where a keyword is wanted, the word is right; the word is right.
abbrev pub passes : Test → Context → Operand → (word : List ℕ) → Bool
passes test.Present c operand word = not (length word == 0)
passes test.Keyword c operand word = not (is_keyword operand) || is_right c operand word
passes test.Right c operand word = is_right c operand word

-- The first operand that does not pass and the rest of the line from there, or what stands behind
-- all of them.
pub record Walked : Type 0 where
  pub rest : List ℕ
  pub failed : Option Operand

abbrev pub walked : (rest : List ℕ) → Option Operand → Walked
walked rest failed = record { rest = rest; failed = failed }

abbrev pub walk : Test → Context → List Operand → (rest : List ℕ) → Walked
walk t c [] rest = walked rest None
walk t c (operand ∷ others) rest =
    if passes t c operand (word_of rest) then walk t c others (behind rest)
    else walked rest (Some operand)
