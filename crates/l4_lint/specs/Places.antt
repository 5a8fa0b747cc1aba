-- A place in a line.
use Rattle.std.specs.Prelude.{ℕ, ◌+◌, ◌-◌, List, length}
use Rattle.l4_lint.specs.declared.hints.Hint.{Hint}
use Rattle.l4_lint.specs.Bytes.{word_of}

-- The column of the first byte, counted from 1, or 0 where the fault is of no line. The word that
-- stands there, empty where none does. What is said about it.
pub record Place : Type 0 where
  pub column : ℕ
  pub word : List ℕ
  pub hint : Hint

abbrev pub placed : (column : ℕ) → (word : List ℕ) → Hint → Place
placed column word hint = record { column = column; word = word; hint = hint }

-- The word with which the rest of a line begins.
abbrev pub place_at : (line rest : List ℕ) → Hint → Place
place_at line rest hint = placed (length line - length rest + 1) (word_of rest) hint
