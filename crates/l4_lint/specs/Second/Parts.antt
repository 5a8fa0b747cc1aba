-- The parts of a line with scripts of version 2.
use Rattle.std.specs.Prelude.{ℕ, Bool, ◌==◌, if◌then◌else◌, Option, Some, None, List}
use Rattle.std.specs.List.{before_first}
use Rattle.l4_script.specs.Second.Lines.{ends_with_byte, first_of, others_of, without_first_blanks}
use Rattle.l4_script.specs.Second.Lines.{without_last, without_last_blanks, without_return}
use Rattle.l4_lint.specs.Reading as first

-- A line up to the end of what it says; what stands there behind blanks; the name in front of that,
-- without its `:`; and the words behind it.
pub record Parts : Type 0 where
  pub front : List ℕ
  pub said : List ℕ
  pub label : Option (List ℕ)
  pub words : List ℕ

abbrev pub parts : (front said : List ℕ) → (label : Option (List ℕ)) → (words : List ℕ) → Parts
parts front said label words =
    record { front = front; said = said; label = label; words = words }

abbrev pub front_of : (line : List ℕ) → List ℕ
front_of line = without_last_blanks (before_first (λ byte. byte == 59) (without_return line))

abbrev pub parts_in : (front said : List ℕ) → Parts
parts_in front said = if ends_with_byte 58 (first_of said)
    then parts front said (Some (without_last (first_of said))) (others_of said)
    else parts front said None said

abbrev pub parts_of : (line : List ℕ) → Parts
parts_of line = parts_in (front_of line) (without_first_blanks (front_of line))

abbrev pub words_of : (line : List ℕ) → List ℕ
words_of line = (parts_of line).words

abbrev pub begins_script : (line : List ℕ) → Bool
begins_script line = first.begins_script (words_of line)
