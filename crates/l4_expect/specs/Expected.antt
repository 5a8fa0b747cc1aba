-- What a text expects of a report.
use Rattle.std.specs.Prelude.{Bool, ◌==◌, ◌+◌, nat_eq, if◌then◌else◌, ℕ, Option, None, Some, Result, Ok, Err, List, [], ◌∷◌, ◌++◌, codes, drop, length}
use Rattle.std.specs.List.{starts_with}
use Rattle.l4_words.specs.Lines.{parts_of}
use Rattle.l4_script.specs.Judged.{Judged}
use Rattle.l4_script.specs.Lines.{line_of}
use Rattle.l4_expect.specs.declared.expectations.ExpectFault.{ExpectFault}
use Rattle.l4_expect.specs.declared.expectations.ExpectFault.TheVariants.{Line}
use Rattle.l4_expect.specs.declared.judging.Scope.{Scope}
use Rattle.l4_expect.specs.declared.judging.Wrong.{Wrong}
use Rattle.l4_expect.specs.declared.judging.Wrong.TheVariants.{BadLine}
use Rattle.l4_expect.specs.Judging.{wrong_asked}

-- The line of the text, counted from 1; whether the report must not have such a line; and the line
-- that is asked for.
pub record Expected : Type 0 where
  pub number : ℕ
  pub never : Bool
  pub asked : List ℕ

-- Behind `never` stands what the report must not have.

abbrev pub is_never : (line : List ℕ) → Bool
is_never line = starts_with nat_eq line (codes "never ")

abbrev pub asked_in : (line : List ℕ) → List ℕ
asked_in line = if is_never line then drop 6 line else line

abbrev pub expected_in : (number : ℕ) → (line : List ℕ) → Expected
expected_in number line =
    record { number = number; never = is_never line; asked = asked_in line }

-- The expectations so far with that of a line, or why the line is faulty. A line is split into
-- words as in a machine text, so an empty line and a comment expect nothing.

abbrev pub unless_wrong : (number : ℕ) → Option Wrong → List Expected →
    Result (List Expected) ExpectFault
unless_wrong number None found = Ok found
unless_wrong number (Some wrong) found = Err (Line number wrong)

abbrev pub after_asked : Scope → (number : ℕ) → (line : List ℕ) → (found : List Expected) →
    Result (List Expected) ExpectFault
after_asked scope number line found =
    unless_wrong number (wrong_asked scope (asked_in line))
    (found ++ expected_in number line ∷ [])

abbrev pub after_words : Scope → (number : ℕ) → (line : List ℕ) → (found : List Expected) →
    Judged (Option (List (List ℕ))) → Result (List Expected) ExpectFault
after_words scope number line found (Err kind) = Err (Line number BadLine)
after_words scope number line found (Ok None) = Ok found
after_words scope number line found (Ok (Some words)) = after_asked scope number line found

abbrev pub after_line : Scope → (number : ℕ) → (line : List ℕ) → (found : List Expected) →
    Result (List Expected) ExpectFault
after_line scope number line found = after_words scope number line found (line_of line)

-- What stands behind the last line end is empty, or a faulty line.
abbrev pub ended : (number : ℕ) → (last : List ℕ) → (found : List Expected) →
    Result (List Expected) ExpectFault
ended number last found = if length last == 0 then Ok found else Err (Line number BadLine)

abbrev pub led_on : Result (List Expected) ExpectFault →
    (List Expected → Result (List Expected) ExpectFault) → Result (List Expected) ExpectFault
led_on (Ok found) rest = rest found
led_on (Err fault) rest = Err fault

-- The expectations so far, with those of the lines that are left, or the first faulty line.
abbrev pub read : Scope → (parts : List (List ℕ)) → (number : ℕ) → (found : List Expected) →
    Result (List Expected) ExpectFault
read scope [] number found = Ok found
read scope (last ∷ []) number found = ended number last found
read scope (line ∷ next ∷ parts) number found =
    led_on (after_line scope number line found)
    (λ more. read scope (next ∷ parts) (number + 1) more)

-- What a text expects, in order of its lines, or its first faulty line.
abbrev pub expectations_of : Scope → (text : List ℕ) → Result (List Expected) ExpectFault
expectations_of scope text = read scope (parts_of text) 1 []

-- What the lines expect, the first of which has this number.

abbrev pub expected_by : (number : ℕ) → (line : List ℕ) → Judged (Option (List (List ℕ))) →
    List Expected
expected_by number line (Ok (Some words)) = expected_in number line ∷ []
expected_by number line _ = []

abbrev pub expected_from : (number : ℕ) → (lines : List (List ℕ)) → List Expected
expected_from number [] = []
expected_from number (line ∷ lines) =
    expected_by number line (line_of line) ++ expected_from (number + 1) lines

-- The line of an expectation, written again.
abbrev pub line_again : Expected → List ℕ
line_again e = if e.never then codes "never " ++ e.asked else e.asked
