-- What no world on the way may tell.
use Rattle.std.specs.Prelude.{ℕ, Bool, ◌==◌, ◌+◌, ◌-◌, nat_eq, if◌then◌else◌, is_none, Option, None, Some, Result, Ok, Err, List, [], ◌∷◌, ◌++◌, codes, drop, length, take}
use Rattle.std.specs.List.{ends_with, list_all, slice_split, starts_with}
use Rattle.l4_lines.specs.Lines.{line_fault}
use Rattle.l4_expect.specs.Judging.{wrong_told}
use Rattle.l4_expect.specs.declared.expectations.ExpectFault.{ExpectFault}
use Rattle.l4_expect.specs.declared.expectations.ExpectFault.TheVariants.{Line}
use Rattle.l4_expect.specs.declared.judging.Wrong.{Wrong}
use Rattle.l4_expect.specs.declared.judging.Wrong.TheVariants.{BadLine}

-- Behind `never` stand lines with ` & ` between them. No world may tell all of them.

abbrev pub without_space_before : List ℕ → List ℕ
without_space_before part = if starts_with nat_eq part (codes " ") then drop 1 part else part

abbrev pub without_space_behind : List ℕ → List ℕ
without_space_behind part =
    if ends_with nat_eq part (codes " ") then take (length part - 1) part else part

abbrev pub line_in : (part : List ℕ) → List ℕ
line_in part = without_space_behind (without_space_before part)

-- The parts of what is left of a text, if anything is left. `&`, byte 38, separates them.
abbrev pub parts_left : Option (List ℕ) → List (List ℕ)
parts_left None = []
parts_left (Some text) = slice_split (λ byte. byte == 38) text

-- The lines so far and those of the parts that are left, or the first faulty line, counted from 1.

abbrev pub or_line : (number : ℕ) → Option Wrong → Result (List (List ℕ)) ExpectFault →
    Result (List (List ℕ)) ExpectFault
or_line number None rest = rest
or_line number (Some wrong) rest = Err (Line number wrong)

abbrev pub read_parts : (lines : List (List ℕ)) → (parts : List (List ℕ)) →
    Result (List (List ℕ)) ExpectFault
read_parts lines [] = Ok lines
read_parts lines (part ∷ parts) =
    or_line (length lines + 1) (wrong_told (line_in part))
    (read_parts (lines ++ line_in part ∷ []) parts)

-- The lines of a condition. Without `never` the first one is faulty.
abbrev pub condition_of : (text : List ℕ) → Result (List (List ℕ)) ExpectFault
condition_of text =
    if starts_with nat_eq text (codes "never ") then read_parts [] (parts_left (Some (drop 6 text)))
    else Err (Line 1 BadLine)

-- Worlds as good as each other tell these lines alike.
abbrev pub may_be_judged : (lines : List (List ℕ)) → Bool
may_be_judged lines = list_all (λ line. is_none (line_fault line)) lines
