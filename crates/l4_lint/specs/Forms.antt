-- The place of a line's fault.
use Rattle.std.specs.Prelude.{ℕ, ◌+◌, true, ◌||◌, ◌==◌, nat_eq, if◌then◌else◌, Option, Some, None}
use Rattle.std.specs.Prelude.{List, [], length, codes, slice_index, slice_range}
use Rattle.std.specs.List.{starts_with}
use Rattle.l4_script.specs.declared.text.fault.TextFaultKind.{TextFaultKind}
use Rattle.l4_script.specs.declared.text.fault.TextFaultKind.TheVariants as kinds
use Rattle.l4_script.specs.Lines.{has_empty_word}
use Rattle.l4_lint.specs.declared.hints.Hint.{Hint}
use Rattle.l4_lint.specs.declared.hints.Hint.TheVariants as hints
use Rattle.l4_lint.specs.declared.hints.Lines.{Lines}
use Rattle.l4_lint.specs.declared.hints.Operand.{Operand}
use Rattle.l4_lint.specs.declared.hints.Operand.TheVariants as operand
use Rattle.l4_lint.specs.declared.walks.Test.TheVariants as test
use Rattle.l4_lint.specs.Bytes.{word_of, behind, bad_byte, byte_hint, clear}
use Rattle.l4_lint.specs.Commands.{operands_of}
use Rattle.l4_lint.specs.Contexts.{Context}
use Rattle.l4_lint.specs.Judging.{operand_hint}
use Rattle.l4_lint.specs.Places.{Place, placed, place_at}
use Rattle.l4_lint.specs.Walks.{Walked, walk}

-- The hint for a first word that begins none of these lines.
abbrev pub first_hint : Lines → (word : List ℕ) → Hint
first_hint which word =
    if starts_with nat_eq word (codes "#") || starts_with nat_eq word (codes "//")
    then hints.OtherComment else hints.Begins which

-- A comment, which begins with `;`, stands on a line of its own.
abbrev pub surplus_hint : (rest : List ℕ) → Hint
surplus_hint rest =
    if starts_with nat_eq rest (codes ";") then hints.CommentBehind else hints.Surplus

-- The number of words is right, but a keyword is wrong.
abbrev pub keyword_place : Context → (line rest : List ℕ) → (failed : Option Operand) → Place
keyword_place c line rest None = place_at line line (hints.Begins c.lines)
keyword_place c line rest (Some wanted) = place_at line rest (hints.Wanted wanted)

abbrev pub keywords_place : Context → (line : List ℕ) → Walked → Place
keywords_place c line w = keyword_place c line w.rest w.failed

-- A word is missing or surplus, or else a keyword is wrong.
abbrev pub count_place : Context → (line : List ℕ) → List Operand → (rest : List ℕ) →
    (failed : Option Operand) → Place
count_place c line operands rest (Some wanted) = place_at line rest (hints.Wanted wanted)
count_place c line operands rest None =
    if length rest == 0 then keywords_place c line (walk test.Keyword c operands (behind line))
    else place_at line rest (surplus_hint rest)

abbrev pub counted_place : Context → (line : List ℕ) → List Operand → Walked → Place
counted_place c line operands w = count_place c line operands w.rest w.failed

abbrev pub words_place : Context → (line : List ℕ) → Option (List Operand) → Place
words_place c line None = place_at line line (first_hint c.lines (word_of line))
words_place c line (Some operands) =
    counted_place c line operands (walk test.Present c operands (behind line))

-- A space is surplus, or else the words are wrong.
abbrev pub spaced_place : Context → (line : List ℕ) → Place
spaced_place c line =
    if has_empty_word line then placed (clear true line + 1) [] hints.Space
    else words_place c line (operands_of c.lines (word_of line))

-- A byte is not printable, or else the spaces or the words are wrong.
abbrev pub form_place : Context → (number : ℕ) → (line : List ℕ) → (bad : Option ℕ) → Place
form_place c number line None = spaced_place c line
form_place c number line (Some index) =
    placed (index + 1) (slice_range line index (index + 1))
    (byte_hint number line (slice_index line index))

-- The first wrong operand from the left.
abbrev pub operand_place : Context → TextFaultKind → (line rest : List ℕ) →
    (failed : Option Operand) → Place
operand_place c k line rest None = place_at line line (hints.Begins c.lines)
operand_place c k line rest (Some wanted) =
    place_at line rest (operand_hint k wanted (word_of rest))

abbrev pub walked_place : Context → TextFaultKind → (line : List ℕ) → Walked → Place
walked_place c k line w = operand_place c k line w.rest w.failed

abbrev pub operands_place : Context → TextFaultKind → (line : List ℕ) → Option (List Operand) →
    Place
operands_place c k line None = place_at line line (hints.Begins c.lines)
operands_place c k line (Some operands) =
    walked_place c k line (walk test.Right c operands (behind line))

-- The place of the fault of this kind, in the line of this number.
abbrev pub line_place : Context → (number : ℕ) → (line : List ℕ) → TextFaultKind → Place
line_place c number line kinds.BadLine = form_place c number line (bad_byte line)
line_place c number line kinds.DoubleId = place_at line (behind line) hints.DoubleNumber
line_place c number line kinds.TooManyThreads = place_at line line hints.ManyThreads
line_place c number line kinds.TooManyInstructions = place_at line line hints.ManyInstructions
line_place c number line kinds.BadTarget = place_at line (behind line) (hints.Wanted operand.Place)
line_place c number line k = operands_place c k line (operands_of c.lines (word_of line))
