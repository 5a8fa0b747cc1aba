-- The place of the fault of a line with scripts of version 2.
use Rattle.std.specs.Prelude.{ℕ, ◌+◌, ◌-◌, Bool, true, false, not, ◌&&◌, ◌||◌, ◌==◌, nat_eq, nat_le}
use Rattle.std.specs.Prelude.{if◌then◌else◌, Option, Some, None, is_some, is_ok, List, [], ◌∷◌}
use Rattle.std.specs.Prelude.{length, codes, slice_index, slice_range}
use Rattle.std.specs.List.{position, starts_with}
use Rattle.l4_model.specs.Words.{W64}
use Rattle.l4_script.specs.declared.text.fault.TextFaultKind.{TextFaultKind}
use Rattle.l4_script.specs.declared.text.fault.TextFaultKind.TheVariants as kinds
use Rattle.l4_script.specs.Lines.{has_empty_word}
use Rattle.l4_script.specs.Second.Lines.{without_return}
use Rattle.l4_script.specs.Second.Names.{is_name}
use Rattle.l4_script.specs.Second.Texts.{Reading, Stage, Start, Processors, Threads, has_thread}
use Rattle.l4_script.specs.Second.Texts.{may_label}
use Rattle.l4_lint.specs.declared.hints.Hint.{Hint}
use Rattle.l4_lint.specs.declared.hints.Hint.TheVariants as hints
use Rattle.l4_lint.specs.declared.hints.Lines.{Lines}
use Rattle.l4_lint.specs.declared.hints.Lines.TheVariants as these
use Rattle.l4_lint.specs.declared.hints.Operand.{Operand}
use Rattle.l4_lint.specs.declared.hints.Operand.TheVariants as operand
use Rattle.l4_lint.specs.declared.walks.Test.{Test}
use Rattle.l4_lint.specs.declared.walks.Test.TheVariants as test
use Rattle.l4_lint.specs.Bytes.{bad_byte, behind, byte_hint, clear, word_of}
use Rattle.l4_lint.specs.Contexts.{Context, context}
use Rattle.l4_lint.specs.Judging.{is_keyword}
use Rattle.l4_lint.specs.Places.{Place, placed, place_at}
use Rattle.l4_lint.specs.Second.Commands.{operands_of, target_in}
use Rattle.l4_lint.specs.Second.Judging.{is_double, is_right, operand_hint, thread_in}
use Rattle.l4_lint.specs.Second.Names.{name_hint}
use Rattle.l4_lint.specs.Second.Parts.{Parts, parts_of}
use Rattle.l4_lint.specs.Walks.{Walked, walked}

-- What the lines before a line say about it: which lines may stand there, the format of words, and
-- the number of processors; and what was read behind the first two lines.

abbrev pub lines_in : (begun : Bool) → Lines
lines_in begun = if begun then these.Script else these.Names

abbrev pub context_at : Stage → (lost : Bool) → Context
context_at Start lost = context these.Format W64 0
context_at (Processors heading) lost = context these.Processors heading.format 0
context_at (Threads r) lost =
    context (lines_in (lost || has_thread r)) r.format r.machine.cpus

abbrev pub reading_in : Stage → Option Reading
reading_in (Threads r) = Some r
reading_in stage = None

-- The operands of a line from left to right, as in version 1.

abbrev pub passes : Test → Context → Option Reading → (words : List ℕ) → Operand →
    (word : List ℕ) → Bool
passes test.Present c r words operand word = not (length word == 0)
passes test.Keyword c r words operand word =
    not (is_keyword operand) || is_right c r words operand word
passes test.Right c r words operand word = is_right c r words operand word

abbrev pub walk : Test → Context → Option Reading → (words : List ℕ) → List Operand →
    (rest : List ℕ) → Walked
walk t c r words [] rest = walked rest None
walk t c r words (operand ∷ others) rest =
    if passes t c r words operand (word_of rest) then walk t c r words others (behind rest)
    else walked rest (Some operand)

abbrev pub walk_all : Test → Context → Option Reading → List Operand → (words : List ℕ) → Walked
walk_all t c r operands words = walk t c r words operands words

-- What is said of a line that may not stand there: none may behind a thread with the script of
-- another.

abbrev pub is_heir : Option Reading → Bool
is_heir None = false
is_heir (Some r) = is_some r.heir_of

abbrev pub line_hint : Context → Option Reading → Hint
line_hint c r = if is_heir r then hints.OfHeir else hints.Begins c.lines

abbrev pub line_at : Context → Option Reading → Parts → Place
line_at c r p = place_at p.front p.words (line_hint c r)

-- A word is missing or surplus, or else a keyword is wrong.

abbrev pub keyword_place : Context → Option Reading → Parts → (rest : List ℕ) →
    (failed : Option Operand) → Place
keyword_place c r p rest None = line_at c r p
keyword_place c r p rest (Some wanted) = place_at p.front rest (hints.Wanted wanted)

abbrev pub keywords_place : Context → Option Reading → Parts → Walked → Place
keywords_place c r p w = keyword_place c r p w.rest w.failed

abbrev pub count_place : Context → Option Reading → Parts → List Operand → (rest : List ℕ) →
    (failed : Option Operand) → Place
count_place c r p operands rest (Some wanted) = place_at p.front rest (hints.Wanted wanted)
count_place c r p operands rest None =
    if length rest == 0
    then keywords_place c r p (walk_all test.Keyword c r operands (behind p.words))
    else place_at p.front rest hints.Surplus

abbrev pub counted_place : Context → Option Reading → Parts → List Operand → Walked → Place
counted_place c r p operands w = count_place c r p operands w.rest w.failed

abbrev pub is_other_comment : (words : List ℕ) → Bool
is_other_comment words =
    starts_with nat_eq words (codes "#") || starts_with nat_eq words (codes "//")

abbrev pub words_place : Context → Option Reading → Parts → Option (List Operand) → Place
words_place c r p None =
    if is_other_comment p.words then place_at p.front p.words hints.OtherComment else line_at c r p
words_place c r p (Some operands) =
    counted_place c r p operands (walk_all test.Present c r operands (behind p.words))

-- A tab or a space stands among the words, or else these are wrong. A name without words stands where
-- no line of a script may.

abbrev pub column_in : Parts → (before : ℕ) → ℕ
column_in p before = length p.front - length p.words + before + 1

abbrev pub spaced_place : Context → Option Reading → Parts → (tab : Option ℕ) → Place
spaced_place c r p (Some before) = placed (column_in p before) (codes "\t") hints.Tab
spaced_place c r p None = if length p.words == 0 then place_at p.front p.said (line_hint c r)
    else (if has_empty_word p.words
    then placed (column_in p (clear true p.words)) [] hints.Space
    else words_place c r p (operands_of c.lines p.words))

-- A byte may not stand there, or else the words or what is between them is wrong. A tab may, and a
-- carriage return at the end.

abbrev pub wrong_byte : (line : List ℕ) → Option ℕ
wrong_byte line =
    position (λ byte. not (byte == 9 || (nat_le 0x20 byte && nat_le byte 0x7e)))
    (without_return line)

abbrev pub at_most_one : Hint → Hint
at_most_one hints.CarriageReturn = hints.SurplusReturn
at_most_one hint = hint

abbrev pub form_place : Context → Option Reading → (number : ℕ) → (line : List ℕ) →
    (wrong : Option ℕ) → Place
form_place c r number line (Some index) =
    placed (index + 1) (slice_range line index (index + 1))
    (at_most_one (byte_hint number line (slice_index line index)))
form_place c r number line None =
    spaced_place c r (parts_of line) (bad_byte (parts_of line).words)

-- The hint for a wrong operand. `lines` are those of the text, where it is told on which of them a
-- name is declared.

abbrev pub hint_for_name : (lines : Option (List (List ℕ))) → Operand → (word : List ℕ) → Hint
hint_for_name None wanted word = hints.Wanted wanted
hint_for_name (Some lines) wanted word = name_hint lines word

abbrev pub hint_of : (lines : Option (List (List ℕ))) → TextFaultKind → Operand →
    (word : List ℕ) → Hint
hint_of lines kinds.BadName wanted word = hint_for_name lines wanted word
hint_of lines k wanted word = operand_hint k wanted word

-- The first wrong operand from the left.

abbrev pub operand_place : Context → Option Reading → (lines : Option (List (List ℕ))) → Parts →
    TextFaultKind → (rest : List ℕ) → (failed : Option Operand) → Place
operand_place c r lines p k rest None = line_at c r p
operand_place c r lines p k rest (Some wanted) =
    place_at p.front rest (hint_of lines k wanted (word_of rest))

abbrev pub walked_place : Context → Option Reading → (lines : Option (List (List ℕ))) → Parts →
    TextFaultKind → Walked → Place
walked_place c r lines p k w = operand_place c r lines p k w.rest w.failed

abbrev pub operands_place : Context → Option Reading → (lines : Option (List (List ℕ))) → Parts →
    TextFaultKind → Option (List Operand) → Place
operands_place c r lines p k None = line_at c r p
operands_place c r lines p k (Some operands) =
    walked_place c r lines p k (walk_all test.Right c r operands (behind p.words))

-- A name that is none, or an operand. The name in front of a line is judged first.

abbrev pub is_wrong_label : Option Reading → (lost : Bool) → (label : List ℕ) → Bool
is_wrong_label None lost label = false
is_wrong_label (Some r) lost label =
    if lost then not (is_name label) else not (is_ok (may_label r label))

abbrev pub label_place : (lines : Option (List (List ℕ))) → Parts → (label : List ℕ) → Place
label_place lines p label =
    placed (length p.front - length p.said + 1) label (hint_for_name lines operand.NewName label)

abbrev pub name_place : Context → Option Reading → (lost : Bool) →
    (lines : Option (List (List ℕ))) → Parts → (label : Option (List ℕ)) → Place
name_place c r lost lines p None =
    operands_place c r lines p kinds.BadName (operands_of c.lines p.words)
name_place c r lost lines p (Some label) = if is_wrong_label r lost label
    then label_place lines p label
    else operands_place c r lines p kinds.BadName (operands_of c.lines p.words)

-- A number of the threads that a line declares was declared before: that of the first one, or else
-- of the last one or of one between these. `rest` are the words behind `thread`.

abbrev pub among_hint : (is_last : Bool) → Hint
among_hint true = hints.DoubleNumber
among_hint false = hints.DoubleAmong

abbrev pub last_place : Context → Option Reading → (front last : List ℕ) → Place
last_place c r front last =
    place_at front last (among_hint (is_double r (thread_in c r (word_of last))))

abbrev pub double_place : Context → Option Reading → (front rest : List ℕ) → Place
double_place c r front rest = if is_double r (thread_in c r (word_of rest))
    then place_at front rest hints.DoubleNumber
    else last_place c r front (behind (behind rest))

-- The place of the fault of this kind, in the line of this number.

abbrev pub kind_place : Context → Option Reading → (lost : Bool) →
    (lines : Option (List (List ℕ))) → (number : ℕ) → (line : List ℕ) → TextFaultKind → Place
kind_place c r lost lines number line kinds.BadLine =
    form_place c r number line (wrong_byte line)
kind_place c r lost lines number line kinds.BadName =
    name_place c r lost lines (parts_of line) (parts_of line).label
kind_place c r lost lines number line kinds.DoubleId =
    double_place c r (parts_of line).front (behind (parts_of line).words)
kind_place c r lost lines number line kinds.TooManyThreads =
    place_at (parts_of line).front (parts_of line).words hints.ManyThreads
kind_place c r lost lines number line kinds.TooManyInstructions =
    place_at (parts_of line).front (parts_of line).words hints.ManyInstructions
kind_place c r lost lines number line k =
    operands_place c r lines (parts_of line) k (operands_of c.lines (parts_of line).words)

abbrev pub line_place : Stage → (lost : Bool) → (lines : Option (List (List ℕ))) → (number : ℕ) →
    (line : List ℕ) → TextFaultKind → Place
line_place stage lost lines number line k =
    kind_place (context_at stage lost) (reading_in stage) lost lines number line k

-- The place of what a line names that its script does not have, though another line may declare it.

abbrev pub elsewhere : Hint → Hint
elsewhere (hints.DeclaredOn number) = hints.ElsewhereOn number
elsewhere hint = hint

abbrev pub missed_hint : (lines : List (List ℕ)) → TextFaultKind → (word : List ℕ) → Hint
missed_hint lines kinds.BadName word = elsewhere (name_hint lines word)
missed_hint lines k word = hints.Wanted operand.NamedPlace

abbrev pub missed_place : (lines : List (List ℕ)) → (line : List ℕ) → TextFaultKind → Place
missed_place lines line k =
    place_at (parts_of line).front (target_in (parts_of line).words)
    (missed_hint lines k (word_of (target_in (parts_of line).words)))
