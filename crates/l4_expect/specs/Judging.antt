-- Which lines may be expected of a report.
use Rattle.std.specs.Prelude.{Bool, true, false, ◌||◌, if◌then◌else◌, ℕ, Option, None, Some, Ok, Err, List, [], ◌∷◌}
use Rattle.l4_words.specs.Words.{words_in}
use Rattle.l4_lines.specs.Lines.{is_rest, line_fault}
use Rattle.l4_lines.specs.declared.lines.LineFault.{LineFault}
use Rattle.l4_lines.specs.declared.lines.LineFault.TheVariants as line_fault
use Rattle.l4_script.specs.Judged.{Judged}
use Rattle.l4_script.specs.Lines.{line_of}
use Rattle.l4_expect.specs.Columns.{may_be_line, may_be_told}
use Rattle.l4_expect.specs.declared.judging.Scope.{Scope}
use Rattle.l4_expect.specs.declared.judging.Scope.TheVariants.{OneRun, Endings}
use Rattle.l4_expect.specs.declared.judging.Wrong.{Wrong}
use Rattle.l4_expect.specs.declared.judging.Wrong.TheVariants.{BadLine, Unknown, BadWord, Deleted, Number}

-- `..` stands for all words that are left, so it has to be the last word.
abbrev pub has_early_rest : (asked : List (List ℕ)) → Bool
has_early_rest [] = false
has_early_rest (word ∷ []) = false
has_early_rest (word ∷ next ∷ words) = is_rest word || has_early_rest (next ∷ words)

-- No report has such a line, by its first word or by its words. Runs to one ending may differ in
-- registers of a deleted thread and in numbers of sends, so endings can't be asked for these.
abbrev pub wrong_by : Scope → (may_be_line : Bool) → Option LineFault → Option Wrong
wrong_by scope may_be (Some line_fault.Unknown) = Some Unknown
wrong_by scope false (Some line_fault.Deleted) = Some BadWord
wrong_by scope false (Some line_fault.Number) = Some BadWord
wrong_by scope false None = Some BadWord
wrong_by Endings true (Some line_fault.Deleted) = Some Deleted
wrong_by OneRun true (Some line_fault.Deleted) = None
wrong_by Endings true (Some line_fault.Number) = Some Number
wrong_by OneRun true (Some line_fault.Number) = None
wrong_by scope true None = None

abbrev pub wrong_asked : Scope → (asked : List ℕ) → Option Wrong
wrong_asked scope asked =
    if has_early_rest (words_in asked) then Some BadLine
    else wrong_by scope (may_be_line (words_in asked)) (line_fault asked)

-- A line that stands alone has words, as one of a text of expectations.

abbrev pub wrong_of_words : Judged (Option (List (List ℕ))) → (asked : List ℕ) → Option Wrong
wrong_of_words (Ok (Some words)) asked = wrong_asked Endings asked
wrong_of_words (Ok None) asked = Some BadLine
wrong_of_words (Err kind) asked = Some BadLine

abbrev pub wrong_of_ending : (asked : List ℕ) → Option Wrong
wrong_of_ending asked = wrong_of_words (line_of asked) asked

-- So it is of a line of a condition, which asks for one that a world on the way tells.

abbrev pub wrong_in_world : (asked : List ℕ) → Option Wrong
wrong_in_world asked =
    if has_early_rest (words_in asked) then Some BadLine
    else wrong_by Endings (may_be_told (words_in asked)) (line_fault asked)

abbrev pub wrong_by_words : Judged (Option (List (List ℕ))) → (asked : List ℕ) → Option Wrong
wrong_by_words (Ok (Some words)) asked = wrong_in_world asked
wrong_by_words (Ok None) asked = Some BadLine
wrong_by_words (Err kind) asked = Some BadLine

abbrev pub wrong_told : (asked : List ℕ) → Option Wrong
wrong_told asked = wrong_by_words (line_of asked) asked
