-- What is printed of endings, what of them is not met, and the exit status.
use Rattle.std.specs.Prelude.{Bool, true, false, ◌≡◌, ◌+◌, ℕ, if◌then◌else◌, Option, None, Some, List, [], ◌∷◌, ◌++◌, codes, decimal}
use Rattle.std.specs.List.{list_all}
use Rattle.l4_chart.specs.Whole.{whole_text}
use Rattle.l4_expect.specs.Expected.{Expected}
use Rattle.l4_expect.specs.Unmet.{are_met, expected_status, unmet_text}
use Rattle.l4_questions.specs.Asked.{asked_of}
use Rattle.l4_questions.specs.Endings.{Ending}
use Rattle.l4_questions.specs.declared.question.Question.{Question}
use Rattle.l4_questions.specs.declared.question.Wanted.{Wanted}
use Rattle.l4_questions.specs.declared.question.Wanted.TheVariants.{Whatever, NoEnding, AnEnding}
use Rattle.l4_questions.specs.Beside.{AskedChart, Shown}

-- The first line of an ending has its number.
abbrev pub head_line : (number : ℕ) → Ending → List ℕ
head_line number e = codes "ending " ++ decimal number ++ e.head ++ codes "\n"

-- Then come a chart of the history that leads to it, where one is asked for, its report, and who waits
-- for whom, where that is.

abbrev pub chart_in : Option AskedChart → Ending → List ℕ
chart_in None e = []
chart_in (Some chart) e = whole_text e.machine chart.listing e.trace chart.form

abbrev pub ending_text : (shown : Shown) → (number : ℕ) → Ending → List ℕ
ending_text shown number e =
    head_line number e
    ++ (chart_in shown.chart e ++ (e.report ++ (if shown.waits then e.waits else [])))

-- The texts of endings in order, numbered from this one on.
abbrev pub numbered_text : (text_of : (number : ℕ) → Ending → List ℕ) → (number : ℕ) →
    List Ending → List ℕ
numbered_text text_of number [] = []
numbered_text text_of number (e ∷ endings) =
    text_of number e ++ numbered_text text_of (number + 1) endings

abbrev pub endings_text : (shown : Shown) → Question → List Ending → List ℕ
endings_text shown q endings = numbered_text (ending_text shown) 1 (asked_of q endings)

-- Of an ending that does not meet what is expected of its report there is its first line, and then
-- a line for each expectation that does not hold.

abbrev pub meets : Option (List Expected) → Ending → Bool
meets None e = true
meets (Some expected) e = are_met e.report expected

abbrev pub told_unmet : List Expected → (number : ℕ) → Ending → List ℕ
told_unmet expected number e = head_line number e ++ unmet_text e.report expected

abbrev pub unmet_of : Option (List Expected) → (number : ℕ) → Ending → List ℕ
unmet_of None number e = []
unmet_of (Some expected) number e =
    if are_met e.report expected then [] else told_unmet expected number e

abbrev pub all_unmet : Option (List Expected) → Question → List Ending → List ℕ
all_unmet expected q endings = numbered_text (unmet_of expected) 1 (asked_of q endings)

-- 0 where the search is whole, 3 where it was cut.
abbrev pub status_of_search : (is_whole : Bool) → ℕ
status_of_search true = 0
status_of_search false = 3

-- Where no such ending should exist, 4 as soon as one is found. Where one should exist, 0 as soon as
-- one is found, and 4 where there is none.
abbrev pub status_of_asked : Wanted → List Ending → (is_whole : Bool) → ℕ
status_of_asked Whatever asked is_whole = status_of_search is_whole
status_of_asked NoEnding [] is_whole = status_of_search is_whole
status_of_asked NoEnding (e ∷ asked) is_whole = 4
status_of_asked AnEnding (e ∷ asked) is_whole = 0
status_of_asked AnEnding [] true = 4
status_of_asked AnEnding [] false = 3

-- As soon as an ending does not meet what is expected, the status is 4.
abbrev pub answer_status : Option (List Expected) → Question → List Ending → (is_whole : Bool) → ℕ
answer_status expected q endings is_whole =
    expected_status (list_all (meets expected) (asked_of q endings))
    (status_of_asked q.wanted (asked_of q endings) is_whole)

-- A search found these endings, and said so of itself last: these lines are the answer, with what
-- is not met and the exit status.
pub record IsTold (q : Question) (shown : Shown) (expected : Option (List Expected))
    (endings : List Ending) (last : List ℕ) (is_whole : Bool) (lines unmet : List ℕ)
    (status : ℕ) : Type 0 where
  pub lines_are : lines ≡ endings_text shown q endings ++ last
  pub unmet_are : unmet ≡ all_unmet expected q endings
  pub status_is : status ≡ answer_status expected q endings is_whole
