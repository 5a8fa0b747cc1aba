-- The answer to a question about the runs that processors make by schedules.
use Rattle.std.specs.Prelude.{Bool, true, false, ◌≡◌, ◌<◌, ◌≤◌, ◌==◌, ◌||◌, ℕ, Option, None, List, [], ◌∷◌, ◌++◌, codes, decimal, map}
use Rattle.std.specs.List.{list_any}
use Rattle.l4_model.specs.Machine.{Declaration, Machine}
use Rattle.l4_core_model.specs.Runs.{Run, told}
use Rattle.l4_core_model.specs.Schedules.{Entry, replay_entries}
use Rattle.l4_persistent.specs.Endings.{AreAllEndings, AreEndings}
use Rattle.l4_expect.specs.Expected.{Expected}
use Rattle.l4_schedules.specs.Written.{schedule_text}
use Rattle.l4_words.specs.Lines.{line_of_words}
use Rattle.l4_questions.specs.Answers.{ending_after}
use Rattle.l4_questions.specs.Asked.{is_asked}
use Rattle.l4_questions.specs.Endings.{Ending}
use Rattle.l4_questions.specs.Limits.{most_looked, question_fault}
use Rattle.l4_questions.specs.Printed.{IsTold}
use Rattle.l4_questions.specs.declared.question.Question.{Question}
use Rattle.l4_questions.specs.Beside.{Shown}

-- The ending that a core run comes to at rest is that of the history that its events tell.

abbrev pub ending_of_run : Machine → Run → Ending
ending_of_run m r = ending_after m (told r.events)

abbrev pub report_of_run : Machine → Run → List ℕ
report_of_run m r = (ending_of_run m r).report

-- A question asks for a core run as it asks for the ending that it comes to.
abbrev pub is_asked_after : Machine → Question → Run → Bool
is_asked_after m q r = is_asked q (ending_of_run m r)

-- Behind its number stands the list of its schedule. An empty schedule has no word.
abbrev pub list_head : List Entry → List ℕ
list_head [] = []
list_head (e ∷ entries) = codes " " ++ schedule_text (e ∷ entries)

-- The ending that entries lead to.
abbrev pub placed_ending : Machine → List Entry → Ending
placed_ending m entries =
    record (ending_of_run m (replay_entries m entries)) { head = list_head entries }

abbrev pub placed_endings : Machine → List (List Entry) → List Ending
placed_endings m endings = map (placed_ending m) endings

-- One of these threads is on this processor, and some two of them share one.

abbrev pub has_thread_on : (cpu : ℕ) → List Declaration → Bool
has_thread_on cpu threads = list_any (λ (d : Declaration). d.cpu == cpu) threads

abbrev pub share_processor : List Declaration → Bool
share_processor [] = false
share_processor (d ∷ threads) = has_thread_on d.cpu threads || share_processor threads

-- The last words of a search. Where it is whole there are no more endings, of the runs in which each
-- tick goes to the least deadline of its processor, and threads that share a processor take their
-- turns in one order.

abbrev pub whole_words : (in_turn : Bool) → List ℕ
whole_words false = codes "whole, least ticks"
whole_words true = codes "whole, least ticks, in turn"

abbrev pub end_words : Machine → (is_whole : Bool) → List ℕ
end_words m true = whole_words (share_processor m.threads)
end_words m false = codes "cut"

-- The number of states that were looked at, the depth to which all endings were found, and whether
-- there are no more.
abbrev pub states_line : Machine → (states depth : ℕ) → (is_whole : Bool) → List ℕ
states_line m states depth is_whole =
    line_of_words
    (codes "states" ∷ decimal states ∷ codes "depth" ∷ decimal depth ∷ end_words m is_whole ∷ [])

-- What a search of this depth among so many states has found: all endings that it may find, each
-- once, and no others.
pub record ArePlaced (m : Machine) (q : Question) (endings : List (List Entry)) (states depth : ℕ)
    (is_whole : Bool) : Type 0 where
  pub all : AreAllEndings m endings depth is_whole
  pub found : AreEndings m endings states q.depth (most_looked m q) depth is_whole
  pub few : states ≤ most_looked m q
  pub whole : is_whole ≡ true → depth < q.depth

-- These lines and this status are the answer: those of all endings that the question asks for. It
-- may also ask for charts and who waits for whom, and expect something of each ending.
pub record IsPlacedAnswer (m : Machine) (q : Question) (shown : Shown)
    (expected : Option (List Expected)) (lines unmet : List ℕ) (status : ℕ) : Type 0 where
  pub lawful : question_fault q ≡ None
  pub endings : List (List Entry)
  pub states : ℕ
  pub depth : ℕ
  pub is_whole : Bool
  pub searched : ArePlaced m q endings states depth is_whole
  pub told :
      IsTold q shown expected (placed_endings m endings) (states_line m states depth is_whole)
      is_whole lines unmet status
