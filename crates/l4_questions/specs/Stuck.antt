-- Which threads are stuck for ever, as an answer tells it.
use Rattle.std.specs.Prelude.{ℕ, zero, suc, ◌≡◌, ◌&&◌, Bool, true, false, Option, None, Some, is_none, List, [], ◌∷◌, ◌++◌, codes, decimal, filter, map, slice_get}
use Rattle.std.specs.List.{AllByRecursion}
use Rattle.l4_model.specs.Machine.{Machine, Declaration}
use Rattle.l4_model.specs.Steps.{Step}
use Rattle.l4_futures.specs.Endings.{length_of}
use Rattle.l4_futures.specs.Traces.{trace_along}
use Rattle.l4_stuck.specs.Stuck.{stuck_from, AreStuckThreads, IsCutOff, IsStuck, Stuck}
use Rattle.l4_stuck.specs.declared.search.StuckThread.{StuckThread}
use Rattle.l4_words.specs.Lines.{line_of_words}
use Rattle.l4_words.specs.Threads.{thread_word}
use Rattle.l4_questions.specs.Limits.{most_looked}
use Rattle.l4_questions.specs.Resting.{counts}
use Rattle.l4_questions.specs.declared.question.Question.{Question}
use Rattle.l4_questions.specs.declared.question.Wanted.{Wanted}
use Rattle.l4_questions.specs.declared.question.Wanted.TheVariants.{Whatever, NoEnding, AnEnding}

-- Threads are asked for with what is stuck. Lines are asked of the reports of endings.
abbrev pub asks_who_is_stuck : Question → Bool
asks_who_is_stuck q = q.stuck && is_none q.with_line && is_none q.never

-- Of the threads that may get stuck for ever, those that may rest are not told. The search for them is
-- cut only where it has gone as far as the question lets it.

abbrev pub counts_one : Question → Option Declaration → Bool
counts_one q None = true
counts_one q (Some d) = counts q d.id

abbrev pub counts_at : Machine → Question → (thread : ℕ) → Bool
counts_at m q thread = counts_one q (slice_get m.threads thread)

pub record AreTold (m : Machine) (q : Question) (stuck : List Stuck) (is_whole : Bool) :
    Type 0 where
  pub all : List Stuck
  pub all_are : AreStuckThreads m all is_whole
  pub cut : is_whole ≡ false → IsCutOff m q.depth (most_looked m q)
  pub told : stuck ≡ filter (λ s. counts_at m q s.thread) all

-- Where they are asked for, these are told.
abbrev pub AreAsked : (asked : Bool) → Machine → Question → List Stuck → (is_whole : Bool) →
    Type 0
AreAsked true m q stuck is_whole = AreTold m q stuck is_whole
AreAsked false m q stuck is_whole = (stuck ≡ []) × (is_whole ≡ true)

abbrev pub AreAskedStuck : Machine → Question → List Stuck → (is_whole : Bool) → Type 0
AreAskedStuck m q stuck is_whole = AreAsked (asks_who_is_stuck q) m q stuck is_whole

abbrev pub AreAllStuck : Machine → List StuckThread → Type 0
AreAllStuck m threads = AllByRecursion (λ t. IsStuck m (stuck_from t)) threads

-- A line tells the thread, and how many steps but ticks the history has that leads there.

abbrev pub declared_word : Option Declaration → List ℕ
declared_word None = []
declared_word (Some d) = thread_word d.id

abbrev pub stuck_line : Machine → Stuck → List ℕ
stuck_line m s =
    line_of_words
    (codes "stuck" ∷ declared_word (slice_get m.threads s.thread) ∷ codes "for" ∷ codes "ever,"
    ∷ codes "steps" ∷ decimal (length_of (trace_along m s.entries)) ∷ [])

abbrev pub cut_line : (is_whole : Bool) → List ℕ
cut_line true = []
cut_line false = codes "stuck for ever: cut\n"

abbrev pub stuck_text : Machine → List Stuck → List ℕ
stuck_text m [] = []
stuck_text m (s ∷ stuck) = stuck_line m s ++ stuck_text m stuck

abbrev pub stuck_lines : Machine → List Stuck → (is_whole : Bool) → List ℕ
stuck_lines m stuck is_whole = stuck_text m stuck ++ cut_line is_whole

abbrev pub stuck_traces : Machine → List Stuck → List (List Step)
stuck_traces m stuck = map (λ s. trace_along m s.entries) stuck

-- The exit status, where it is this one without them: 4 where there should be none, and else not 0
-- where the search for them was cut.

abbrev pub is_any : List Stuck → Bool
is_any [] = false
is_any (s ∷ stuck) = true

abbrev pub cut_status : ℕ → ℕ
cut_status zero = 3
cut_status (suc status) = suc status

abbrev pub if_cut : (is_whole : Bool) → ℕ → ℕ
if_cut true status = status
if_cut false status = cut_status status

abbrev pub stuck_status : Wanted → (is_any is_whole : Bool) → ℕ → ℕ
stuck_status NoEnding true is_whole status = 4
stuck_status NoEnding false is_whole status = if_cut is_whole status
stuck_status Whatever is_any is_whole status = if_cut is_whole status
stuck_status AnEnding is_any is_whole status = status
