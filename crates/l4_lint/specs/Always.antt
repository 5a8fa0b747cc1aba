-- What a doubt that is marked `always` says. It holds in every history of the machine that the text
-- declares.
use Rattle.std.specs.Prelude.{ℕ, ◌≡◌, ◌+◌, ◌-◌, Bool, true, false, not, ◌&&◌, ◌||◌, nat_lt, nat_le}
use Rattle.std.specs.Prelude.{if◌then◌else◌, Option, Ok, unwrap_or, IsSomeAnd, List, [], ◌∷◌}
use Rattle.std.specs.Prelude.{length, take}
use Rattle.std.specs.List.{AllByRecursion, count_by, list_any}
use Rattle.l4_model.specs.Words.{GlobalId, same_id}
use Rattle.l4_model.specs.Machine.{Declaration, Delete, Machine, OrderKind}
use Rattle.l4_model.specs.Steps.{Step, Deliver, Order, Tick, OfThread, OfSend}
use Rattle.l4_model.specs.History.{IsHistory}
use Rattle.l4_words.specs.Lines.{parts_of}
use Rattle.l4_words.specs.Threads.{thread_of}
use Rattle.l4_script.specs.Numbers.{number_of}
use Rattle.l4_script.specs.Second.Texts as second
use Rattle.l4_script.specs.Versions.{machine_of_text}
use Rattle.l4_lint.specs.declared.doubts.Doubt.{Doubt}
use Rattle.l4_lint.specs.declared.doubts.Doubt.TheVariants.{NoThread, NotSent, NotPropagated}
use Rattle.l4_lint.specs.declared.doubts.Doubt.TheVariants.{OtherSpace}
use Rattle.l4_lint.specs.declared.doubts.Mark.TheVariants.{Always}
use Rattle.l4_lint.specs.Doubts.{Doubtful, asks_to_propagate, marked, stage_behind, thread_after}
use Rattle.l4_lint.specs.Doubts.{thread_at}
use Rattle.l4_lint.specs.Lines.{lines_of}
use Rattle.l4_lint.specs.Reading.{begins_script}

-- The threads that a step names.
abbrev pub threads_in : Step → List GlobalId
threads_in (OfThread kind t) = t ∷ []
threads_in (OfSend kind s) = s.thread ∷ []
threads_in (Deliver s receiver shown actual tag words) =
    s.thread ∷ receiver ∷ shown ∷ actual ∷ []
threads_in (Order caller target what) = caller ∷ target ∷ []
threads_in (Tick cpu clock) = []

abbrev pub names_thread : GlobalId → Step → Bool
names_thread t step = list_any (same_id t) (threads_in step)

-- A message of this sender is delivered with this register: its words are those of register 1 and
-- the next ones.
abbrev pub delivers_register : (register : ℕ) → (sender : GlobalId) → Step → Bool
delivers_register register sender (Deliver s receiver shown actual tag words) =
    same_id sender s.thread && (nat_lt 0 register && nat_le register (length words))
delivers_register register sender _ = false

-- A message of this sender is delivered as propagated: with the flag `p`, or in another's name.
abbrev pub delivers_propagated : (sender : GlobalId) → Step → Bool
delivers_propagated sender (Deliver s receiver shown actual tag words) =
    same_id sender s.thread && (asks_to_propagate tag || not (same_id sender shown))
delivers_propagated sender _ = false

abbrev pub NoStep : (Step → Bool) → List Step → Type 0
NoStep test h = list_any test h ≡ false

-- An order of this thread to cancel what that one does.

abbrev pub is_deletion : OrderKind → Bool
is_deletion Delete = true
is_deletion _ = false

abbrev pub cancels : (caller target : GlobalId) → Step → Bool
cancels caller target (Order c t what) =
    same_id caller c && (same_id target t && not (is_deletion what))
cancels caller target _ = false

-- Of an id: no step names the thread. Of a register that is written: no delivered message of the
-- script's thread has it. Of a tag: none is propagated. Of a thread of another space: no order of
-- the script's thread cancels what it does. Of the others nothing is certain.
abbrev pub Says : Doubt → (word : List ℕ) → Option Declaration → List Step → Type 0
Says NoThread word thread h = IsSomeAnd (thread_of word) (λ t. NoStep (names_thread t) h)
Says NotSent word thread h =
    IsSomeAnd thread (λ d. NoStep (delivers_register (unwrap_or (number_of word) 0) d.id) h)
Says NotPropagated word thread h = IsSomeAnd thread (λ d. NoStep (delivers_propagated d.id) h)
Says OtherSpace word thread h =
    IsSomeAnd thread (λ d. IsSomeAnd (thread_of word) (λ t. NoStep (cancels d.id t) h))
Says _ word thread h = ⊥

-- The thread in whose script a line of this number stands: by the thread lines before it, or by
-- what is read up to the line.

abbrev pub thread_on : Machine → (lines : List (List ℕ)) → (number : ℕ) → Option Declaration
thread_on m lines number = thread_after m (count_by begins_script (take (number - 1) lines))

abbrev pub stage_after : (lines : List (List ℕ)) → second.Stage → (number : ℕ) → second.Stage
stage_after [] stage number = stage
stage_after (line ∷ lines) stage number =
    stage_after lines (stage_behind number stage line) (number + 1)

abbrev pub second_thread_on : Machine → (lines : List (List ℕ)) → (number : ℕ) →
    Option Declaration
second_thread_on m lines number =
    thread_at m (stage_after (take number lines) second.Start 1)

abbrev pub thread_in : (text : List ℕ) → Machine → (number : ℕ) → Option Declaration
thread_in text m number = if second.begins_second (parts_of text)
    then second_thread_on m (lines_of text) number else thread_on m (lines_of text) number

abbrev pub IsAlwaysSo : (thread : (number : ℕ) → Option Declaration) → List Step → Doubtful → Type 0
IsAlwaysSo thread h d = marked d.doubt ≡ Always → Says d.doubt d.word (thread d.line) h

-- Each of these doubts of a text that is marked `always` holds in every history.
abbrev pub AreAlwaysSo : (text : List ℕ) → List Doubtful → Type 0
AreAlwaysSo text found =
    (m : Machine) (h : List Step) → machine_of_text text ≡ Ok m → IsHistory m h →
    AllByRecursion (IsAlwaysSo (thread_in text m) h) found
