-- The lines of a report.
use Rattle.std.specs.Prelude.{ℕ, Bool, true, false, ◌==◌, if◌then◌else◌, List, [], ◌∷◌, ◌++◌, map, flat_map, codes, decimal}
use Rattle.l4_model.specs.Words.{Id}
use Rattle.l4_model.specs.World.{Name}
use Rattle.l4_model.specs.History.{State, IsReady, IsSending, IsReceiving, IsOrdering, IsEnded, IsDeleted, Report}
use Rattle.l4_types.specs.declared.reports.Ending.{Ending}
use Rattle.l4_types.specs.declared.reports.Ending.TheVariants.{Quiet, Spent}
use Rattle.l4_trace.specs.Lines.{hexadecimal, thread_word, name_word, line_of_words}
pub use Rattle.l4_words.specs.Threads.{id_word}

abbrev pub state_word : State → List ℕ
state_word IsReady = codes "ready"
state_word IsSending = codes "sending"
state_word IsReceiving = codes "receiving"
state_word IsOrdering = codes "ordering"
state_word IsEnded = codes "ended"
state_word IsDeleted = codes "deleted"

-- Registers up to the last one that is not 0.
abbrev pub before_set : ℕ → List ℕ → List ℕ
before_set word [] = if word == 0 then [] else word ∷ []
before_set word (next ∷ words) = word ∷ next ∷ words

abbrev pub up_to_last_set : List ℕ → List ℕ
up_to_last_set [] = []
up_to_last_set (word ∷ words) = before_set word (up_to_last_set words)

-- The registers that a report shows: MR0 in any case, and those after it up to the last that is not
-- 0.
abbrev pub shown_registers : List ℕ → List ℕ
shown_registers [] = []
shown_registers (mr0 ∷ words) = mr0 ∷ up_to_last_set words

abbrev pub thread_line : Report → List ℕ
thread_line r =
    line_of_words (codes "thread" ∷ thread_word r.id ∷ state_word r.state ∷ decimal r.error ∷
    id_word r.from ∷ id_word r.actual
    ∷ map hexadecimal (shown_registers r.words))

-- An undecided send and its destination.
abbrev pub waiting_line : Name × Id → List ℕ
waiting_line p = line_of_words (codes "waiting" ∷ name_word p.0 ∷ id_word p.1 ∷ [])

abbrev pub ending_word : Ending → List ℕ
ending_word Quiet = codes "quiet"
ending_word Spent = codes "spent"

-- The ending of a run by whether it is at rest.
abbrev pub ending_at_rest : Bool → Ending
ending_at_rest true = Quiet
ending_at_rest false = Spent

abbrev pub ending_line : Ending → List ℕ
ending_line ending = line_of_words (codes "ending" ∷ ending_word ending ∷ [])

abbrev pub report_text : List Report → List (Name × Id) → Ending → List ℕ
report_text threads waiting ending = flat_map thread_line threads ++
    flat_map waiting_line waiting ++ ending_line ending
