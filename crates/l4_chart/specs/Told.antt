-- What a row tells of its step: its number, where its send goes to, the instruction that it runs,
-- what it changes in registers, and which threads wait behind it.
use Rattle.std.specs.Prelude.{ℕ, ◌+◌, Bool, true, false, Option, Some, None, List, [], ◌∷◌, ◌++◌, codes, decimal, if◌then◌else◌}
use Rattle.std.specs.List.{join_with_byte}
use Rattle.l4_model.specs.Conditions.{◌>>=◌, found}
use Rattle.l4_model.specs.Machine.{Machine}
use Rattle.l4_model.specs.Steps.{Step, Local, Begin, Queue, SendTimeout, SendNobody, SendCancel, Drop}
use Rattle.l4_model.specs.Words.{Id}
use Rattle.l4_model.specs.World.{World, opening}
use Rattle.l4_json.specs.Steps.{behind, destination, runner}
use Rattle.l4_trace.specs.Lines.{words_of}
use Rattle.l4_words.specs.Threads.{id_word}
use Rattle.l4_chart.specs.Changes.{changes_of}
use Rattle.l4_chart.specs.Listings.{Instruction, Listing, instruction_at}
use Rattle.l4_chart.specs.Waiting.{all_waits}
use Rattle.l4_chart.specs.declared.columns.Column.{Column}

pub record Told : Type 0 where
  pub number : ℕ
  pub step : Step
  pub to : Option Id
  pub at : Option Instruction
  pub changes : List ℕ
  -- for each thread of the chart whether it waits
  pub waits : List Bool

-- Of which threads rows tell, and whether they tell what changes in registers.
pub record Watched : Type 0 where
  pub columns : List Column
  pub registers : Bool

abbrev pub changing : Watched → List Column
changing w = if w.registers then w.columns else []

-- Where the send of a step goes to. One that begins is known behind the step, the others in front of
-- it. A delivery tells its receiver itself.

abbrev pub known_before : Machine → (before : World) → Step → Option Id
known_before m before (Queue s) = destination m before s
known_before m before (SendTimeout s) = destination m before s
known_before m before (SendNobody s) = destination m before s
known_before m before (SendCancel s) = destination m before s
known_before m before (Drop s) = destination m before s
known_before m before _ = None

abbrev pub step_destination : Machine → (before behind : World) → Step → Option Id
step_destination m before behind (Begin s) = destination m behind s
step_destination m before behind step = known_before m before step

-- The instruction that a thread runs by a step. None has the `end` behind the last one.
abbrev pub step_instruction : Machine → Listing → (before : World) → Step → Option Instruction
step_instruction m listing before step = do
  id ← runner step
  t ← found m before id
  instruction_at listing t.at t.now.context.place

-- A step from this world on, and those of a history, with their numbers.

abbrev pub told_at : Machine → Listing → Watched → (before : World) →
    (number : ℕ) → Step → Told
told_at m listing watched before number step = record {
  number = number;
  step = step;
  to = step_destination m before (behind m before step) step;
  at = step_instruction m listing before step;
  changes = changes_of m (changing watched) before (behind m before step);
  waits = all_waits m (behind m before step) watched.columns;
}

abbrev pub told_from : Machine → Listing → Watched → World → (number : ℕ) →
    List Step → List Told
told_from m listing watched w number [] = []
told_from m listing watched w number (step ∷ steps) =
    told_at m listing watched w number step
    ∷ told_from m listing watched (behind m w step) (number + 1) steps

abbrev pub told_of : Machine → Listing → Watched → List Step → List Told
told_of m listing watched h = told_from m listing watched (opening m) 1 h

-- The world that steps lead to, where each of them is possible.
abbrev pub world_behind : Machine → World → List Step → World
world_behind m w [] = w
world_behind m w (step ∷ steps) = world_behind m (behind m w step) steps

-- The words of a row: the line of its step, and what is told beside it. Of an instruction that
-- concerns nobody else its text is told too.

abbrev pub to_words : Option Id → List ℕ
to_words None = []
to_words (Some to) = codes " to " ++ id_word to

abbrev pub text_words : (whole : Bool) → Instruction → List ℕ
text_words whole i = if whole then codes ": " ++ i.text else []

abbrev pub at_words : (whole : Bool) → Option Instruction → List ℕ
at_words whole None = []
at_words whole (Some i) = codes " (line " ++ decimal i.line ++ text_words whole i ++ codes ")"

abbrev pub is_local : Step → Bool
is_local (Local t) = true
is_local _ = false

abbrev pub row_words : Told → List ℕ
row_words row =
    join_with_byte 32 (words_of row.step) ++ to_words row.to ++ at_words (is_local row.step) row.at
