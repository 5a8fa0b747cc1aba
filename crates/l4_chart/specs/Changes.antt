-- What a step changes in the threads that are shown: their registers, and who waits at them.
use Rattle.std.specs.Prelude.{ℕ, Bool, ◌==◌, if◌then◌else◌, Option, Some, None, List, [], ◌++◌, bytes_eq, codes, decimal, drop, filter_map, flat_map, length, slice_get, slice_index_or}
use Rattle.std.specs.List.{enumerate_from}
use Rattle.std.specs.Option.{option_map}
use Rattle.l4_model.specs.Conditions.{Found, found}
use Rattle.l4_model.specs.Machine.{Declaration, Machine}
use Rattle.l4_model.specs.Words.{GlobalId, Id, is_same}
use Rattle.l4_model.specs.World.{Context, World, list_at}
use Rattle.l4_types.specs.declared.registers.Regs.{Regs}
use Rattle.l4_words.specs.Numbers.{hexadecimal}
use Rattle.l4_words.specs.Threads.{id_word, thread_word}
use Rattle.l4_chart.specs.declared.columns.Column.{Column}

-- What a thread has in a world: its registers, and as words the threads whose sends wait at it, in
-- order.
pub record Held : Type 0 where
  pub id : GlobalId
  pub registers : Regs
  pub senders : List ℕ

abbrev pub sender_word : Option Declaration → List ℕ
sender_word None = []
sender_word (Some d) = codes " " ++ thread_word d.id

abbrev pub sender_words : Machine → (places : List ℕ) → List ℕ
sender_words m places = flat_map (λ place. sender_word (slice_get m.threads place)) places

abbrev pub registers_of : Context → Regs
registers_of c = record { words = c.words; error = c.error; from = c.from; actual = c.actual }

abbrev pub held_of : Machine → World → Found → Held
held_of m w t = record {
  id = t.declared.id;
  registers = registers_of t.now.context;
  senders = sender_words m (list_at w.waiting t.at);
}

abbrev pub held_in : Machine → World → GlobalId → Option Held
held_in m w id = option_map (held_of m w) (found m w id)

abbrev pub all_held : Machine → World → List Column → List Held
all_held m w columns = filter_map (λ (c : Column). held_in m w c.id) columns

-- A part that is not what it was is told, behind a comma.
abbrev pub unless : (same : Bool) → (part : List ℕ) → List ℕ
unless same part = if same then [] else codes ", " ++ part

abbrev pub id_part : (name : List ℕ) → (before behind : Id) → List ℕ
id_part name before behind = unless (is_same before behind) (name ++ codes " " ++ id_word behind)

abbrev pub register_part : (before : List ℕ) → ℕ × ℕ → List ℕ
register_part before p =
    unless (slice_index_or before p.0 0 == p.1)
    (codes "MR" ++ decimal p.0 ++ codes " 0x" ++ hexadecimal p.1)

abbrev pub register_parts : (before behind : List ℕ) → List ℕ
register_parts before behind = flat_map (register_part before) (enumerate_from 0 behind)

abbrev pub or_none : (senders : List ℕ) → List ℕ
or_none senders = if length senders == 0 then codes " none" else senders

-- What a thread had before, and what it has behind, in the order of a report.

abbrev pub changed_registers : (before behind : Regs) → List ℕ
changed_registers a b =
    unless (a.error == b.error) (codes "ErrorCode " ++ decimal b.error)
    ++ id_part (codes "from") a.from b.from
    ++ id_part (codes "ActualSender") a.actual b.actual
    ++ register_parts a.words b.words

abbrev pub changed_parts : (before behind : Held) → List ℕ
changed_parts a b =
    changed_registers a.registers b.registers
    ++ unless (bytes_eq a.senders b.senders) (codes "senders" ++ or_none b.senders)

-- They stand in a line of their own, which begins with the end of the line above it. The comma
-- before the first is left out.
abbrev pub line_of_parts : GlobalId → (parts : List ℕ) → List ℕ
line_of_parts id parts = if length parts == 0 then []
    else codes "\n      " ++ thread_word id ++ codes ":" ++ drop 1 parts

abbrev pub change_line : (before : Held) → (behind : Option Held) → List ℕ
change_line a None = []
change_line a (Some b) = line_of_parts b.id (changed_parts a b)

-- A line for each of these threads in which something is not what it was.

abbrev pub changes_since : Machine → (behind : World) → List Held → List ℕ
changes_since m behind held =
    flat_map (λ (a : Held). change_line a (held_in m behind a.id)) held

abbrev pub changes_of : Machine → List Column → (before behind : World) → List ℕ
changes_of m columns before behind = changes_since m behind (all_held m before columns)
