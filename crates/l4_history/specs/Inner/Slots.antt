-- The threads that the steps of a history name, each in the slot of its number.
use Rattle.std.specs.Prelude.{◌≡◌, ℕ, ◌%◌, ◌<◌, ◌≤◌, List, length, get_or}
use Rattle.l4_model.specs.Words.{GlobalId, global_id}

abbrev pub slot_count : ℕ
slot_count = 1024

-- All slots are made at once.
abbrev pub AllOrNone : List GlobalId → Type 0
AllOrNone slots = 0 < length slots → slot_count ≤ length slots

-- The slot of a thread.
abbrev pub home : GlobalId → ℕ
home thread = thread.number % 1024

abbrev pub thread_at : List GlobalId → ℕ → GlobalId
thread_at slots slot = get_or slots slot (global_id 0 1)

-- A slot that a thread has.
pub record IsSlot (slots : List GlobalId) (slot : ℕ) : Type 0 where
  pub within : slot < length slots
  pub at_home : home (thread_at slots slot) ≡ slot

-- The slot that this thread has.
pub record HasSlot (slots : List GlobalId) (thread : GlobalId) (slot : ℕ) : Type 0 where
  pub is_slot : IsSlot slots slot
  pub has : thread_at slots slot ≡ thread

-- Slots that threads have keep them.
abbrev pub Keeps : (old new : List GlobalId) → Type 0
Keeps old new = (slot : ℕ) → IsSlot old slot → HasSlot new (thread_at old slot) slot
