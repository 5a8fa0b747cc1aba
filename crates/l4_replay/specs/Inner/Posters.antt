-- From which processors letters have come to one.
use Rattle.std.specs.Prelude.{◌≡◌, ℕ, ◌<◌, false, if◌then◌else◌, Option, Some, None, List, [], length, slice_index_or}
use Rattle.std.specs.Int.{bit_at}
use Rattle.l4_core_model.specs.Letters.{Letter}
use Rattle.l4_core_model.specs.Runs.{is_empty}

abbrev pub AreEmpty : List (List Letter) → Type 0
AreEmpty queues = (from : ℕ) → slice_index_or queues from [] ≡ []

-- The bit that tells whether there are letters.
abbrev pub mark : List Letter → ℕ
mark letters = if is_empty letters then 0 else 1

-- Bit i of a word is set where there are letters from processor i.
abbrev pub MarksPosters : (word : ℕ) → List (List Letter) → Type 0
MarksPosters word queues = (from : ℕ) → from < 64 →
    bit_at word from ≡ mark (slice_index_or queues from [])

-- The lowest processor that letters have come from.
pub record IsFirstFilled (queues : List (List Letter)) (from : ℕ) : Type 0 where
  pub within : from < length queues
  pub filled : is_empty (slice_index_or queues from []) ≡ false
  pub lowest : (other : ℕ) → other < from → slice_index_or queues other [] ≡ []

abbrev pub PostsFirst : List (List Letter) → Option ℕ → Type 0
PostsFirst queues None = AreEmpty queues
PostsFirst queues (Some from) = IsFirstFilled queues from
