-- Sets of places, as bits of words.
use Rattle.std.specs.Prelude.{ℕ, ◌≡◌, ◌<◌, ◌+◌, ◌/◌, ◌%◌, ◌==◌, Bool, true, false, not, if◌then◌else◌, zero, suc, List, slice_index_or}
use Rattle.std.specs.Int.{bit_at}
use Rattle.l4_model.specs.Machine.{most_threads}

-- A place is in the set where its bit is set.
abbrev pub has : (words : List ℕ) → ℕ → Bool
has words place = bit_at (slice_index_or words (place / 64) 0) (place % 64) == 1

abbrev pub is_filled : (word : ℕ) → Bool
is_filled word = not (word == 0)

-- Bit r of a word is set where word r of a set isn't zero.
abbrev pub MarksFilled : (filled : ℕ) (words : List ℕ) → Type 0
MarksFilled filled words = (row : ℕ) → row < 64 →
    (bit_at filled row == 1) ≡ is_filled (slice_index_or words row 0)

-- The place of the lowest bit of a word.
pub record IsLowest (word bit : ℕ) : Type 0 where
  pub within : bit < 64
  pub there : bit_at word bit ≡ 1
  pub lowest : (other : ℕ) → other < bit → bit_at word other ≡ 0

-- The least place of a set.
pub record IsFirst (words : List ℕ) (place : ℕ) : Type 0 where
  pub within : place < most_threads
  pub there : has words place ≡ true
  pub least : (other : ℕ) → other < place → has words other ≡ false

-- How many places below a number a set has.
unfoldable pub count : (words : List ℕ) → ℕ → ℕ
count words zero = 0
count words (suc n) = (if has words n then 1 else 0) + count words n
