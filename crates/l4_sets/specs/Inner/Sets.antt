-- Sets of processors.
use Rattle.std.specs.Prelude.{ℕ, ◌<◌, ◌≡◌, ◌==◌, Bool, true, List, length, slice_index_or}
use Rattle.std.specs.Int.{bit_at}

-- Their numbers are below this one.
abbrev pub most : ℕ
most = 32

-- A processor is in where its bit is set.
abbrev pub has : (set cpu : ℕ) → Bool
has set cpu = bit_at set cpu == 1

-- With each processor of the set all who may post to it are in. Of each processor there is the set
-- of those who may.
abbrev pub IsClosedUnder : (posters : List ℕ) → (set : ℕ) → Type 0
IsClosedUnder posters set =
    (from to : ℕ) → to < length posters → from < most → has set to ≡ true →
    has (slice_index_or posters to 0) from ≡ true → has set from ≡ true
