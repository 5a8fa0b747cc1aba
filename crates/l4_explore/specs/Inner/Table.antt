-- Chains of codes: each bucket has the place of its last code, and each code that of the one before
-- it in its bucket.
use Rattle.std.specs.Prelude.{ℕ, zero, suc, ◌<◌, ◌≡◌, nat_eq, if◌then◌else◌, List, length, slice_index_or}
use Rattle.l4_explore.specs.Inner.Codes.{bucket_of, code_at}

-- The highest place below `below` whose code is in the bucket; 0 if there is none. So place 0 ends
-- the chain of each bucket.
abbrev pub last_in : (count : ℕ) (codes : List (List ℕ)) (bucket below : ℕ) → ℕ
last_in count codes bucket zero = 0
last_in count codes bucket (suc place) =
    if nat_eq (bucket_of count (code_at codes place)) bucket then place
    else last_in count codes bucket place

-- The codes at the places below `below` are in their chains.
pub record AreChains (codes : List (List ℕ)) (lasts befores : List ℕ) (below : ℕ) : Type 0 where
  pub last : (bucket : ℕ) → bucket < length lasts →
      slice_index_or lasts bucket 0 ≡ last_in (length lasts) codes bucket below
  pub before : (place : ℕ) → place < below → slice_index_or befores place 0
      ≡ last_in (length lasts) codes (bucket_of (length lasts) (code_at codes place)) place

pub record IsTable (codes : List (List ℕ)) (lasts befores : List ℕ) : Type 0 where
  pub some : 0 < length codes
  pub buckets : 0 < length lasts
  pub each : length befores ≡ length codes
  pub chains : AreChains codes lasts befores (length codes)
