-- Codes that stand one behind the other, and which bucket each is in.
use Rattle.std.specs.Prelude.{ℕ, zero, suc, ◌%◌, ◌<◌, ◌≤◌, ◌≡◌, List, [], ◌∷◌, ◌++◌, length, slice_index_or, slice_range}
use Rattle.std.specs.Hash.FoldHasher.{initial, write, finish}

-- What `code_at` gives past the end is the empty code.
abbrev pub code_at : List (List ℕ) → ℕ → List ℕ
code_at codes place = slice_index_or codes place []

-- Where the code at a place begins, and where it ends.
abbrev pub start_of : List ℕ → ℕ → ℕ
start_of ends zero = 0
start_of ends (suc place) = slice_index_or ends place 0

abbrev pub end_of : List ℕ → ℕ → ℕ
end_of ends place = slice_index_or ends place 0

abbrev pub code_between : (bytes ends : List ℕ) → (place : ℕ) → List ℕ
code_between bytes ends place = slice_range bytes (start_of ends place) (end_of ends place)

-- The codes at the first places.
abbrev pub first_codes : (bytes ends : List ℕ) → (count : ℕ) → List (List ℕ)
first_codes bytes ends zero = []
first_codes bytes ends (suc place) =
    first_codes bytes ends place ++ code_between bytes ends place ∷ []

abbrev pub codes_of : (bytes ends : List ℕ) → List (List ℕ)
codes_of bytes ends = first_codes bytes ends (length ends)

-- Each code ends behind its beginning, and the last one where the bytes end.
pub record AreEnds (bytes ends : List ℕ) : Type 0 where
  pub rising : (place : ℕ) → place < length ends → start_of ends place ≤ end_of ends place
  pub inside : (place : ℕ) → place < length ends → end_of ends place ≤ length bytes
  pub last : start_of ends (length ends) ≡ length bytes

abbrev pub hash_of : List ℕ → ℕ
hash_of code = finish (write initial code)

-- Which of `count` buckets a code belongs to.
abbrev pub bucket_of : (count : ℕ) → (code : List ℕ) → ℕ
bucket_of count code = hash_of code % count
