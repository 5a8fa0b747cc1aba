-- Lists of numbers in bytes, small numbers in few of them.
use Rattle.std.specs.Prelude.{ℕ, zero, suc, ◌+◌, ◌/◌, ◌%◌, ◌==◌, nat_lt, if◌then◌else◌, List, [], ◌∷◌}

-- A number in front of what follows, seven bits in a byte, the low ones first. Each byte but its
-- last is 128 or more.
abbrev pub put_by : (more n : ℕ) → List ℕ → List ℕ
put_by zero n rest = n ∷ rest
put_by (suc more) n rest = if nat_lt n 128 then n ∷ rest else (n % 128 + 128)
    ∷ put_by more (n / 128) rest

-- Ten bytes have room for 64 bits.
abbrev pub put_number : (n : ℕ) → List ℕ → List ℕ
put_number n rest = put_by 9 n rest

-- Most numbers of a state are 0. A token is a run of so many zeros, or another number, kept as the
-- one below it.
pub data Token : Type 0 where
  Zeros : (count : ℕ) → Token
  Above : ℕ → Token

-- The longest run of zeros, so that its count fits a byte.
abbrev pub longest_run : ℕ
longest_run = 255

-- The tokens with a run of zeros that is over.
abbrev pub ended : (zeros : ℕ) → List Token → List Token
ended zero tokens = tokens
ended (suc zeros) tokens = Zeros (suc zeros) ∷ tokens

-- The tokens of numbers behind so many zeros.
abbrev pub tokens_from : (zeros : ℕ) → List ℕ → List Token
tokens_from zeros [] = ended zeros []
tokens_from zeros (zero ∷ ns) =
    if zeros == longest_run then Zeros longest_run
    ∷ tokens_from 1 ns else tokens_from (suc zeros) ns
tokens_from zeros (suc n ∷ ns) = ended zeros (Above n ∷ tokens_from 0 ns)

-- A run of zeros begins with a byte 0, any other number with another one.
abbrev pub put_token : Token → List ℕ → List ℕ
put_token (Zeros count) rest = 0 ∷ count ∷ rest
put_token (Above n) rest = put_number (suc n) rest

abbrev pub put_tokens : List Token → List ℕ
put_tokens [] = []
put_tokens (t ∷ ts) = put_token t (put_tokens ts)

abbrev pub bytes_from : (zeros : ℕ) → List ℕ → List ℕ
bytes_from zeros ns = put_tokens (tokens_from zeros ns)

abbrev pub bytes_of : List ℕ → List ℕ
bytes_of ns = bytes_from 0 ns
