-- A code that is being written.
use Rattle.std.specs.Prelude.{ℕ, zero, suc, ◌*◌, ◌<◌, ◌≡◌, List, [], ◌∷◌, ◌++◌}
use Rattle.l4_states.specs.Inner.Bytes.{bytes_from, put_by, put_number}

-- Its bytes so far, and the number of zeros behind them that are not in the bytes yet.
pub record Written : Type 0 where
  pub bytes : List ℕ
  pub zeros : ℕ

-- The bytes of the code once these numbers follow.
abbrev pub with_numbers : Written → List ℕ → List ℕ
with_numbers w numbers = w.bytes ++ bytes_from w.zeros numbers

-- A value was written by its code, which puts it in front of what follows.
abbrev pub Writes : (List ℕ → List ℕ) → (old new : Written) → Type 0
Writes put old new = (rest : List ℕ) → with_numbers new rest ≡ with_numbers old (put rest)

-- A run of so many zeros in bytes.
abbrev pub zero_bytes : (count : ℕ) → List ℕ
zero_bytes zero = []
zero_bytes (suc more) = 0 ∷ suc more ∷ []

abbrev pub zeros_told : Written → Written
zeros_told w = record { bytes = w.bytes ++ zero_bytes w.zeros; zeros = 0 }

-- A code with nothing written.
abbrev pub unwritten : Written
unwritten = record { bytes = []; zeros = 0 }

-- A code behind another one.
abbrev pub appended : Written → Written → Written
appended w v = record { bytes = (w.bytes ++ zero_bytes w.zeros) ++ v.bytes; zeros = v.zeros }

-- The bound of numbers for which so many more bytes have room. The last of these has one bit.
abbrev pub room : (more : ℕ) → ℕ
room zero = 2
room (suc more) = 128 * room more

-- The low bits of a number were written, and this is left of it.
pub record IsLeft (number left : ℕ) (old new : List ℕ) : Type 0 where
  pub more : ℕ
  pub fits : left < room more
  pub same : (rest : List ℕ) → new ++ put_by more left rest ≡ old ++ put_number number rest
