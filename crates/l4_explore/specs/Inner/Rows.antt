-- Codes as rows of numbers, those of their parts. A part may be a code in parts itself.
use Rattle.std.specs.Prelude.{ℕ, ◌+◌, ◌-◌, ◌*◌, ◌/◌, ◌%◌, ◌<◌, ◌≡◌, ◌⊎◌, ◌==◌, nat_lt, if◌then◌else◌, List, [], ◌∷◌, ◌++◌, length}
use Rattle.std.specs.List.{AllByRecursion}
use Rattle.l4_explore.specs.Inner.Codes.{code_at}

-- The numbers in a row of bytes, seven bits in a byte, the high ones first. Each byte of a number
-- but its last is 128 or more. `high` is what was read of the first number, of which 25 bits count.
abbrev pub numbers_from : (high : ℕ) → List ℕ → List ℕ
numbers_from high [] = []
numbers_from high (byte ∷ rest) =
    if nat_lt byte 128 then (high * 128 + byte) ∷ numbers_from 0 rest
    else numbers_from ((high * 128 + (byte - 128)) % 33554432) rest

abbrev pub numbers_of : List ℕ → List ℕ
numbers_of row = numbers_from 0 row

-- The parts of these numbers, one behind the other.
abbrev pub joined : (parts : List (List ℕ)) → (numbers : List ℕ) → List ℕ
joined parts [] = []
joined parts (n ∷ ns) = code_at parts n ++ joined parts ns

-- The code of a row.
abbrev pub whole : (parts : List (List ℕ)) → (row : List ℕ) → List ℕ
whole parts row = joined parts (numbers_of row)

-- Each number of a row is that of one of so many parts.
abbrev pub AreBelow : (count : ℕ) → (numbers : List ℕ) → Type 0
AreBelow count numbers = AllByRecursion (λ n. n < count) numbers

abbrev pub AreRows : (count : ℕ) → List (List ℕ) → Type 0
AreRows count rows = AllByRecursion (λ row. AreBelow count (numbers_of row)) rows

-- The row is that of the code.
pub record IsRowOf (parts : List (List ℕ)) (row code : List ℕ) : Type 0 where
  pub below : AreBelow (length parts) (numbers_of row)
  pub is : whole parts row ≡ code

-- A number is that of a part.
pub record HasPart (parts : List (List ℕ)) (number : ℕ) (part : List ℕ) : Type 0 where
  pub inside : number < length parts
  pub is : code_at parts number ≡ part

-- No part is there twice.
abbrev pub ArePartsOnce : List (List ℕ) → Type 0
ArePartsOnce parts =
    (i j : ℕ) → i < length parts → j < length parts → code_at parts i ≡ code_at parts j → i ≡ j

-- The parts stay, and more may stand behind them ..
pub record AreLonger (old new : List (List ℕ)) : Type 0 where
  pub more : List (List ℕ)
  pub is : new ≡ old ++ more

-- .. and if none was there twice, none is.
pub record AreMore (old new : List (List ℕ)) : Type 0 where
  pub longer : AreLonger old new
  pub once : ArePartsOnce old → ArePartsOnce new

-- A part stands behind the others, unless it was there.
abbrev pub IsKept : (old new : List (List ℕ)) → (part : List ℕ) → Type 0
IsKept old new part =
    (new ≡ old)
    ⊎ ((new ≡ old ++ part ∷ [])
    × ((number : ℕ) → number < length old → code_at old number ≡ part → ⊥))

-- The bytes of a number of at most 32 bits. Where nothing is left of it, there is no high byte.
abbrev pub high_digit : (left : ℕ) → List ℕ
high_digit left = if left == 0 then [] else (left % 128 + 128) ∷ []

abbrev pub digits_of : (number : ℕ) → List ℕ
digits_of number =
    high_digit (number / 268435456) ++ high_digit (number / 2097152) ++ high_digit (number / 16384)
    ++ high_digit (number / 128) ++ number % 128 ∷ []
