-- Numbers as machine texts spell them.
use Rattle.std.specs.Prelude.{ℕ, ◌&&◌, nat_le, nat_lt, if◌then◌else◌, Option, Ok, List, take, drop, codes}
use Rattle.std.specs.Str.{bytes_eq}
use Rattle.l4_model.specs.Words.{Format, word_limit, Period, period_of}
use Rattle.l4_words.specs.Numbers.{padded_of}
use Rattle.l4_words.specs.Numbers as words
use Rattle.l4_script.specs.declared.text.fault.TextFaultKind.TheVariants.{BadNumber}
use Rattle.l4_script.specs.Judged.{Judged, ◌>>=◌, ◌>>◌, must, needs}

-- A number in decimal digits without a leading zero, or in 1 to 16 hexadecimal ones behind `0x`.
unfoldable pub number_of : List ℕ → Option ℕ
number_of word = if bytes_eq (take 2 word) (codes "0x") then padded_of (drop 2 word)
    else words.number_of 10 word

-- A number in this range.
unfoldable pub number_from : (low high : ℕ) → List ℕ → Judged ℕ
number_from low high word = do
  value ← needs (number_of word) BadNumber
  must (nat_le low value && nat_le value high) BadNumber
  Ok value

-- A word of a format. How many digits it has does not matter.
unfoldable pub word_from : Format → List ℕ → Judged ℕ
word_from format word = do
  value ← needs (number_of word) BadNumber
  must (nat_lt value (word_limit format)) BadNumber
  Ok value

-- A time as a number: its 15 bits.
unfoldable pub period_number : List ℕ → Judged Period
period_number word = number_from 0 0x7fff word >>= λ time. Ok (period_of time)

-- A time: `never`, `zero`, or a number.
unfoldable pub time_from : List ℕ → Judged Period
time_from word =
    if bytes_eq word (codes "never") then Ok (period_of 0)
    else (if bytes_eq word (codes "zero") then Ok (period_of 0x400)
    else period_number word)
