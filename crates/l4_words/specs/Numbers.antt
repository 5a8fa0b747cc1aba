-- Numbers as words spell them.
use Rattle.std.specs.Prelude.{ℕ, zero, suc, ◌+◌, ◌-◌, ◌*◌, ◌/◌, ◌%◌, ◌^◌, Bool, false, not, ◌==◌, ◌&&◌, nat_lt, nat_le, if◌then◌else◌, Option, Some, None, List, [], ◌∷◌, ◌++◌, length, slice_index}
use Rattle.std.specs.Fmt.{digits, digit_glyph}
use Rattle.l4_model.specs.Conditions.{◌>>=◌, ◌>>◌}

abbrev pub is_word : ℕ → Bool
is_word n = nat_lt n (2 ^ 64)

-- In lower case, with no prefix and no leading zero, as `decimal` has none: 0 is `0`.
abbrev pub hexadecimal : ℕ → List ℕ
hexadecimal n = digits 16 false n

-- The two digits of a byte.
abbrev pub byte_digits : ℕ → List ℕ
byte_digits byte = digit_glyph false (byte / 16) ∷ digit_glyph false (byte % 16) ∷ []

-- The digits of so many bytes of a number, the lowest ones last. Leading zeros are among them.
unfoldable pub pairs_of : (bytes n : ℕ) → List ℕ
pairs_of zero n = []
pairs_of (suc bytes) n = pairs_of bytes (n / 256) ++ byte_digits (n % 256)

-- `0` to `9` are the bytes 48 to 57, `a` to `f` 97 to 102.
abbrev pub digit_of : (radix byte : ℕ) → Option ℕ
digit_of radix byte = do
  digit ← (if nat_le 48 byte && nat_le byte 57 then Some (byte - 48)
      else (if nat_le 97 byte && nat_le byte 102 then Some (byte - 87) else None))
  nat_lt digit radix
  Some digit

-- A number with one more digit behind it. Numbers are words.
abbrev pub with_digit : (radix value byte : ℕ) → Option ℕ
with_digit radix value byte = do
  digit ← digit_of radix byte
  is_word (value * radix + digit)
  Some (value * radix + digit)

abbrev pub number_onto : (radix value : ℕ) → List ℕ → Option ℕ
number_onto radix value [] = Some value
number_onto radix value (byte ∷ bytes) = with_digit radix value byte >>= λ more.
    number_onto radix more bytes

-- The number of one digit or more.
abbrev pub value_of : (radix : ℕ) → List ℕ → Option ℕ
value_of radix digits = if length digits == 0 then None else number_onto radix 0 digits

-- 48 is the byte of `0`, which may stand alone.
abbrev pub has_leading_zero : List ℕ → Bool
has_leading_zero word = not (length word == 1) && slice_index word 0 == 48

-- A number in its one spelling in a base.
abbrev pub number_of : (radix : ℕ) → List ℕ → Option ℕ
number_of radix word = if has_leading_zero word then None else value_of radix word

-- 1 to 16 hexadecimal digits, leading zeros allowed.
abbrev pub padded_of : List ℕ → Option ℕ
padded_of digits = if nat_le (length digits) 16 then value_of 16 digits else None
