-- The bytes of a line.
use Rattle.std.specs.Prelude.{ℕ, ◌+◌, Bool, not, ◌&&◌, ◌==◌, nat_eq, nat_le}
use Rattle.std.specs.Prelude.{if◌then◌else◌, Option, List, [], ◌∷◌}
use Rattle.std.specs.List.{position, before_first, after_first, starts_with}
use Rattle.l4_lint.specs.declared.hints.Hint.{Hint}
use Rattle.l4_lint.specs.declared.hints.Hint.TheVariants as hints

abbrev pub is_space : ℕ → Bool
is_space byte = byte == 32

-- The word that a line begins with, and what follows the space behind it.
abbrev pub word_of : (line : List ℕ) → List ℕ
word_of line = before_first is_space line

abbrev pub behind : (line : List ℕ) → List ℕ
behind line = after_first is_space line

-- The place of the first byte that is not printable ASCII.
abbrev pub bad_byte : (line : List ℕ) → Option ℕ
bad_byte line = position (λ byte. not (nat_le 0x20 byte && nat_le byte 0x7e)) line

-- A byte order mark is the bytes ef, bb and bf in front of a text.
abbrev pub byte_hint : (number : ℕ) → (line : List ℕ) → (byte : ℕ) → Hint
byte_hint number line byte =
    if number == 1 && starts_with nat_eq line (0xef ∷ 0xbb ∷ 0xbf ∷ []) then hints.ByteOrderMark
    else (if byte == 13 then hints.CarriageReturn
    else (if byte == 9 then hints.Tab
    else hints.Unprintable))

-- The number of bytes before the first surplus space: one in front of all words, behind a space or
-- behind all words.
abbrev pub clear : (spaced : Bool) → (line : List ℕ) → ℕ
clear spaced [] = 0
clear spaced (byte ∷ others) = if spaced && byte == 32 then 0 else 1 + clear (byte == 32) others
