-- Lines of scripts of version 2: blanks around what a line says and behind the name in front of it,
-- a comment behind it, and a carriage return before the line end are skipped.
use Rattle.std.specs.Prelude.{ℕ, ◌-◌, Bool, not, ◌||◌, ◌&&◌, ◌==◌, nat_le, if◌then◌else◌, Option, Some, None, Ok, Err, List, [], ◌∷◌, length, take, slice_index}
use Rattle.std.specs.List.{list_all, before_first, after_first}
use Rattle.l4_words.specs.Words.{words_in}
use Rattle.l4_script.specs.declared.text.fault.TextFaultKind.TheVariants.{BadLine}
use Rattle.l4_script.specs.Judged.{Judged, ◌>>=◌, ◌>>◌, must}
use Rattle.l4_script.specs.Lines.{is_printable, has_empty_word}

abbrev pub ends_with_byte : (byte : ℕ) → List ℕ → Bool
ends_with_byte byte bytes =
    not (length bytes == 0) && slice_index bytes (length bytes - 1) == byte

abbrev pub without_last : List ℕ → List ℕ
without_last bytes = take (length bytes - 1) bytes

-- All before one carriage return, byte 13, at the end.
abbrev pub without_return : List ℕ → List ℕ
without_return line = if ends_with_byte 13 line then without_last line else line

-- A space or a tab.
abbrev pub is_blank : (byte : ℕ) → Bool
is_blank byte = byte == 32 || byte == 9

abbrev pub without_first_blanks : List ℕ → List ℕ
without_first_blanks [] = []
without_first_blanks (byte ∷ bytes) =
    if is_blank byte then without_first_blanks bytes else byte ∷ bytes

-- A byte in front of what is left of the bytes behind it.
abbrev pub kept_before : (byte : ℕ) → (left : List ℕ) → List ℕ
kept_before byte [] = if is_blank byte then [] else byte ∷ []
kept_before byte (next ∷ bytes) = byte ∷ next ∷ bytes

abbrev pub without_last_blanks : List ℕ → List ℕ
without_last_blanks [] = []
without_last_blanks (byte ∷ bytes) = kept_before byte (without_last_blanks bytes)

-- What a line says stands in front of `;`, byte 59, without blanks around it.
abbrev pub said_in : (line : List ℕ) → List ℕ
said_in line =
    without_last_blanks (without_first_blanks (before_first (λ byte. byte == 59) line))

abbrev pub comment_in : (line : List ℕ) → List ℕ
comment_in line = after_first (λ byte. byte == 59) line

-- All of it is printable but for tabs.
abbrev pub is_clean : List ℕ → Bool
is_clean bytes = list_all (λ byte. byte == 9 || (nat_le 0x20 byte && nat_le byte 0x7e)) bytes

-- Printable, but neither a space nor `;` nor `:`.
abbrev pub is_word_byte : (byte : ℕ) → Bool
is_word_byte byte = (nat_le 33 byte && nat_le byte 57) || (nat_le 60 byte && nat_le byte 126)

-- What a line says: the name of the instruction that follows, if it has one, and words.
pub record Said : Type 0 where
  pub label : Option (List ℕ)
  pub words : List (List ℕ)

abbrev pub said : Option (List ℕ) → (words : List (List ℕ)) → Said
said label words = record { label = label; words = words }

-- What stands in front of the first blank, and behind all blanks there.

abbrev pub first_of : (said : List ℕ) → List ℕ
first_of said = before_first is_blank said

abbrev pub others_of : (said : List ℕ) → List ℕ
others_of said = without_first_blanks (after_first is_blank said)

-- None, or some with one space between each two.
abbrev pub words_of : (said : List ℕ) → Judged (List (List ℕ))
words_of said = if length said == 0 then Ok []
    else (if is_printable said && not (has_empty_word said) then Ok (words_in said)
    else Err BadLine)

-- Where what stands first ends with `:`, byte 58, it names an instruction.
abbrev pub judged_said : (line : List ℕ) → Judged Said
judged_said line = if ends_with_byte 58 (first_of line)
    then (do
      must (is_printable (first_of line)) BadLine
      words ← words_of (others_of line)
      Ok (said (Some (without_last (first_of line))) words))
    else (words_of line >>= λ words. Ok (said None words))

-- What a line says, or nothing.
unfoldable pub second_line_of : (line : List ℕ) → Judged (Option Said)
second_line_of line = do
  must (is_clean (comment_in (without_return line))) BadLine
  (if length (said_in (without_return line)) == 0 then Ok None
      else (judged_said (said_in (without_return line)) >>= λ said. Ok (Some said)))
