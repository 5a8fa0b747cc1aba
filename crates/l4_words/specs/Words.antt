-- The words of a line.
use Rattle.std.specs.Prelude.{ℕ, ◌≡◌, ◌==◌, if◌then◌else◌, Option, Some, None, List, [], ◌∷◌}
use Rattle.std.specs.List.{slice_split}
use Rattle.std.specs.Str.{bytes_eq}
use Rattle.l4_model.specs.Conditions.{◌>>=◌}
use Rattle.l4_words.specs.Numbers.{number_of}

-- What stands between the spaces of a line, byte 32.
abbrev pub words_in : List ℕ → List (List ℕ)
words_in line = slice_split (λ byte. byte == 32) line

-- The words not yet read.
abbrev pub words_left : Option (List ℕ) → List (List ℕ)
words_left None = []
words_left (Some rest) = words_in rest

-- Exactly this many words.
abbrev pub one : List (List ℕ) → Option (List ℕ)
one (a ∷ []) = Some a
one _ = None

abbrev pub two : List (List ℕ) → Option (List ℕ × List ℕ)
two (a ∷ b ∷ []) = Some (a, b)
two _ = None

abbrev pub three : List (List ℕ) → Option (List ℕ × List ℕ × List ℕ)
three (a ∷ b ∷ c ∷ []) = Some (a, b, c)
three _ = None

abbrev pub four : List (List ℕ) → Option (List ℕ × List ℕ × List ℕ × List ℕ)
four (a ∷ b ∷ c ∷ d ∷ []) = Some (a, b, c, d)
four _ = None

abbrev pub five : List (List ℕ) → Option (List ℕ × List ℕ × List ℕ × List ℕ × List ℕ)
five (a ∷ b ∷ c ∷ d ∷ e ∷ []) = Some (a, b, c, d, e)
five _ = None

-- Five words, and those behind them.
abbrev pub first_five : List (List ℕ) → Option (List ℕ × List ℕ × List ℕ × List ℕ × List ℕ ×
    List (List ℕ))
first_five (a ∷ b ∷ c ∷ d ∷ e ∷ others) = Some (a, b, c, d, e, others)
first_five _ = None

-- The first word as a hexadecimal number, and the words behind it.
abbrev pub first_hexadecimal : List (List ℕ) → Option (ℕ × List (List ℕ))
first_hexadecimal [] = None
first_hexadecimal (word ∷ others) = do
  number ← number_of 16 word
  Some (number, others)

-- The first word by what it spells, and the words behind it.
abbrev pub first_as : {A : Type 0} → (List ℕ → Option A) → List (List ℕ) →
    Option (A × List (List ℕ))
first_as read [] = None
first_as read (word ∷ others) = do
  value ← read word
  Some (value, others)

-- The words behind the first one, where it is this one and others follow it.
abbrev pub words_behind : (first : List ℕ) → List (List ℕ) → Option (List (List ℕ))
words_behind first (word ∷ next ∷ others) = if bytes_eq word first then Some (next ∷ others)
    else None
words_behind first _ = None

-- What was found, seen by a view, is what the definition gives.
abbrev pub Finds : {X Y : Type 0} → (X → Y) → Option X → Option Y → Type 0
Finds view None found = found ≡ None
Finds view (Some x) found = found ≡ Some (view x)
