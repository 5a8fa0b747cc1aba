-- Parts of states, each known by its number.
use Rattle.std.specs.Prelude.{ℕ, ◌<◌, ◌≡◌, ◌⊎◌, false, List, [], ◌∷◌, ◌++◌, length, slice_index_or}
use Rattle.l4_codes.specs.Inner.Written.{Written, unwritten}
use Rattle.l4_parts.specs.declared.parts.Part.{Part}

-- What `part_at` gives past the end.
abbrev pub no_part : Part
no_part = record {
  place = 0;
  code = unwritten;
  rests = false;
  contacts = record { waits = 0; posts = 0 };
  moves = 0;
}

abbrev pub part_at : List Part → (number : ℕ) → Part
part_at parts number = slice_index_or parts number no_part

-- A part of this place with this code has the number.
pub record HasNumber (parts : List Part) (place : ℕ) (code : Written) (number : ℕ) : Type 0 where
  pub inside : number < length parts
  pub place_is : (part_at parts number).place ≡ place
  pub code_is : (part_at parts number).code ≡ code

-- The parts stay, and this one may stand behind them.
abbrev pub IsKept : (old new : List Part) → Part → Type 0
IsKept old new part = (new ≡ old) ⊎ (new ≡ old ++ part ∷ [])

-- The parts stay, and more may stand behind them.
pub record AreLonger (old new : List Part) : Type 0 where
  pub more : List Part
  pub is : new ≡ old ++ more
