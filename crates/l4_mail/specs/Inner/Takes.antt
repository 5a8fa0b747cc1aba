-- What is at the inlets of a port, when a letter is looked for.
use Rattle.std.specs.Prelude.{◌≡◌, ◌≢◌, ◌⊎◌, ◌<◌, ℕ, List, [], length, map, slice_index_or, Option}
use Rattle.l4_mail.specs.declared.inlets.Inlet.{Inlet}
use Rattle.l4_mail.specs.Ends.{ring_in, taken, kept, here}

-- No letter is kept here.
abbrev pub NoneIsKept : List (Option Inlet) → Type 0
NoneIsKept inlets = (k : ℕ) → slice_index_or (map kept inlets) k [] ≡ []

-- No letter is here, as far as each inlet has looked.
abbrev pub NoneIsHere : List (Option Inlet) → Type 0
NoneIsHere inlets = (k : ℕ) → slice_index_or (map here inlets) k [] ≡ []

-- Nothing was taken.
pub record NoneIsTaken (old new : List (Option Inlet)) : Type 0 where
  pub rings : map ring_in new ≡ map ring_in old
  pub taken : map taken new ≡ map taken old

-- A letter is at this place, and one that is kept, if any is.
pub record IsNext (inlets : List (Option Inlet)) (from : ℕ) : Type 0 where
  pub within : from < length inlets
  pub here : slice_index_or (map here inlets) from [] ≢ []
  pub kept : (slice_index_or (map kept inlets) from [] ≢ []) ⊎ NoneIsKept inlets
