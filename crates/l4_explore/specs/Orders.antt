-- The order of schedules: the shorter ones first, those of one length by their entries.
use Rattle.std.specs.Prelude.{ℕ, ◌<◌, ◌≡◌, ◌⊎◌, List, [], ◌∷◌, length}

abbrev pub IsLower : List ℕ → List ℕ → Type 0
IsLower [] t = ⊥
IsLower (x ∷ s) [] = ⊥
IsLower (x ∷ s) (y ∷ t) = (x < y) ⊎ ((x ≡ y) × IsLower s t)

abbrev pub IsBefore : List ℕ → List ℕ → Type 0
IsBefore s t = (length s < length t) ⊎ ((length s ≡ length t) × IsLower s t)

abbrev pub IsNotAfter : List ℕ → List ℕ → Type 0
IsNotAfter s t = (s ≡ t) ⊎ IsBefore s t
