-- What the rows tell that keep the ends of events.
use Rattle.std.specs.Prelude.{◌≡◌, ⊤, ℕ, ◌+◌, ◌-◌, ◌*◌, ◌/◌, ◌^◌, ◌<◌, ◌≤◌, All, List, [], ◌∷◌, get_or, length}
use Rattle.l4_proc.specs.declared.end_rows.End.{End}
use Rattle.l4_proc.specs.declared.end_rows.Row.{Row}
use Rattle.l4_proc.specs.declared.end_rows.Row.TheVariants.{Short, Wide}

-- Ends to their callers: in order, and how many more there is room for.
pub record ToldEnds : Type 0 where
  pub items : List End
  pub room : ℕ

-- The end of a row in a chunk with this base. No row names a place without an end.
abbrev pub end_of : (base : ℕ) → List End → Row → End
end_of base wide (Short choice ahead place) = record { stamp = base + ahead; place = place; choice = choice }
end_of base wide (Wide at) = get_or wide at (record { stamp = 0; place = 0; choice = 0 })

-- The ends of these rows, the first of which is the i-th. Each chunk of 64 rows has a base.
abbrev pub ends_from : (bases : List ℕ) → List End → List Row → (i : ℕ) → List End
ends_from bases wide [] i = []
ends_from bases wide (row ∷ rows) i = end_of (get_or bases (i / 64) 0) wide row ∷ ends_from bases wide rows (i + 1)

abbrev pub IsRow : (wide : ℕ) → Row → Type 0
IsRow wide (Short choice ahead place) = ⊤
IsRow wide (Wide at) = at < wide

-- A row that tells an end by itself, in a chunk with this base.
pub record IsShort (base : ℕ) (end : End) (row : Row) : Type 0 where
  pub alone : IsRow 0 row
  pub same : (wide : List End) → end_of base wide row ≡ end

-- Each chunk that has begun has a base, and where there is room for a row, its base is the last.
pub record HasBases (bases : List ℕ) (base rows room : ℕ) : Type 0 where
  pub counted : rows + room ≡ 64 * length bases
  pub few : room ≤ 64
  pub last : 0 < room → base ≡ get_or bases (length bases - 1) 0
  pub low : All (λ b. b ≤ 2 ^ 63) bases
  pub base_low : base ≤ 2 ^ 63
