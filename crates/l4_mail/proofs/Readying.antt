-- The outlets of a port that is ready for a turn.
use Rattle.std.proofs.Common.{◌≡◌, ◌≤◌, ◌||◌, ℕ, zero, suc, List, [], ◌∷◌, length, map, get_or, Option, Bool, true, false, not, refl}
use Rattle.std.specs.Vec.{with_items}
use Rattle.std.specs.List.{list_any}
use Rattle.l4_core_model.specs.Runs.{is_empty}
use Rattle.l4_core_model.specs.Letters.{Letter}
use Rattle.l4_mail.specs.declared.outlets.Outlet.{Outlet}
use Rattle.l4_mail.specs.declared.ports.Port.{Port}
use Rattle.l4_mail.specs.Ends.{AreReady, waiting, waits}
use Rattle.l4_mail.proofs.Rows.{AreAsBefore, HaveRoom}
use Rattle.l4_mail.proofs.Whole.{rooms_reserved}

pub not_true : (b : Bool) → not b ≡ true → b ≡ false
not_true true e = absurd cc
not_true false e = refl

none_there : (xs : List Letter) → not (is_empty xs) ≡ false → xs ≡ []
none_there [] e = refl
none_there (x ∷ xs) e = absurd cc

neither : (a b : Bool) → (a || b) ≡ false → (a ≡ false) × (b ≡ false)
neither true b e = absurd cc
neither false b e = (refl, e)

none_waits : (l : List (Option Outlet)) → list_any waits l ≡ false → (to : ℕ) → get_or (map waiting l) to [] ≡ []
none_waits [] e to = refl
none_waits (x ∷ l) e zero = none_there (waiting x) (neither (waits x) _ e).0
none_waits (x ∷ l) e (suc to) = none_waits l (neither (waits x) _ e).1 to

-- There is room at each, and no letter waits.
pub all_ready : (old : Port) (items : List (Option Outlet)) (i : ℕ) → AreAsBefore old.outlets.items items → HaveRoom items i 2 → length items ≤ i
    → list_any waits (with_items old.outlets items).items ≡ false → AreReady (with_items old.outlets items).items
all_ready old items i h room le none = record { reserved = rooms_reserved old items 2 i h room le; empty = none_waits _ none }
