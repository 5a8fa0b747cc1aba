-- Whether anything is put by at the inlets of a port: as a test, and place by place.
use Rattle.std.proofs.Common.{◌≡◌, ◌↔◌, ◌∙◌, ◌||◌, zero, suc, List, [], ◌∷◌, Option, Bool, true, false, not, refl, ap}
use Rattle.std.specs.List.{list_any}
use Rattle.l4_core_model.specs.Runs.{is_empty}
use Rattle.l4_core_model.specs.Letters.{Letter}
use Rattle.l4_mail.specs.declared.inlets.Inlet.{Inlet}
use Rattle.l4_mail.specs.Ends.{kept, keeps}
use Rattle.l4_mail.specs.Inner.Takes.{NoneIsKept}

none_here : (xs : List Letter) → not (is_empty xs) ≡ false → xs ≡ []
none_here [] e = refl
none_here (x ∷ xs) e = absurd cc

pub keeps_none : (end : Option Inlet) → keeps end ≡ false → kept end ≡ []
keeps_none end e = none_here (kept end) e

neither : (a b : Bool) → (a || b) ≡ false → (a ≡ false) × (b ≡ false)
neither true b e = absurd cc
neither false b e = (refl, e)

none_kept : (l : List (Option Inlet)) → list_any keeps l ≡ false → NoneIsKept l
none_kept [] e k = refl
none_kept (x ∷ l) e zero = keeps_none x (neither (keeps x) _ e).0
none_kept (x ∷ l) e (suc k) = none_kept l (neither (keeps x) _ e).1 k

none_keeps : (l : List (Option Inlet)) → NoneIsKept l → list_any keeps l ≡ false
none_keeps [] h = refl
none_keeps (x ∷ l) h = ap (λ xs. not (is_empty xs) || list_any keeps l) (h zero) ∙ none_keeps l (λ k. h (suc k))

pub is_kept : (l : List (Option Inlet)) → (list_any keeps l ≡ false) ↔ NoneIsKept l
is_kept l = (none_kept l, none_keeps l)
