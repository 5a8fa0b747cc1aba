-- What is owed stays as it is where another letter is posted or taken out.
use Rattle.std.proofs.Common.{◌≡◌, ℕ, Option, None, List, [], ◌∷◌, ◌++◌, ap, sym, ◌∙◌}
use Rattle.std.proofs.lemmas.List.{append-nil}
use Rattle.std.proofs.lemmas.List.Elements.{filter_map-append}
use Rattle.std.specs.List.{AllByRecursion, cons_option}
use Rattle.l4_model.specs.Machine.{Machine}
use Rattle.l4_model.specs.World.{Owed}
use Rattle.l4_core_model.specs.Runs.{Posted}
use Rattle.l4_core_model.proofs.Lists.{all-append}
use Rattle.l4_refines.proofs.Lists.{all_without}
use Rattle.l4_refines.proofs.Relation.Owing.{retarget_of, retargets_in, IsRouted, MayFollow, AreInOrder, Owing}

-- Order

all_may : (ps : List Posted) (q : Posted) → retarget_of q ≡ None → AllByRecursion (λ p. MayFollow p q) ps
all_may [] q none = tt
all_may (p ∷ ps) q none = (rw none tt, all_may ps q none)

pub order_posted : (ps : List Posted) (q : Posted) → AllByRecursion (λ p. MayFollow p q) ps → AreInOrder ps → AreInOrder (ps ++ q ∷ [])
order_posted [] q may h = (tt, tt)
order_posted (p ∷ ps) q may h = (all-append (MayFollow p) ps q h.0 may.0, order_posted ps q may.1 h.1)

pub order_taken : (xs ys : List Posted) (p : Posted) → AreInOrder (xs ++ p ∷ ys) → AreInOrder (xs ++ ys)
order_taken [] ys p h = h.1
order_taken (x ∷ xs) ys p h = (all_without (MayFollow x) xs ys p h.0, order_taken xs ys p h.1)

-- One letter

pub in_posted : (mail : List Posted) (q : Posted) → retargets_in (mail ++ q ∷ []) ≡ retargets_in mail ++ cons_option (retarget_of q) []
in_posted mail q = filter_map-append retarget_of mail (q ∷ [])

pub in_middle : (xs ys : List Posted) (p : Posted) → retargets_in (xs ++ p ∷ ys) ≡ retargets_in xs ++ cons_option (retarget_of p) (retargets_in ys)
in_middle xs ys p = filter_map-append retarget_of xs (p ∷ ys)

in_taken : (xs ys : List Posted) (p : Posted) → retarget_of p ≡ None → retargets_in (xs ++ ys) ≡ retargets_in (xs ++ p ∷ ys)
in_taken xs ys p none =
    filter_map-append retarget_of xs ys ∙ sym (in_middle xs ys p ∙ ap (λ o. retargets_in xs ++ cons_option o (retargets_in ys)) none)

-- A letter that is of no retarget

pub owing_posted : (m : Machine) (kept_beside : ℕ → List (Option Owed)) (mail : List Posted) (owed : List Owed) (q : Posted) → retarget_of q ≡ None →
    Owing m kept_beside mail owed → Owing m kept_beside (mail ++ q ∷ []) owed
owing_posted m kept_beside mail owed q none h = record {
  sized = h.sized;
  letters = in_posted mail q ∙ ap (λ o. retargets_in mail ++ cons_option o []) none ∙ append-nil (retargets_in mail) ∙ h.letters;
  kept = h.kept;
  routed = all-append (IsRouted m) mail q h.routed (rw none tt);
  in_order = order_posted mail q (all_may mail q none) h.in_order;
}

pub owing_taken : (m : Machine) (kept_beside : ℕ → List (Option Owed)) (xs ys : List Posted) (owed : List Owed) (p : Posted) → retarget_of p ≡ None →
    Owing m kept_beside (xs ++ p ∷ ys) owed → Owing m kept_beside (xs ++ ys) owed
owing_taken m kept_beside xs ys owed p none h = record {
  sized = h.sized;
  letters = in_taken xs ys p none ∙ h.letters;
  kept = h.kept;
  routed = all_without (IsRouted m) xs ys p h.routed;
  in_order = order_taken xs ys p h.in_order;
}
