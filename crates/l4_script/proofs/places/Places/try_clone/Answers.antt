use Rattle.std.proofs.Common.{◌≡◌, ℕ, List, Option, Some, None, refl, ap, ◌∙◌}
use Rattle.std.specs.Prelude.{nat_eq, slice_get}
use Rattle.std.specs.HashMap.{get}
use Rattle.std.specs.Map.{lookup}
use Rattle.std.proofs.lemmas.List.Elements.{same_from_all_zip}
use Rattle.std.proofs.lemmas.Map.Entries.{entries_from_clone}
use Rattle.l4_script.specs.declared.places.Placed.{Placed}
use Rattle.l4_script.specs.Inner.Places.{placed_in, slot_of}
use Rattle.l4_script.proofs.places.Places.try_clone.Goals as goal

-- Slots are alike where a relation says so of what stands in them.
same_slot : (R : Option Placed → Option Placed → Type 0) → ((y : Placed) → R None (Some y) → ⊥) → ((x : Placed) → R (Some x) None → ⊥) → ((x y : Placed) → R (Some x) (Some y) → y ≡ x)
    → (x y : Option Placed) → R x y → y ≡ x
same_slot R more fewer each None None e = refl
same_slot R more fewer each None (Some y) e = absurd (more y e)
same_slot R more fewer each (Some x) None e = absurd (fewer x e)
same_slot R more fewer each (Some x) (Some y) e = ap (λ (z : Placed). Some z) (each x y e)

pub returns : goal.returns
returns c = λ number.
    let old = c.args.self.now in
    let slots = same_from_all_zip _ old.slots.items c.in_ok-clone.field-0.items c.in_ok-clone.ensures.cases.0 (same_slot _ (λ y e. e) (λ x e. e) (λ x y e. e)) in
    let others = entries_from_clone _ _ (λ x y e. e) (λ v w e. e) old.others.entries c.in_ok-clone-2.field-0.entries c.in_ok-clone-2.ensures.cases in
    ap (λ (s : List (Option Placed)). placed_in (slice_get s (slot_of number)) number (get nat_eq c.in_ok-clone-2.field-0 number)) slots
    ∙ ap (λ (es : List (ℕ × ℕ)). placed_in (slice_get old.slots.items (slot_of number)) number (lookup (nat_eq number) es)) others
