-- Two places are one or not.
use Rattle.std.proofs.Common.{◌≡◌, ℕ, Bool, true, false, refl, sym, ◌∙◌, subst}
use Rattle.std.specs.Prelude.{◌==◌, not}
use Rattle.std.proofs.lemmas.Bool.{eqb-true}
use Rattle.l4_core_model.proofs.Changed.{same_nat}

-- Two places
pub apart : (i j : ℕ) → (i == j) ≡ false → i ≡ j → ⊥
apart i j h e = by (i == j) h (subst (λ k. (i == k) ≡ true) e (same_nat i))
  where
    by : (b : Bool) → b ≡ false → b ≡ true → ⊥
    by b p q = cc

pub same_or_apart : (P : Type 0) (i j : ℕ) → (i ≡ j → P) → ((i ≡ j → ⊥) → P) → P
same_or_apart P i j same other = by (i == j) refl
  where
    by : (b : Bool) → (i == j) ≡ b → P
    by true h = same (eqb-true i j h)
    by false h = other (apart i j h)

-- what is of another place is not of this one
pub of_other : (i j k : ℕ) → (i ≡ j → ⊥) → (j == k) ≡ true → not (i == k) ≡ true
of_other i j k ne h = by (i == k) refl
  where
    by : (b : Bool) → (i == k) ≡ b → not b ≡ true
    by true e = absurd (ne (eqb-true i k e ∙ sym (eqb-true j k h)))
    by false e = refl
