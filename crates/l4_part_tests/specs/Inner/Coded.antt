-- Counters with equal codes are equal.
use Rattle.std.proofs.Common.{◌≡◌, ℕ, zero, suc, ◌+◌, ◌<◌, Bool, true, false, cond, nat_lt, Option, None, Some, List, [], ◌∷◌, refl, sym, ap, ◌∙◌}
use Rattle.std.proofs.lemmas.Bool.{ltb-true}
use Rattle.l4_explore.specs.Tries.{State, AreCoded}
use Rattle.l4_part_tests.specs.Inner.Counters.{after, at, state_after}

-- What a guard says
pub guarded : (l : ℕ) (o : Option State) (a : State) → cond (nat_lt l 2) o None ≡ Some a →
    (l < 2) × (o ≡ Some a)
guarded l o a h = by (nat_lt l 2) refl h
  where
    by : (b : Bool) → nat_lt l 2 ≡ b → cond b o None ≡ Some a → (l < 2) × (o ≡ Some a)
    by true e h = (ltb-true l 2 e, h)
    by false e h = cc

pub record IsAt (a : State) : Type 0 where
  pub left : ℕ
  pub right : ℕ
  pub is : a ≡ at left right

pub is_at : (s : List ℕ) (l r : ℕ) (a : State) → after l r s ≡ Some a → IsAt a
is_at [] l r a h = record { left = l; right = r; is = cc }
is_at (zero ∷ s) l r a h = is_at s (l + 1) r a (guarded l (after (l + 1) r s) a h).1
is_at (suc zero ∷ s) l r a h = is_at s l (r + 1) a (guarded r (after l (r + 1) s) a h).1
is_at (suc (suc e) ∷ s) l r a h = cc

-- Counters with one code are the same.
same_at : (l r j k : ℕ) → ◌≡◌ {A = List ℕ} (l ∷ r ∷ []) (j ∷ k ∷ []) → at l r ≡ at j k
same_at l r j k e =
    let one : l ≡ j = cc in
    let two : r ≡ k = cc in
    ap (λ n. at n r) one ∙ ap (at j) two

pub coded : AreCoded state_after
coded s t a b at_a at_b same =
    let x = is_at s 0 0 a at_a in
    let y = is_at t 0 0 b at_b in
    x.is
    ∙ same_at x.left x.right y.left y.right
    (sym (ap (λ (c : State). c.code) x.is) ∙ same ∙ ap (λ (c : State). c.code) y.is)
    ∙ sym y.is
