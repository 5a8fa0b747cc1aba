-- The order of schedules.
use Rattle.std.proofs.Common.{◌≡◌, ℕ, ◌<◌, ◌≤◌, ◌⊎◌, inl, inr, List, [], ◌∷◌, ◌++◌, length, refl, ap, ◌∙◌, arith}
use Rattle.std.proofs.Math.ListN.{length-append}
use Rattle.std.proofs.Math.Nat.{eq-or-lt_of_le}
use Rattle.l4_explore.specs.Orders.{IsLower, IsBefore, IsNotAfter}

lower_trans : (s t u : List ℕ) → IsLower s t → IsLower t u → IsLower s u
lower_trans [] t u a b = absurd a
lower_trans (x ∷ s) [] u a b = absurd a
lower_trans (x ∷ s) (y ∷ t) [] a b = absurd b
lower_trans (x ∷ s) (y ∷ t) (z ∷ u) a b = by a b (lower_trans s t u)
  where
    by : (x < y) ⊎ ((x ≡ y) × IsLower s t) → (y < z) ⊎ ((y ≡ z) × IsLower t u) →
        (IsLower s t → IsLower t u → IsLower s u) →
        (x < z) ⊎ ((x ≡ z) × IsLower s u)
    by (inl l) (inl m) rest = inl (omega arith)
    by (inl l) (inr m) rest = inl (omega (arith, m.0))
    by (inr e) (inl m) rest = inl (omega (arith, e.0))
    by (inr e) (inr m) rest = inr (e.0 ∙ m.0, rest e.1 m.1)

lower_append : (s t : List ℕ) (x y : ℕ) → IsLower s t → IsLower (s ++ x ∷ []) (t ++ y ∷ [])
lower_append [] t x y a = absurd a
lower_append (v ∷ s) [] x y a = absurd a
lower_append (v ∷ s) (w ∷ t) x y a = by a (lower_append s t x y)
  where
    by : (v < w) ⊎ ((v ≡ w) × IsLower s t) → (IsLower s t → IsLower (s ++ x ∷ []) (t ++ y ∷ [])) →
        (v < w) ⊎ ((v ≡ w) × IsLower (s ++ x ∷ []) (t ++ y ∷ []))
    by (inl l) rest = inl l
    by (inr e) rest = inr (e.0, rest e.1)

lower_last : (s : List ℕ) (x y : ℕ) → x < y → IsLower (s ++ x ∷ []) (s ++ y ∷ [])
lower_last [] x y l = inl l
lower_last (v ∷ s) x y l = inr (refl, lower_last s x y l)

lower_never : (s : List ℕ) → IsLower s s → ⊥
lower_never [] a = a
lower_never (x ∷ s) a = by a (lower_never s)
  where
    by : (x < x) ⊎ ((x ≡ x) × IsLower s s) → (IsLower s s → ⊥) → ⊥
    by (inl l) rest = omega arith
    by (inr e) rest = rest e.1

-- Earlier schedules

pub before_length : (s t : List ℕ) → IsBefore s t → length s ≤ length t
before_length s t (inl l) = omega arith
before_length s t (inr e) = omega (arith, e.0)

pub not_after_length : (s t : List ℕ) → IsNotAfter s t → length s ≤ length t
not_after_length s t (inl e) = omega (arith, ap length e)
not_after_length s t (inr b) = before_length s t b

pub before_trans : (s t u : List ℕ) → IsBefore s t → IsBefore t u → IsBefore s u
before_trans s t u (inl l) (inl m) = inl (omega arith)
before_trans s t u (inl l) (inr m) = inl (omega (arith, m.0))
before_trans s t u (inr e) (inl m) = inl (omega (arith, e.0))
before_trans s t u (inr e) (inr m) = inr (e.0 ∙ m.0, lower_trans s t u e.1 m.1)

pub before_never : (s : List ℕ) → IsBefore s s → ⊥
before_never s (inl l) = omega arith
before_never s (inr e) = lower_never s e.1

pub before_append : (s t : List ℕ) (x y : ℕ) → IsBefore s t → IsBefore (s ++ x ∷ []) (t ++ y ∷ [])
before_append s t x y (inl l) =
    inl (omega (arith, length-append s (x ∷ []), length-append t (y ∷ [])))
before_append s t x y (inr e) =
    inr (
      omega (arith, e.0, length-append s (x ∷ []), length-append t (y ∷ [])),
      lower_append s t x y e.1,
    )

pub before_last : (s : List ℕ) (x y : ℕ) → x < y → IsBefore (s ++ x ∷ []) (s ++ y ∷ [])
before_last s x y l =
    inr (omega (arith, length-append s (x ∷ []), length-append s (y ∷ [])), lower_last s x y l)

-- Schedules that are not later

pub before_not_after : (s t u : List ℕ) → IsBefore s t → IsNotAfter t u → IsBefore s u
before_not_after s t u a (inl e) = rw (← e) a
before_not_after s t u a (inr b) = before_trans s t u a b

pub not_after_trans : (s t u : List ℕ) → IsNotAfter s t → IsNotAfter t u → IsNotAfter s u
not_after_trans s t u (inl e) b = rw e b
not_after_trans s t u (inr a) b = inr (before_not_after s t u a b)

pub not_after_append : (s t : List ℕ) (x : ℕ) → IsNotAfter s t →
    IsNotAfter (s ++ x ∷ []) (t ++ x ∷ [])
not_after_append s t x (inl e) = inl (ap (λ u. u ++ x ∷ []) e)
not_after_append s t x (inr b) = inr (before_append s t x x b)

pub not_after_last : (s : List ℕ) (x y : ℕ) → x ≤ y → IsNotAfter (s ++ x ∷ []) (s ++ y ∷ [])
not_after_last s x y l = by (eq-or-lt_of_le l)
  where
    by : (x ≡ y) ⊎ (x < y) → IsNotAfter (s ++ x ∷ []) (s ++ y ∷ [])
    by (inl e) = inl (ap (λ z. s ++ z ∷ []) e)
    by (inr l) = inr (before_last s x y l)
