-- How far deadlines are ahead.
use Rattle.std.proofs.Common.{◌≡◌, ℕ, ◌+◌, ◌-◌, ◌≤◌, Bool, true, false, cond, ◌==◌, Some, None, List, [], ◌∷◌, map, refl, ap, ◌∙◌, arith}
use Rattle.std.specs.Prelude.{nat_le, not}
use Rattle.std.proofs.lemmas.Bool.{leb-false, leb-true}
use Rattle.l4_model.specs.Words.{Period}
use Rattle.l4_core_model.specs.Plain as plain
use Rattle.l4_core_model.specs.Local.{armed_for}
use Rattle.l4_bisimilar.specs.Shifted.{ahead}

-- Two tests of equivalent facts
same_tests : (a b c d : ℕ) → (a ≤ b → c ≤ d) → (c ≤ d → a ≤ b) → nat_le a b ≡ nat_le c d
same_tests a b c d there back = by (nat_le a b) (nat_le c d) refl refl
  where
    by : (x y : Bool) → nat_le a b ≡ x → nat_le c d ≡ y → x ≡ y
    by true true p q = refl
    by false false p q = refl
    by true false p q = absurd (omega (arith, there (leb-true a b p), leb-false c d q))
    by false true p q = absurd (omega (arith, back (leb-true c d q), leb-false a b p))

-- A later deadline of a period that begins now is as much later of those ahead.
later_ahead : (x clock n : ℕ) → nat_le x (clock + n) ≡ nat_le (x - clock) n
later_ahead x clock n =
    same_tests x (clock + n) (x - clock) n (λ h. omega (arith, h)) (λ h. omega (arith, h))

due_ahead : (x clock : ℕ) → nat_le x clock ≡ nat_le (x - clock) 0
due_ahead x clock =
    same_tests x clock (x - clock) 0 (λ h. omega (arith, h)) (λ h. omega (arith, h))

put_ahead : (clock n i : ℕ) (xs : List (ℕ × ℕ)) →
    map (ahead clock) (plain.put_entry (clock + n, i) xs)
    ≡ plain.put_entry (n, i) (map (ahead clock) xs)
put_ahead clock n i [] =
    ap (λ d. let e : ℕ × ℕ = (d, i) in e ∷ []) (let s : (clock + n) - clock ≡ n = omega arith in s)
put_ahead clock n i (x ∷ xs) =
    by (nat_le x.0 (clock + n)) (nat_le (x.0 - clock) n) (later_ahead x.0 clock n)
    (put_ahead clock n i xs)
  where
    same : (clock + n) - clock ≡ n
    same = omega arith

    by : (b c : Bool) → b ≡ c →
        map (ahead clock) (plain.put_entry (clock + n, i) xs)
        ≡ plain.put_entry (n, i) (map (ahead clock) xs) →
        map (ahead clock) (cond b (x ∷ plain.put_entry (clock + n, i) xs) ((clock + n, i) ∷ x ∷ xs))
        ≡ cond c (ahead clock x ∷ plain.put_entry (n, i) (map (ahead clock) xs))
        ((n, i) ∷ ahead clock x ∷ map (ahead clock) xs)
    by true true e rest = ap (λ (ys : List (ℕ × ℕ)). ahead clock x ∷ ys) rest
    by false false e rest =
        ap (λ d. let f : ℕ × ℕ = (d, i) in f ∷ ahead clock x ∷ map (ahead clock) xs) same
    by true false e rest = cc
    by false true e rest = cc

without_ahead : (clock i : ℕ) (xs : List (ℕ × ℕ)) →
    map (ahead clock) (plain.without_block i xs) ≡ plain.without_block i (map (ahead clock) xs)
without_ahead clock i [] = refl
without_ahead clock i (x ∷ xs) = by (not (i == x.1)) (without_ahead clock i xs)
  where
    by : (b : Bool) →
        map (ahead clock) (plain.without_block i xs)
        ≡ plain.without_block i (map (ahead clock) xs) →
        map (ahead clock) (cond b (x ∷ plain.without_block i xs) (plain.without_block i xs))
        ≡ cond b (ahead clock x ∷ plain.without_block i (map (ahead clock) xs))
        (plain.without_block i (map (ahead clock) xs))
    by true rest = ap (λ (ys : List (ℕ × ℕ)). ahead clock x ∷ ys) rest
    by false rest = rest

armed_ahead : (period : Period) (clock i : ℕ) (xs : List (ℕ × ℕ)) →
    map (ahead clock) (armed_for period clock i xs) ≡ armed_for period 0 i (map (ahead clock) xs)
armed_ahead None clock i xs = refl
armed_ahead (Some n) clock i xs =
    put_ahead clock n i xs
    ∙ ap (λ d. plain.put_entry (d, i) (map (ahead clock) xs)) (let s : n ≡ 0 + n = omega arith in s)

pub rearmed_ahead : (period : Period) (clock i : ℕ) (xs : List (ℕ × ℕ)) →
    map (ahead clock) (armed_for period clock i (plain.without_block i xs))
    ≡ armed_for period 0 i (plain.without_block i (map (ahead clock) xs))
rearmed_ahead period clock i xs =
    armed_ahead period clock i (plain.without_block i xs)
    ∙ ap (armed_for period 0 i) (without_ahead clock i xs)

pub due_block_ahead : (clock : ℕ) (xs : List (ℕ × ℕ)) →
    plain.due_block clock xs ≡ plain.due_block 0 (map (ahead clock) xs)
due_block_ahead clock [] = refl
due_block_ahead clock (x ∷ xs) =
    ap (λ b. cond b (Some x.1) None) (due_ahead x.0 clock)

-- A clock goes on.
pub ticked_ahead : (clock to : ℕ) (xs : List (ℕ × ℕ)) → clock ≤ to →
    map (ahead to) xs ≡ map (ahead (to - clock)) (map (ahead clock) xs)
ticked_ahead clock to [] le = refl
ticked_ahead clock to (x ∷ xs) le = λ j. (one j, x.1) ∷ ticked_ahead clock to xs le j
  where
    one : x.0 - to ≡ (x.0 - clock) - (to - clock)
    one = omega arith
