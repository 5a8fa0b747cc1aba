-- Bits of a number, as a set of processors.
use Rattle.std.proofs.Common.{◌≡◌, ℕ, zero, suc, ◌-◌, ◌*◌, ◌%◌, ◌^◌, ◌<◌, ◌≤◌, ◌⊎◌, inl, inr, true, ◌||◌, refl, sym, ap, ◌∙◌, arith, bit_or}
use Rattle.std.specs.Prelude.{◌==◌, max}
use Rattle.std.specs.Int.{bit_at}
use Rattle.std.proofs.lemmas.Bool.{cases_eq, eq-eqb, ne_eqb}
use Rattle.std.proofs.lemmas.Nat.{one_shl, pow_pos}
use Rattle.std.proofs.lemmas.Nat.Bits.{bit_at_or, bit_at-lt, bit_at-pow_same, bit_at-pow_other, bit_at_mask_inside}
use Rattle.l4_sets.specs.Inner.Sets.{has}

pub one_has : (k i : ℕ) → k < 32 → has (1 * 2 ^ k % 4294967296) i ≡ (k == i)
one_has k i small = ap (λ n. has n i) (one_shl k 32 small) ∙ by (cases_eq k i)
  where
    by : (k ≡ i) ⊎ (k ≡ i → ⊥) → has (2 ^ k) i ≡ (k == i)
    by (inl e) =
        ap (λ n. n == 1) (ap (bit_at (2 ^ k)) (sym e) ∙ bit_at-pow_same k) ∙ sym (eq-eqb k i e)
    by (inr e) =
        ap (λ n. n == 1) (bit_at-pow_other k i (λ same. e (sym same))) ∙ sym (ne_eqb k i e)

pub union_has : (a b i : ℕ) → has (bit_or a b) i ≡ (has a i || has b i)
union_has a b i =
    ap (λ n. n == 1) (bit_at_or a b i) ∙ by (bit_at a i) (bit_at b i) (bit_at-lt a i) (bit_at-lt b i)
  where
    by : (x y : ℕ) → x < 2 → y < 2 → (max x y == 1) ≡ ((x == 1) || (y == 1))
    by zero zero l k = refl
    by zero (suc zero) l k = refl
    by (suc zero) zero l k = refl
    by (suc zero) (suc zero) l k = refl
    by (suc (suc x)) y l k = absurd (omega (arith, l))
    by x (suc (suc y)) l k = absurd (omega (arith, k))

pub from_has : (first i : ℕ) → first < 32 → first ≤ i → i < 32 →
    has (4294967295 - (1 * 2 ^ first % 4294967296 - 1)) i ≡ true
from_has first i small from below =
    ap (λ n. has (4294967295 - (n - 1)) i) (one_shl first 32 small)
    ∙ ap (λ n. has n i) mask ∙ ap (λ n. n == 1) (bit_at_mask_inside first 32 i from below)
  where
    mask : 4294967295 - (2 ^ first - 1) ≡ 2 ^ 32 - 2 ^ first
    mask = omega (arith, pow_pos first)
