-- Times that count microseconds: which numbers have a time, and what does not end with a unit.
use Rattle.std.proofs.Common.{◌≡◌, ℕ, suc, ◌+◌, ◌-◌, ◌*◌, ◌/◌, ◌^◌, ◌<◌, ◌≤◌, Bool, true, false, cond, List, drop, length, get_or, Option, Some, None, Err, refl, ap, sym, ◌∙◌, arith, get_or-drop, length-drop}
use Rattle.std.specs.Prelude.{◌==◌, ◌||◌, not, nat_lt, codes, find, is_some}
use Rattle.std.specs.List.{range_with_len}
use Rattle.std.proofs.lemmas.Bool.{ltb-true, eqb-true, ne_eqb, eq-eqb, and_parts, and_from, false_from_ne_true, false≢true}
use Rattle.std.proofs.lemmas.Nat.{mul-le}
use Rattle.std.proofs.lemmas.Slice.Eq.{bytes_eq-Decides}
use Rattle.std.proofs.Math.Pow.{pow_mono}
use Rattle.l4_script.specs.declared.text.fault.TextFaultKind.TheVariants.{BadNumber}
use Rattle.l4_script.specs.Numbers.{time_from}
use Rattle.l4_script.specs.Canonical.{is_exponent, exponent_of}
use Rattle.l4_script.specs.Second.Lines.{ends_with_byte}
use Rattle.l4_script.specs.Second.Operands.{exact_period, ends_with, second_time_from}
use Rattle.l4_script.proofs.Times.{exponent_found}

-- One more exponent

abbrev fits_from : (ticks exponent : ℕ) → Bool
fits_from ticks exponent = is_some (find (is_exponent ticks) (range_with_len exponent (32 - exponent)))

next_exponent : (ticks exponent : ℕ) → exponent < 32 → fits_from ticks exponent ≡ (is_exponent ticks exponent || fits_from ticks (exponent + 1))
next_exponent ticks exponent within =
    let left : 32 - exponent ≡ suc (32 - (exponent + 1)) = omega arith in
    ap (λ (n : ℕ). is_some (find (is_exponent ticks) (range_with_len exponent n))) left
    ∙ by_test (is_exponent ticks exponent) (find (is_exponent ticks) (range_with_len (exponent + 1) (32 - (exponent + 1))))
  where
    by_test : (b : Bool) (later : Option ℕ) → is_some (cond b (Some exponent) later) ≡ (b || is_some later)
    by_test true later = refl
    by_test false later = refl

pub exponent_here : (ticks exponent : ℕ) → exponent < 32 → is_exponent ticks exponent ≡ true → fits_from ticks exponent ≡ true
exponent_here ticks exponent within e = next_exponent ticks exponent within ∙ ap (λ (b : Bool). b || fits_from ticks (exponent + 1)) e

pub exponent_later : (ticks exponent : ℕ) → exponent < 32 → is_exponent ticks exponent ≡ false → fits_from ticks exponent ≡ fits_from ticks (exponent + 1)
exponent_later ticks exponent within e = next_exponent ticks exponent within ∙ ap (λ (b : Bool). b || fits_from ticks (exponent + 1)) e

-- A number that a time means is small.

pub exponent_small : (ticks : ℕ) → is_some (exponent_of ticks) ≡ true → ticks < 2 ^ 42
exponent_small ticks h = by (exponent_of ticks) refl h
  where
    small : (e : ℕ) → is_exponent ticks e ≡ true → e < 32 → ticks < 2 ^ 42
    small e fits low =
        let parts = and_parts (nat_lt (ticks / 2 ^ e) (2 ^ 10)) (ticks / 2 ^ e * 2 ^ e == ticks) fits in
        let mantissa = ltb-true (ticks / 2 ^ e) (2 ^ 10) parts.0 in
        let whole = eqb-true (ticks / 2 ^ e * 2 ^ e) ticks parts.1 in
        let power : 2 ^ e ≤ 2 ^ 31 = pow_mono {i = e} {j = 31} (omega (arith, low)) in
        let product = mul-le (ticks / 2 ^ e) (2 ^ e) 1023 (2 ^ 31) (omega (arith, mantissa)) power in
        omega (arith, product, whole)

    by : (o : Option ℕ) → exponent_of ticks ≡ o → is_some o ≡ true → ticks < 2 ^ 42
    by None e h = absurd cc
    by (Some x) e h = let at = exponent_found ticks x e in small x at.0 at.1

pub too_many : (ticks : ℕ) → 2 ^ 42 ≤ ticks → exact_period ticks ≡ Err BadNumber
too_many ticks h =
    let some : (ticks == 0) ≡ false = ne_eqb ticks 0 (λ e. omega (arith, h, e)) in
    let none : is_some (exponent_of ticks) ≡ false = false_from_ne_true (is_some (exponent_of ticks)) (λ e. omega (arith, h, exponent_small ticks e)) in
    rw (some, none) refl

-- What does not end with `s`, byte 115, ends with no unit.

ends_so : (ending word : List ℕ) → 0 < length ending → get_or ending (length ending - 1) 0 ≡ 115 → ends_with ending word ≡ true → ends_with_byte 115 word ≡ true
ends_so ending word some last e =
    let from = length word - length ending in
    let same : drop from word ≡ ending = (bytes_eq-Decides (drop from word) ending).0 e in
    let size : length word - from ≡ length ending = sym (length-drop from word) ∙ ap length same in
    let place : from + (length ending - 1) ≡ length word - 1 = omega (arith, size, some) in
    let at : get_or word (length word - 1) 0 ≡ 115 =
    ap (λ (i : ℕ). get_or word i 0) (sym place) ∙ sym (get_or-drop from word (length ending - 1) 0) ∙ ap (λ (l : List ℕ). get_or l (length ending - 1) 0) same ∙ last in
    and_from (not (length word == 0)) (get_or word (length word - 1) 0 == 115)
    (ap not (ne_eqb (length word) 0 (λ none. omega (arith, size, some, none)))) (eq-eqb (get_or word (length word - 1) 0) 115 at)

no_ending : (ending word : List ℕ) → 0 < length ending → get_or ending (length ending - 1) 0 ≡ 115 → ends_with_byte 115 word ≡ false → ends_with ending word ≡ false
no_ending ending word some last none =
    false_from_ne_true (ends_with ending word) (λ e. false≢true (sym none ∙ ends_so ending word some last e))

pub plain_time : (word : List ℕ) → ends_with_byte 115 word ≡ false → second_time_from word ≡ time_from word
unfolding second_time_from
plain_time word none =
    rw (no_ending (codes "us") word (omega arith) refl none, no_ending (codes "ms") word (omega arith) refl none, no_ending (codes "s") word (omega arith) refl none) refl
