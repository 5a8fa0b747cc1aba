-- A period has a time exactly where some time means it, and its least time is read as it.
use Rattle.std.proofs.Common.{◌≡◌, ℕ, zero, suc, ◌+◌, ◌*◌, ◌/◌, ◌%◌, ◌^◌, ◌<◌, ◌≤◌, Bool, true, false, cond, eqb, List, [], ◌∷◌, Option, Some, None, Ok, refl, ap, subst, sym, ◌∙◌, arith}
use Rattle.std.specs.Prelude.{nat_lt, codes, decimal, bytes_eq, find, is_some}
use Rattle.std.specs.Char.{digit_value}
use Rattle.std.specs.List.{range_with_len}
use Rattle.std.specs.Str.Parse.{IsNumeral}
use Rattle.std.proofs.lemmas.Bool.{ltb-true, lt-ltb, eqb-true, eq-eqb, eqb-false, ne_eqb, and_parts, and_from, false≢true}
use Rattle.std.proofs.lemmas.Bool.Decides.{nat_tests}
use Rattle.std.proofs.lemmas.Fmt.{decimal_is_IsNumeral}
use Rattle.std.proofs.lemmas.Nat.{pow_pos, div-mul-add, mod-mul-add}
use Rattle.std.proofs.Math.Nat.{mul-div_cancel, mul_comm, zero-mul}
use Rattle.l4_model.specs.Words.{Period, period_of}
use Rattle.l4_script.specs.Numbers.{number_from, period_number, time_from}
use Rattle.l4_script.specs.Canonical.{is_exponent, exponent_of, ticks_word, time_word, has_time}
use Rattle.l4_script.proofs.Judging.{bind_ok, chosen, says, same_ok, number_within}
use Rattle.l4_script.proofs.Spelled.{ranged_read}

-- The first number of a range that passes

passes : (p : ℕ → Bool) (a n i : ℕ) → a ≤ i → i < a + n → p i ≡ true → is_some (find p (range_with_len a n)) ≡ true
passes p a zero i low high h = absurd (omega (arith, low, high))
passes p a (suc n) i low high h = by_test (p a) refl (λ ne. passes p (a + 1) n i (omega (arith, low, ne)) (omega (arith, high)) h)
  where
    by_test : (b : Bool) → p a ≡ b → ((a ≡ i → ⊥) → is_some (find p (range_with_len (a + 1) n)) ≡ true) → is_some (cond b (Some a) (find p (range_with_len (a + 1) n))) ≡ true
    by_test true t rest = refl
    by_test false t rest = rest (λ e. false≢true (sym t ∙ subst (λ (x : ℕ). p x ≡ true) (sym e) h))

found : (p : ℕ → Bool) (a n e : ℕ) → find p (range_with_len a n) ≡ Some e → (p e ≡ true) × (e < a + n)
found p a zero e h = absurd cc
found p a (suc n) e h = by_test (p a) refl h (found p (a + 1) n e)
  where
    by_test : (b : Bool) → p a ≡ b → cond b (Some a) (find p (range_with_len (a + 1) n)) ≡ Some e
        → (find p (range_with_len (a + 1) n) ≡ Some e → (p e ≡ true) × (e < a + 1 + n)) → (p e ≡ true) × (e < a + suc n)
    by_test true t h rest = let same : a ≡ e = cc in (subst (λ (x : ℕ). p x ≡ true) same t, omega (arith, same))
    by_test false t h rest = let later = rest h in (later.0, omega (arith, later.1))

-- What a time means has a time.

pub mantissa_found : (m e : ℕ) → m < 1024 → e < 32 → is_some (exponent_of (2 ^ e * m)) ≡ true
unfolding exponent_of
mantissa_found m e small low = passes (is_exponent (2 ^ e * m)) 0 32 e (omega arith) (omega (arith, low)) fits
  where
    cut : 2 ^ e * m / 2 ^ e ≡ m
    cut = ap (λ n. n / 2 ^ e) (mul_comm (2 ^ e) m) ∙ mul-div_cancel m (pow_pos e)

    fits : is_exponent (2 ^ e * m) e ≡ true
    fits = rw cut (and_from _ _ (lt-ltb m (2 ^ 10) small) (eq-eqb (m * 2 ^ e) (2 ^ e * m) (mul_comm m (2 ^ e))))

period_found : (t : ℕ) → t ≤ 0x7fff → has_time (period_of t) ≡ true
period_found t upper = by_test (eqb t 0)
  where
    by_test : (b : Bool) → has_time (cond b None (Some (2 ^ (t / 1024) * (t % 1024)))) ≡ true
    by_test true = refl
    by_test false = mantissa_found (t % 1024) (t / 1024) (omega arith) (omega (arith, upper))

named : (name : Period) (p : Period) → has_time name ≡ true → says name ≡ says p → has_time p ≡ true
named name p good e = subst (λ (p : Period). has_time p ≡ true) (same_ok name p e) good

number_said : (word : List ℕ) (p : Period) → period_number word ≡ Ok p → has_time p ≡ true
unfolding period_number
number_said word p e =
    let time = bind_ok (number_from 0 0x7fff word) _ p e in
    named (period_of time.0) p (period_found time.0 (number_within 0 0x7fff word time.0 time.1).1) time.2

pub time_said : (word : List ℕ) (p : Period) → time_from word ≡ Ok p → has_time p ≡ true
unfolding time_from
time_said word p e =
    chosen (has_time p ≡ true) (bytes_eq word (codes "never")) (says (period_of 0)) _ (says p) e (λ t. named (period_of 0) p refl) (λ e.
    chosen (has_time p ≡ true) (bytes_eq word (codes "zero")) (says (period_of 0x400)) _ (says p) e (λ t. named (period_of 0x400) p (period_found 0x400 (omega arith))) (λ e.
    number_said word p e))

-- What has a time is read of its time.

-- A word that is the number of a time.
pub record IsTimeOf (word : List ℕ) (ticks : ℕ) : Type 0 where
  pub number : ℕ
  pub spelled : word ≡ decimal number
  pub upper : number ≤ 0x7fff
  pub means : period_of number ≡ Some ticks

-- An exponent with a mantissa means their product.
time_means : (e m ticks : ℕ) → m < 2 ^ 10 → m * 2 ^ e ≡ ticks → ¬ (ticks ≡ 0) → period_of (e * 2 ^ 10 + m) ≡ Some ticks
time_means e m ticks small whole some =
    rw (
      ne_eqb (e * 2 ^ 10 + m) 0 (λ none. let no_mantissa : m ≡ 0 = omega (arith, none) in some (sym whole ∙ ap (λ (m : ℕ). m * 2 ^ e) no_mantissa ∙ zero-mul (2 ^ e))),
      div-mul-add e (2 ^ 10) m small,
      mod-mul-add e (2 ^ 10) m small,
      mul_comm (2 ^ e) m,
      whole,
    ) refl

spelled_at : (ticks e : ℕ) → ¬ (ticks ≡ 0) → is_exponent ticks e ≡ true → e < 32 → IsTimeOf (ticks_word ticks (Some e)) ticks
spelled_at ticks e some fits low =
    record { number = number; spelled = refl; upper = omega (arith, small, low); means = means }
  where
    number : ℕ
    number = e * 2 ^ 10 + ticks / 2 ^ e

    small : ticks / 2 ^ e < 2 ^ 10
    small = ltb-true (ticks / 2 ^ e) (2 ^ 10) (and_parts (nat_lt (ticks / 2 ^ e) (2 ^ 10)) _ fits).0

    whole : ticks / 2 ^ e * 2 ^ e ≡ ticks
    whole = eqb-true (ticks / 2 ^ e * 2 ^ e) ticks (and_parts (nat_lt (ticks / 2 ^ e) (2 ^ 10)) _ fits).1

    means : period_of number ≡ Some ticks
    means = time_means e (ticks / 2 ^ e) ticks small whole some

pub exponent_found : (ticks e : ℕ) → exponent_of ticks ≡ Some e → (is_exponent ticks e ≡ true) × (e < 32)
unfolding exponent_of
exponent_found ticks e h = found (is_exponent ticks) 0 32 e h

pub spelled_time : (ticks : ℕ) → ¬ (ticks ≡ 0) → is_some (exponent_of ticks) ≡ true → IsTimeOf (ticks_word ticks (exponent_of ticks)) ticks
spelled_time ticks some h = by_case (exponent_of ticks) refl h
  where
    by_case : (o : Option ℕ) → exponent_of ticks ≡ o → is_some o ≡ true → IsTimeOf (ticks_word ticks o) ticks
    by_case None e h = absurd cc
    by_case (Some x) e h = let at = exponent_found ticks x e in spelled_at ticks x some at.0 at.1

digit_no_name : (c : ℕ) → digit_value c < 10 → (eqb c 110 ≡ false) × (eqb c 122 ≡ false)
digit_no_name c l = (grind (arith, nat_tests), grind (arith, nat_tests))

-- What begins with a digit is no name.
time_by_number : (word : List ℕ) → IsNumeral 10 word → time_from word ≡ period_number word
unfolding time_from
time_by_number [] h = absurd (omega (arith, h.0))
time_by_number (c ∷ cs) h = let other = digit_no_name c h.1.0 in rw (other.0, other.1) refl

number_read : (word : List ℕ) (ticks : ℕ) → IsTimeOf word ticks → time_from word ≡ Ok (Some ticks)
unfolding period_number
number_read word ticks h =
    let small = h.upper in
    rw (h.spelled, time_by_number (decimal h.number) (decimal_is_IsNumeral h.number (omega (arith, small))).0, ranged_read 0 0x7fff h.number (omega arith) h.upper (omega arith), h.means) refl

pub time_read : (p : Period) → has_time p ≡ true → time_from (time_word p) ≡ Ok p
unfolding time_from
time_read None h = refl
time_read (Some ticks) h = by_test (eqb ticks 0) refl
  where
    by_test : (b : Bool) → eqb ticks 0 ≡ b → time_from (cond b (codes "zero") (ticks_word ticks (exponent_of ticks))) ≡ Ok (Some ticks)
    by_test true t = ap (λ (n : ℕ). says (Some n)) (sym (eqb-true ticks 0 t))
    by_test false t = number_read (ticks_word ticks (exponent_of ticks)) ticks (spelled_time ticks (eqb-false ticks 0 t) h)
