-- The digits in front of a separator, which is no digit.
use Rattle.std.proofs.Common.{◌≡◌, ℕ, zero, suc, ◌<◌, ◌≤◌, Bool, true, false, cond, ltb, List, [], ◌∷◌, length, take, get_or, Option, Some, None, is_some, refl, sym, ap, ◌∙◌, arith, le_refl}
use Rattle.std.specs.Prelude.{◌==◌}
use Rattle.std.specs.List.{prefix_len, position}
use Rattle.std.proofs.lemmas.Bool.{false≢true, eqb-true, eq-eqb, ltb-true, ltb-false, false_from_ne_true}
use Rattle.std.proofs.lemmas.List.{get_or-take, length-take-le}
use Rattle.std.proofs.lemmas.List.Quantifiers.{position-Some}
use Rattle.std.proofs.lemmas.List.Sums.{position_or_len_is, prefix_len_passes, prefix_len_stops}
use Rattle.l4_model.specs.Conditions.{◌>>=◌}
use Rattle.l4_words.specs.Numbers.{digit_of, with_digit, number_onto, value_of, has_leading_zero, number_of}
use Rattle.l4_words.proofs.Front.{is_digit}
use Rattle.l4_words.proofs.Places.{at_place, at_end}
use Rattle.l4_words.proofs.Splits.{place_at}

none_of : {A : Type 0} (o : Option A) → is_some o ≡ false → o ≡ None
none_of None e = refl
none_of (Some a) e = absurd (false≢true (sym e))

always_none : (o : Option ℕ) (f : ℕ → Option ℕ) → ((a : ℕ) → f a ≡ None) → (o >>= f) ≡ None
always_none None f none = refl
always_none (Some a) f none = none a

none_either : (b : Bool) (o : Option ℕ) → o ≡ None → cond b None o ≡ None
none_either true o e = refl
none_either false o e = e

not_onto : (radix value : ℕ) (bytes : List ℕ) (k : ℕ) → k < length bytes → is_digit radix (get_or bytes k 0) ≡ false → number_onto radix value bytes ≡ None
not_onto radix value [] k below other = absurd (omega (arith, below))
not_onto radix value (byte ∷ bytes) zero below other = rw (none_of (digit_of radix byte) other) refl
not_onto radix value (byte ∷ bytes) (suc k) below other =
    always_none (with_digit radix value byte) (λ more. number_onto radix more bytes) (λ more. not_onto radix more bytes k (omega (arith, below)) other)

-- Bytes of which one is no digit are no number.
pub not_number : (radix : ℕ) (bytes : List ℕ) (k : ℕ) → k < length bytes → is_digit radix (get_or bytes k 0) ≡ false → number_of radix bytes ≡ None
not_number radix bytes k below other =
    none_either (has_leading_zero bytes) (value_of radix bytes) (none_either (length bytes == 0) (number_onto radix 0 bytes) (not_onto radix 0 bytes k below other))

module _ (radix separator : ℕ) (apart : is_digit radix separator ≡ false) (text : List ℕ) where
  abbrev end : ℕ
  end = prefix_len (is_digit radix) text

  abbrev is_separator : ℕ → Bool
  is_separator byte = byte == separator

  not_before : (k : ℕ) → k < end → is_separator (get_or text k 0) ≡ false
  not_before k below = false_from_ne_true _ (λ e.
      let same = eqb-true (get_or text k 0) separator e in
      let passes = prefix_len_passes (is_digit radix) text k 0 below in
      false≢true (sym apart ∙ ap (is_digit radix) (sym same) ∙ passes))

  pub separator_behind : end < length text → get_or text end 0 ≡ separator → position is_separator text ≡ Some end
  separator_behind within e =
      at_place is_separator text end within (position_or_len_is is_separator text end 0 (omega (arith, within)) not_before (λ inside. eq-eqb (get_or text end 0) separator e))

  pub no_separator : end ≡ length text → position is_separator text ≡ None
  no_separator e =
      at_end is_separator text (position_or_len_is is_separator text (length text) 0 (le_refl (length text)) (λ k below. not_before k (omega (arith, e, below))) (λ inside. absurd (omega (arith, inside))))

  behind_end : (i : ℕ) → (get_or text end 0 ≡ separator → ⊥) → is_separator (get_or text i 0) ≡ true → end < i
  behind_end i other stands = by_test (ltb end i) refl
    where
      at_end_or_before : (b : Bool) → ltb i end ≡ b → i ≤ end → end < i
      at_end_or_before true t low = absurd (false≢true (sym (not_before i (ltb-true i end t)) ∙ stands))
      at_end_or_before false t low =
          let same : i ≡ end = omega (arith, ltb-false i end t, low) in
          absurd (other (ap (λ (k : ℕ). get_or text k 0) (sym same) ∙ eqb-true (get_or text i 0) separator stands))

      by_test : (b : Bool) → ltb end i ≡ b → end < i
      by_test true t = ltb-true end i t
      by_test false t = at_end_or_before (ltb i end) refl (ltb-false end i t)

  -- What follows the digits is another byte: so what stands in front of the separator is no number.
  pub spoiled : end < length text → (get_or text end 0 ≡ separator → ⊥) → (i : ℕ) → position is_separator text ≡ Some i → number_of radix (take i text) ≡ None
  spoiled within other i e =
      let at = place_at is_separator text i e in
      let stands = position-Some is_separator text i 0 e in
      let behind = behind_end i other stands.1 in
      let size = length-take-le i text (omega (arith, at.1)) in
      not_number radix (take i text) end (omega (arith, behind, size)) (ap (is_digit radix) (get_or-take i text end 0 behind) ∙ prefix_len_stops (is_digit radix) text 0 within)

  pub spoiled_whole : end < length text → number_of radix text ≡ None
  spoiled_whole within = not_number radix text end within (prefix_len_stops (is_digit radix) text 0 within)
