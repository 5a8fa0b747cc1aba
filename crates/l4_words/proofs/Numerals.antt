-- Each number below 2^64 has one spelling in a base, the one that is written.
use Rattle.std.proofs.Common.{◌≡◌, ℕ, zero, suc, ◌+◌, ◌-◌, ◌*◌, ◌/◌, ◌%◌, ◌^◌, ◌<◌, ◌≤◌, Bool, true, false, cond, ltb, ◌&&◌, List, [], ◌∷◌, ◌++◌, length, get_or, Option, Some, None, refl, sym, ap, subst, inl, inr, ◌∙◌, append-nil, arith}
use Rattle.std.specs.Prelude.{◌==◌, nat_le, nat_lt, decimal}
use Rattle.std.specs.Fmt.{digits, digits_onto, digit_glyph}
use Rattle.std.proofs.lemmas.Bool.{and_from, and_right, not_from_false, false≢true, ltb-true, lt-ltb, eq-eqb, ne_eqb, cases_eq}
use Rattle.std.proofs.lemmas.Bool.Decides.{nat_tests}
use Rattle.std.proofs.lemmas.Fmt.{digits_is_IsNumeral}
use Rattle.std.proofs.Math.Nat.{pow-suc, pow-le-pow_right, zero-mul}
use Rattle.l4_model.specs.Conditions.{◌>>=◌, ◌>>◌}
use Rattle.l4_words.specs.Numbers.{hexadecimal, is_word, digit_of, with_digit, number_onto, value_of, has_leading_zero, number_of, padded_of}

-- What a base has to meet.
record IsRadix (radix : ℕ) : Type 0 where
  low : 2 ≤ radix
  high : radix ≤ 16
  last : (n : ℕ) → n % radix < radix
  whole : (n : ℕ) → n / radix * radix + n % radix ≡ n
  front : (v d : ℕ) → d < radix → (v * radix + d) / radix ≡ v
  end : (v d : ℕ) → d < radix → (v * radix + d) % radix ≡ d
  alone : (d : ℕ) → d < radix → d / radix ≡ 0
  grows : (v d : ℕ) → 2 * v ≤ v * radix + d
  room : 2 ^ 64 ≤ radix ^ 64

ten : IsRadix 10
ten = record { low = omega arith; high = omega arith; last = λ n. omega arith; whole = λ n. omega arith; front = λ v d h. omega (arith, h); end = λ v d h. omega (arith, h); alone = λ d h. omega (arith, h); grows = λ v d. omega arith; room = omega arith }

sixteen : IsRadix 16
sixteen = record { low = omega arith; high = omega arith; last = λ n. omega arith; whole = λ n. omega arith; front = λ v d h. omega (arith, h); end = λ v d h. omega (arith, h); alone = λ d h. omega (arith, h); grows = λ v d. omega arith; room = omega arith }

-- Digits

abbrev face_of : ℕ → Option ℕ
face_of byte = cond (nat_le 48 byte && nat_le byte 57) (Some (byte - 48)) (cond (nat_le 97 byte && nat_le byte 102) (Some (byte - 87)) None)

face_of_glyph : (d : ℕ) → d < 16 → face_of (digit_glyph false d) ≡ Some d
face_of_glyph d small = by (ltb d 10) refl
  where
    by : (b : Bool) → ltb d 10 ≡ b → face_of (cond b (48 + d) (87 + d)) ≡ Some d
    by true e =
        let inside : (nat_le 48 (48 + d) && nat_le (48 + d) 57) ≡ true = grind (arith, nat_tests, e) in
        let value : 48 + d - 48 ≡ d = omega arith in
        rw inside (ap (λ (n : ℕ). Some n) value)
    by false e =
        let outside : (nat_le 48 (87 + d) && nat_le (87 + d) 57) ≡ false = grind (arith, nat_tests, e) in
        let inside : (nat_le 97 (87 + d) && nat_le (87 + d) 102) ≡ true = grind (arith, nat_tests, e) in
        let value : 87 + d - 87 ≡ d = omega arith in
        rw (outside, inside) (ap (λ (n : ℕ). Some n) value)

pub digit_written : (radix d : ℕ) → d < radix → radix ≤ 16 → digit_of radix (digit_glyph false d) ≡ Some d
digit_written radix d small high = rw (face_of_glyph d (omega arith), lt-ltb d radix small) refl

glyph_of_face : (byte d : ℕ) → face_of byte ≡ Some d → digit_glyph false d ≡ byte
glyph_of_face byte d h = by (nat_le 48 byte && nat_le byte 57) (nat_le 97 byte && nat_le byte 102) refl refl h
  where
    by : (a b : Bool) → (nat_le 48 byte && nat_le byte 57) ≡ a → (nat_le 97 byte && nat_le byte 102) ≡ b → cond a (Some (byte - 48)) (cond b (Some (byte - 87)) None) ≡ Some d → digit_glyph false d ≡ byte
    by true b p q h =
        let same : byte - 48 ≡ d = cc in
        let low : ltb d 10 ≡ true = grind (arith, nat_tests, p, same) in
        let bounds : 48 ≤ byte = grind (arith, nat_tests, p) in
        rw low (omega (arith, same, bounds))
    by false true p q h =
        let same : byte - 87 ≡ d = cc in
        let least : 97 ≤ byte = grind (arith, nat_tests, q) in
        let high : ltb d 10 ≡ false = grind (arith, nat_tests, least, same) in
        rw high (omega (arith, same, least))
    by false false p q h = cc

pub digit_spells : (radix byte d : ℕ) → digit_of radix byte ≡ Some d → (d < radix) × (digit_glyph false d ≡ byte)
digit_spells radix byte d h = by (face_of byte) refl h
  where
    tested : (x : ℕ) (b : Bool) → face_of byte ≡ Some x → ltb x radix ≡ b → (b >> Some x) ≡ Some d → (d < radix) × (digit_glyph false d ≡ byte)
    tested x true is e h =
        let same : x ≡ d = cc in
        let below = ltb-true x radix e in
        (omega (arith, below, same), glyph_of_face byte d (is ∙ ap (λ (n : ℕ). Some n) same))
    tested x false is e h = cc

    by : (o : Option ℕ) → face_of byte ≡ o → (o >>= λ digit. nat_lt digit radix >> Some digit) ≡ Some d → (d < radix) × (digit_glyph false d ≡ byte)
    by None is h = cc
    by (Some x) is h = tested x _ is refl h

-- What is written is read

last_digit : (radix : ℕ) → IsRadix radix → (k n : ℕ) (rest : List ℕ) → n / radix ≡ 0 → digits_onto (suc k) radix false n rest ≡ digit_glyph false (n % radix) ∷ rest
last_digit radix is k n rest e = rw (eq-eqb (n / radix) 0 e) refl

more_digits : (radix : ℕ) → IsRadix radix → (k n : ℕ) (rest : List ℕ) → (n / radix ≡ 0 → ⊥) → digits_onto (suc k) radix false n rest ≡ digits_onto k radix false (n / radix) (digit_glyph false (n % radix) ∷ rest)
more_digits radix is k n rest e = rw (ne_eqb (n / radix) 0 e) refl

digit_put : (radix : ℕ) → IsRadix radix → (n : ℕ) → n < 2 ^ 64 → with_digit radix (n / radix) (digit_glyph false (n % radix)) ≡ Some n
digit_put radix is n small =
    let fits : is_word (n / radix * radix + n % radix) ≡ true = lt-ltb _ _ (omega (arith, is.whole n)) in
    rw (digit_written radix (n % radix) (is.last n) is.high, fits) (ap (λ (m : ℕ). Some m) (is.whole n))

half : (radix : ℕ) → IsRadix radix → (n : ℕ) → 2 * (n / radix) ≤ n
half radix is n = omega (arith, is.grows (n / radix) (n % radix), is.whole n)

-- The first digit.
first_put : (radix : ℕ) → IsRadix radix → (d : ℕ) → d < radix → with_digit radix 0 (digit_glyph false d) ≡ Some d
first_put radix is d small =
    let alone : 0 * radix + d ≡ d = omega (arith, zero-mul radix) in
    let high = is.high in
    let fits : is_word (0 * radix + d) ≡ true = lt-ltb _ _ (omega (arith, alone, small, high)) in
    rw (digit_written radix d small is.high, fits) (ap (λ (m : ℕ). Some m) alone)

abbrev IsRead : (radix k n : ℕ) (rest : List ℕ) → Type 0
IsRead radix k n rest = number_onto radix 0 (digits_onto (suc k) radix false n rest) ≡ number_onto radix n rest

one_written : (radix : ℕ) → IsRadix radix → (k n : ℕ) (rest : List ℕ) → n / radix ≡ 0 → IsRead radix k n rest
one_written radix is k n rest e =
    let none : n / radix * radix ≡ 0 * radix = ap (λ (q : ℕ). q * radix) e in
    let same : n % radix ≡ n = omega (arith, is.whole n, none) in
    ap (number_onto radix 0) (last_digit radix is k n rest e)
    ∙ ap (λ o. o >>= λ more. number_onto radix more rest) (first_put radix is (n % radix) (is.last n))
    ∙ ap (λ (m : ℕ). number_onto radix m rest) same

more_written : (radix : ℕ) → IsRadix radix → (k n : ℕ) (rest : List ℕ) → n < 2 ^ 64 → (n / radix ≡ 0 → ⊥) →
    IsRead radix k (n / radix) (digit_glyph false (n % radix) ∷ rest) → IsRead radix (suc k) n rest
more_written radix is k n rest small ne front =
    ap (number_onto radix 0) (more_digits radix is (suc k) n rest ne) ∙ front ∙ ap (λ o. o >>= λ value. number_onto radix value rest) (digit_put radix is n small)

written_onto : (radix : ℕ) → IsRadix radix → (k n : ℕ) (rest : List ℕ) → n < 2 ^ suc k → n < 2 ^ 64 → IsRead radix k n rest
written_onto radix is zero n rest room small = one_written radix is zero n rest (omega (arith, half radix is n, room))
written_onto radix is (suc k) n rest room small =
    let front = written_onto radix is k (n / radix) (digit_glyph false (n % radix) ∷ rest) (omega (arith, half radix is n, room, pow-suc 2 (suc k))) (omega (arith, half radix is n)) in
    elim (cases_eq (n / radix) 0) [
      | inl e ↦ one_written radix is (suc k) n rest e
      | inr ne ↦ more_written radix is k n rest small ne front
    ]

-- Only of 0 the first digit is `0`.

abbrev first : List ℕ → ℕ
first digits = get_or digits 0 0

glyph_above : (d : ℕ) → d < 16 → ¬ (d ≡ 0) → ¬ (digit_glyph false d ≡ 48)
glyph_above d small some = by (ltb d 10) refl
  where
    by : (b : Bool) → ltb d 10 ≡ b → ¬ (cond b (48 + d) (87 + d) ≡ 48)
    by true e h = some (omega (arith, h))
    by false e h = absurd (omega (arith, h))

one_first : (radix : ℕ) → IsRadix radix → (k n : ℕ) (rest : List ℕ) → ¬ (n ≡ 0) → n / radix ≡ 0 → ¬ (first (digits_onto (suc k) radix false n rest) ≡ 48)
one_first radix is k n rest some e h =
    let none : n / radix * radix ≡ 0 * radix = ap (λ (q : ℕ). q * radix) e in
    let same : n % radix ≡ n = omega (arith, is.whole n, none, zero-mul radix) in
    let last = is.last n in
    let high = is.high in
    glyph_above (n % radix) (omega (arith, last, high)) (λ z. some (sym same ∙ z)) (sym (ap first (last_digit radix is k n rest e)) ∙ h)

no_zero_first : (radix : ℕ) → IsRadix radix → (k n : ℕ) (rest : List ℕ) → n < 2 ^ suc k → ¬ (n ≡ 0) → ¬ (first (digits_onto (suc k) radix false n rest) ≡ 48)
no_zero_first radix is zero n rest room some = one_first radix is zero n rest some (omega (arith, half radix is n, room))
no_zero_first radix is (suc k) n rest room some =
    let front = no_zero_first radix is k (n / radix) (digit_glyph false (n % radix) ∷ rest) (omega (arith, half radix is n, room, pow-suc 2 (suc k))) in
    elim (cases_eq (n / radix) 0) [
      | inl e ↦ one_first radix is (suc k) n rest some e
      | inr ne ↦ λ h. front ne (sym (ap first (more_digits radix is (suc k) n rest ne)) ∙ h)
    ]

no_leading_zero : (radix : ℕ) → IsRadix radix → (n : ℕ) → n < 2 ^ 64 → has_leading_zero (digits radix false n) ≡ false
unfolding digits
no_leading_zero radix is n small =
    elim (cases_eq n 0) [
      | inl e ↦ rw (last_digit radix is 63 n [] (zero_alone n e)) refl
      | inr ne ↦ and_right _ _ (ne_eqb (first (digits_onto 64 radix false n [])) 48 (no_zero_first radix is 63 n [] small ne))
    ]
  where
    zero_alone : (n : ℕ) → n ≡ 0 → n / radix ≡ 0
    zero_alone n e = ap (λ (m : ℕ). m / radix) e ∙ is.alone 0 (let low = is.low in omega (arith, low))

some_digits : (radix : ℕ) → IsRadix radix → (n : ℕ) → n < 2 ^ 64 → (length (digits radix false n) == 0) ≡ false
some_digits radix is n small =
    let filled = (digits_is_IsNumeral radix false is.low (let high = is.high in omega (arith, high)) n (let room = is.room in omega (arith, small, room))).0.0 in
    ne_eqb (length (digits radix false n)) 0 (λ e. absurd (omega (arith, filled, e)))

written_value : (radix : ℕ) → IsRadix radix → (n : ℕ) → n < 2 ^ 64 → number_onto radix 0 (digits radix false n) ≡ Some n
unfolding digits
written_value radix is n small = written_onto radix is 63 n [] small small

written : (radix : ℕ) → IsRadix radix → (n : ℕ) → n < 2 ^ 64 → number_of radix (digits radix false n) ≡ Some n
written radix is n small = rw (no_leading_zero radix is n small, some_digits radix is n small) (written_value radix is n small)

pub decimal_is_read : (n : ℕ) → n < 2 ^ 64 → number_of 10 (decimal n) ≡ Some n
decimal_is_read n small = written 10 ten n small

pub hexadecimal_is_read : (n : ℕ) → n < 2 ^ 64 → number_of 16 (hexadecimal n) ≡ Some n
hexadecimal_is_read n small = written 16 sixteen n small

-- What is read is written

record Grows (radix value byte more : ℕ) : Type 0 where
  digit : ℕ
  digit_small : digit < radix
  glyph : digit_glyph false digit ≡ byte
  sum : value * radix + digit ≡ more
  small : more < 2 ^ 64

grown : (radix value byte more : ℕ) → with_digit radix value byte ≡ Some more → Grows radix value byte more
grown radix value byte more h = by (digit_of radix byte) refl h
  where
    tested : (d : ℕ) (b : Bool) → digit_of radix byte ≡ Some d → is_word (value * radix + d) ≡ b → (b >> Some (value * radix + d)) ≡ Some more → Grows radix value byte more
    tested d true is e h =
        let spelled = digit_spells radix byte d is in
        let same : value * radix + d ≡ more = cc in
        let below = ltb-true (value * radix + d) (2 ^ 64) e in
        record { digit = d; digit_small = spelled.0; glyph = spelled.1; sum = same; small = omega (arith, same, below) }
    tested d false is e h = cc

    by : (o : Option ℕ) → digit_of radix byte ≡ o → (o >>= λ digit. is_word (value * radix + digit) >> Some (value * radix + digit)) ≡ Some more → Grows radix value byte more
    by None is h = cc
    by (Some d) is h = tested d _ is refl h

-- A number that is read behind another one, which is not 0, has its digits behind those of that one, and is at least so great.
record Follows (radix value n : ℕ) (bytes : List ℕ) : Type 0 where
  spelled : (j : ℕ) (rest : List ℕ) → digits_onto (suc j + length bytes) radix false n rest ≡ digits_onto (suc j) radix false value (bytes ++ rest)
  small : n < 2 ^ 64
  great : (i : ℕ) → 2 ^ i ≤ value → 2 ^ (i + length bytes) ≤ n

no_more : (j : ℕ) → j + length {A = ℕ} [] ≡ j
no_more j = omega arith

one_more : (j : ℕ) (byte : ℕ) (bytes : List ℕ) → j + length (byte ∷ bytes) ≡ suc j + length bytes
one_more j byte bytes = omega arith

follows : (radix : ℕ) → IsRadix radix → (value n : ℕ) (bytes : List ℕ) → 0 < value → value < 2 ^ 64 → number_onto radix value bytes ≡ Some n → Follows radix value n bytes
follows radix is value n [] some small h =
    let same : value ≡ n = cc in
    record {
      spelled = λ j rest. (λ i. digits_onto (no_more (suc j) i) radix false (sym same i) rest);
      small = omega (arith, small, same);
      great = λ i l. subst (λ (k : ℕ). 2 ^ k ≤ n) (sym (no_more i)) (omega (arith, l, same));
    }
follows radix is value n (byte ∷ bytes) some small h = by (with_digit radix value byte) refl h (λ more p m h. follows radix is more n bytes p m h)
  where
    digits_back : (more : ℕ) → Grows radix value byte more → (j : ℕ) (rest : List ℕ) → digits_onto (suc (suc j)) radix false more rest ≡ digits_onto (suc j) radix false value (byte ∷ rest)
    digits_back more g j rest =
        let front : more / radix ≡ value = ap (λ (m : ℕ). m / radix) (sym g.sum) ∙ is.front value g.digit g.digit_small in
        let end : more % radix ≡ g.digit = ap (λ (m : ℕ). m % radix) (sym g.sum) ∙ is.end value g.digit g.digit_small in
        more_digits radix is (suc j) more rest (λ e. omega (arith, front, some, e))
        ∙ (λ i. digits_onto (suc j) radix false (front i) (digit_glyph false (end i) ∷ rest)) ∙ ap (λ (b : ℕ). digits_onto (suc j) radix false value (b ∷ rest)) g.glyph

    by : (o : Option ℕ) → with_digit radix value byte ≡ o → (o >>= λ more. number_onto radix more bytes) ≡ Some n →
        ((more : ℕ) → 0 < more → more < 2 ^ 64 → number_onto radix more bytes ≡ Some n → Follows radix more n bytes) → Follows radix value n (byte ∷ bytes)
    by None is' h next = cc
    by (Some more) is' h next =
        let g = grown radix value byte more is' in
        let f = next more (omega (arith, some, is.grows value g.digit, g.sum)) g.small h in
        record {
          spelled = λ j rest. ap (λ (k : ℕ). digits_onto k radix false n rest) (one_more (suc j) byte bytes) ∙ f.spelled (suc j) rest ∙ digits_back more g j (bytes ++ rest);
          small = f.small;
          great = λ i l. subst (λ (k : ℕ). 2 ^ k ≤ n) (sym (one_more i byte bytes)) (f.great (suc i) (omega (arith, l, pow-suc 2 i, is.grows value g.digit, g.sum)));
        }

-- A numeral has at most 64 digits.
short : (n k : ℕ) → 2 ^ k ≤ n → n < 2 ^ 64 → k < 64
short n k great small = by (nat_lt k 64) refl
  where
    by : (b : Bool) → nat_lt k 64 ≡ b → k < 64
    by true e = ltb-true k 64 e
    by false e =
        let long : 64 ≤ k = grind (arith, nat_tests, e) in
        let powers : 2 ^ 64 ≤ 2 ^ k = pow-le-pow_right (omega arith) long in
        absurd (omega (arith, powers, great, small))

record Spells (radix n : ℕ) (word : List ℕ) : Type 0 where
  small : n < 2 ^ 64
  word_is : digits radix false n ≡ word

spelled : (radix : ℕ) → IsRadix radix → (d n : ℕ) (bytes : List ℕ) → d < radix → length bytes < 64 → Follows radix d n bytes → digits radix false n ≡ digit_glyph false d ∷ bytes
unfolding digits
spelled radix is d n bytes small few f =
    let all : 64 ≡ suc (63 - length bytes) + length bytes = omega (arith, few) in
    let none : d / radix * radix ≡ 0 * radix = ap (λ (q : ℕ). q * radix) (is.alone d small) in
    let same : d % radix ≡ d = omega (arith, is.whole d, none) in
    ap (λ (k : ℕ). digits_onto k radix false n []) all
    ∙ f.spelled (63 - length bytes) []
    ∙ last_digit radix is (63 - length bytes) d (bytes ++ []) (is.alone d small)
    ∙ (λ i. digit_glyph false (same i) ∷ append-nil bytes i)

-- A digit alone.
one_read : (radix : ℕ) → IsRadix radix → (d : ℕ) → d < radix → digits radix false d ≡ digit_glyph false d ∷ []
unfolding digits
one_read radix is d small =
    let none : d / radix * radix ≡ 0 * radix = ap (λ (q : ℕ). q * radix) (is.alone d small) in
    let same : d % radix ≡ d = omega (arith, is.whole d, none) in
    last_digit radix is 63 d [] (is.alone d small) ∙ (λ i. digit_glyph false (same i) ∷ [])

glyph_of_zero : (d : ℕ) → d ≡ 0 → digit_glyph false d ≡ 48
glyph_of_zero d e = ap (λ (d : ℕ). digit_glyph false d) e

-- More digits behind a first one, which is not 0.
more_read : (radix : ℕ) → IsRadix radix → (d n : ℕ) (bytes : List ℕ) → d < radix → 0 < d → number_onto radix d bytes ≡ Some n → Spells radix n (digit_glyph false d ∷ bytes)
more_read radix is d n bytes small some h =
    let high = is.high in
    let f = follows radix is d n bytes some (omega (arith, high, small)) h in
    let few : length bytes < 64 = omega (arith, short n (0 + length bytes) (f.great 0 (omega (arith, some))) f.small) in
    record { small = f.small; word_is = spelled radix is d n bytes small few f }

from_digit : (radix : ℕ) → IsRadix radix → (d n : ℕ) (bytes : List ℕ) → d < radix → has_leading_zero (digit_glyph false d ∷ bytes) ≡ false → number_onto radix d bytes ≡ Some n → Spells radix n (digit_glyph false d ∷ bytes)
from_digit radix is d n [] small lead h =
    let same : d ≡ n = cc in
    let high = is.high in
    record { small = omega (arith, same, small, high); word_is = ap (λ (n : ℕ). digits radix false n) (sym same) ∙ one_read radix is d small }
from_digit radix is d n (byte ∷ bytes) small lead h =
    elim (cases_eq d 0) [
      | inl e ↦ absurd (leads (digit_glyph false d) (glyph_of_zero d e) lead)
      | inr ne ↦ more_read radix is d n (byte ∷ bytes) small (omega (arith, ne)) h
    ]
  where
    leads : (c : ℕ) → c ≡ 48 → has_leading_zero (c ∷ byte ∷ bytes) ≡ false → ⊥
    leads c e h =
        let two : (length (c ∷ byte ∷ bytes) == 1) ≡ false = ne_eqb (length (c ∷ byte ∷ bytes)) 1 (λ e. absurd (omega (arith, e))) in
        false≢true (sym h ∙ and_from _ _ (not_from_false _ two) (eq-eqb c 48 e))

-- What is read onto 0 begins with a digit.
read_onto : (radix : ℕ) → IsRadix radix → (n byte : ℕ) (bytes : List ℕ) → has_leading_zero (byte ∷ bytes) ≡ false → number_onto radix 0 (byte ∷ bytes) ≡ Some n → Spells radix n (byte ∷ bytes)
read_onto radix is n byte bytes lead h = by (with_digit radix 0 byte) refl h
  where
    by : (o : Option ℕ) → with_digit radix 0 byte ≡ o → (o >>= λ more. number_onto radix more bytes) ≡ Some n → Spells radix n (byte ∷ bytes)
    by None is' h = absurd cc
    by (Some more) is' h =
        let g = grown radix 0 byte more is' in
        let same : g.digit ≡ more = omega (arith, zero-mul radix, g.sum) in
        let first : number_onto radix g.digit bytes ≡ Some n = ap (λ (m : ℕ). number_onto radix m bytes) same ∙ h in
        let lead' : has_leading_zero (digit_glyph false g.digit ∷ bytes) ≡ false = ap (λ (b : ℕ). has_leading_zero (b ∷ bytes)) g.glyph ∙ lead in
        subst (λ (b : ℕ). Spells radix n (b ∷ bytes)) g.glyph (from_digit radix is g.digit n bytes g.digit_small lead' first)

read : (radix : ℕ) → IsRadix radix → (n : ℕ) (word : List ℕ) → number_of radix word ≡ Some n → Spells radix n word
read radix is n [] h = absurd cc
read radix is n (byte ∷ bytes) h = by_lead (has_leading_zero (byte ∷ bytes)) refl h
  where
    filled : (length (byte ∷ bytes) == 0) ≡ false
    filled = ne_eqb (length (byte ∷ bytes)) 0 (λ e. absurd (omega (arith, e)))

    by_lead : (b : Bool) → has_leading_zero (byte ∷ bytes) ≡ b → cond b None (value_of radix (byte ∷ bytes)) ≡ Some n → Spells radix n (byte ∷ bytes)
    by_lead true lead h = absurd cc
    by_lead false lead h = read_onto radix is n byte bytes lead (rw filled at h)

pub decimal_is_written : (n : ℕ) (word : List ℕ) → number_of 10 word ≡ Some n → (n < 2 ^ 64) × (decimal n ≡ word)
decimal_is_written n word h = let r = read 10 ten n word h in (r.small, r.word_is)

pub hexadecimal_is_written : (n : ℕ) (word : List ℕ) → number_of 16 word ≡ Some n → (n < 2 ^ 64) × (hexadecimal n ≡ word)
hexadecimal_is_written n word h = let r = read 16 sixteen n word h in (r.small, r.word_is)

-- What is read is a word, also with leading zeros.

onto_small : (radix value n : ℕ) (bytes : List ℕ) → value < 2 ^ 64 → number_onto radix value bytes ≡ Some n → n < 2 ^ 64
onto_small radix value n [] small h = let same : value ≡ n = cc in omega (arith, small, same)
onto_small radix value n (byte ∷ bytes) small h = by (with_digit radix value byte) refl h (λ more. onto_small radix more n bytes)
  where
    by : (o : Option ℕ) → with_digit radix value byte ≡ o → (o >>= λ more. number_onto radix more bytes) ≡ Some n → ((more : ℕ) → more < 2 ^ 64 → number_onto radix more bytes ≡ Some n → n < 2 ^ 64) → n < 2 ^ 64
    by None is h next = absurd cc
    by (Some more) is h next = next more (grown radix value byte more is).small h

value_small : (radix n : ℕ) (word : List ℕ) → value_of radix word ≡ Some n → n < 2 ^ 64
value_small radix n word h = by (length word == 0) h
  where
    by : (b : Bool) → cond b None (number_onto radix 0 word) ≡ Some n → n < 2 ^ 64
    by true h = absurd cc
    by false h = onto_small radix 0 n word (omega arith) h

pub padded_small : (n : ℕ) (word : List ℕ) → padded_of word ≡ Some n → n < 2 ^ 64
padded_small n word h = by (nat_le (length word) 16) h
  where
    by : (b : Bool) → cond b (value_of 16 word) None ≡ Some n → n < 2 ^ 64
    by true h = value_small 16 n word h
    by false h = absurd cc
