-- The digits of a number in hexadecimal, one at a time and by pairs.
use Rattle.std.proofs.Common.{◌≡◌, ℕ, zero, suc, ◌+◌, ◌-◌, ◌*◌, ◌/◌, ◌%◌, ◌^◌, ◌<◌, ◌≤◌, List, [], ◌∷◌, ◌++◌, length, map, drop, get_or, refl, sym, ap, inl, inr, ◌∙◌, false, add-one, arith, append_assoc, length-append}
use Rattle.std.specs.Fmt.{digits, digits_onto, digit_glyph}
use Rattle.std.specs.Int.Count.{count_leading_zeros}
use Rattle.std.specs.List.{range_with_len}
use Rattle.std.proofs.lemmas.Bool.{cases_eq, cases_lt, eq-eqb, ne_eqb}
use Rattle.std.proofs.lemmas.Fmt.{hex_one_digit, hex_two_digits}
use Rattle.std.proofs.lemmas.List.{drop-append-le, drop-drop, drop_at}
use Rattle.std.proofs.lemmas.List.FromFn.{get_or-map-range_with_len}
use Rattle.std.proofs.lemmas.Nat.{leading_top}
use Rattle.l4_words.specs.Numbers.{hexadecimal, byte_digits, pairs_of}
use Rattle.l4_words.specs.declared.digits.TheConstants.{PAIRS}

abbrev last : ℕ → ℕ
last n = digit_glyph false (n % 16)

abbrev spelled : (places n : ℕ) → List ℕ → List ℕ
spelled places n rest = digits_onto places 16 false n rest

one_digit : (k n : ℕ) (rest : List ℕ) → n / 16 ≡ 0 → spelled (suc k) n rest ≡ last n ∷ rest
one_digit k n rest small = rw (eq-eqb (n / 16) 0 small) refl

more_digits : (k n : ℕ) (rest : List ℕ) → (n / 16 ≡ 0 → ⊥) → spelled (suc k) n rest ≡ spelled k (n / 16) (last n ∷ rest)
more_digits k n rest large = rw (ne_eqb (n / 16) 0 large) refl

spelled-append : (places n : ℕ) (rest : List ℕ) → spelled places n rest ≡ spelled places n [] ++ rest
spelled-append zero n rest = refl
spelled-append (suc k) n rest =
    elim (cases_eq (n / 16) 0) [
      | inl small ↦ one_digit k n rest small ∙ ap (λ (ds : List ℕ). ds ++ rest) (sym (one_digit k n [] small))
      | inr large ↦
          more_digits k n rest large ∙ spelled-append k (n / 16) (last n ∷ rest) ∙ sym (append_assoc (spelled k (n / 16) []) (last n ∷ []) rest)
          ∙ ap (λ (ds : List ℕ). ds ++ rest) (sym (more_digits k n [] large ∙ spelled-append k (n / 16) (last n ∷ [])))
    ]

-- Places in front of the first digit do not matter.
enough : (j k n : ℕ) (rest : List ℕ) → n < 16 ^ suc j → n < 16 ^ suc k → spelled (suc j) n rest ≡ spelled (suc k) n rest
enough zero k n rest p q = one_digit zero n rest (omega arith) ∙ sym (one_digit k n rest (omega arith))
enough (suc j) zero n rest p q = one_digit (suc j) n rest (omega arith) ∙ sym (one_digit zero n rest (omega arith))
enough (suc j) (suc k) n rest p q =
    elim (cases_eq (n / 16) 0) [
      | inl small ↦ one_digit (suc j) n rest small ∙ sym (one_digit (suc k) n rest small)
      | inr large ↦ more_digits (suc j) n rest large ∙ enough j k (n / 16) (last n ∷ rest) (omega arith) (omega arith) ∙ sym (more_digits (suc k) n rest large)
    ]

pub hexadecimal_step : (n : ℕ) → 16 ≤ n → n < 2 ^ 64 → hexadecimal n ≡ hexadecimal (n / 16) ++ digit_glyph false (n % 16) ∷ []
unfolding digits
hexadecimal_step n large small =
    more_digits 63 n [] (λ e. omega arith) ∙ enough 62 63 (n / 16) (last n ∷ []) (omega arith) (omega arith) ∙ spelled-append 64 (n / 16) (last n ∷ [])

pub length_step : (n : ℕ) → 16 ≤ n → n < 2 ^ 64 → length (hexadecimal n) ≡ length (hexadecimal (n / 16)) + 1
length_step n large small = ap length (hexadecimal_step n large small) ∙ length-append _ _

pub length_one : (n : ℕ) → n < 16 → length (hexadecimal n) ≡ 1
length_one n small = ap length (hex_one_digit false n small)

few_digits : (k n : ℕ) → n < 16 ^ suc k → n < 2 ^ 64 → length (hexadecimal n) ≤ suc k
few_digits zero n room small = omega (arith, length_one n (omega arith))
few_digits (suc k) n room small =
    elim (cases_eq (n / 16) 0) [
      | inl e ↦ omega (arith, length_one n (omega arith))
      | inr large ↦ omega (arith, length_step n (omega arith) small, few_digits k (n / 16) (omega arith) (omega arith))
    ]

pub at_most_16 : (n : ℕ) → n < 2 ^ 64 → length (hexadecimal n) ≤ 16
at_most_16 n small = omega (arith, few_digits 15 n (omega arith) small)

-- The digits of a byte, and pairs of digits with leading zeros

pair_table : PAIRS ≡ map byte_digits (range_with_len 0 256)
pair_table = refl

pub pair_at : (byte : ℕ) (other : List ℕ) → byte < 256 → get_or PAIRS byte other ≡ byte_digits byte
pair_at byte other below = ap (λ table. get_or table byte other) pair_table ∙ get_or-map-range_with_len byte_digits 0 256 byte byte other below (omega arith)

pub pairs_step : (k j n : ℕ) → k ≡ j + 1 → pairs_of k n ≡ pairs_of j (n / 256) ++ byte_digits (n % 256)
unfolding pairs_of
pairs_step k j n e = rw (e, add-one) refl

length-pairs_of : (k n : ℕ) → length (pairs_of k n) ≡ 2 * k
unfolding pairs_of
length-pairs_of zero n = refl
length-pairs_of (suc k) n = length-append (pairs_of k (n / 256)) (byte_digits (n % 256)) ∙ omega (arith, length-pairs_of k (n / 256))

two_digits : (n : ℕ) → 256 ≤ n → n < 2 ^ 64 → hexadecimal n ≡ hexadecimal (n / 256) ++ byte_digits (n % 256)
two_digits n large small =
    let a : n / 16 / 16 ≡ n / 256 = omega arith in
    let b : n / 16 % 16 ≡ n % 256 / 16 = omega arith in
    let c : n % 16 ≡ n % 256 % 16 = omega arith in
    rw (hexadecimal_step n (omega arith) small, hexadecimal_step (n / 16) (omega arith) (omega arith), append_assoc, a, b, ← c) refl

pub no_pairs : (n : ℕ) (rest : List ℕ) → pairs_of 0 n ++ rest ≡ rest
unfolding pairs_of
no_pairs n rest = refl

-- Behind its leading zeros stand the digits of the number.
one_behind : (k n : ℕ) → n < 16 → drop (2 * suc k - length (hexadecimal n)) (pairs_of (suc k) n) ≡ hexadecimal n
unfolding pairs_of
one_behind k n small =
    let front : List ℕ = pairs_of k (n / 256) in
    let places : 2 * suc k - 1 ≡ 2 * k + 1 = omega arith in
    let last : n % 256 % 16 ≡ n = omega arith in
    ap (λ (ds : List ℕ). drop (2 * suc k - length ds) (front ++ byte_digits (n % 256))) (hex_one_digit false n small)
    ∙ ap (λ at. drop at (front ++ byte_digits (n % 256))) places
    ∙ sym (drop-drop 1 (2 * k) (front ++ byte_digits (n % 256)))
    ∙ ap (drop 1) (drop_at front (byte_digits (n % 256)) (2 * k) (length-pairs_of k (n / 256)))
    ∙ ap (λ d. digit_glyph false d ∷ []) last ∙ sym (hex_one_digit false n small)

two_behind : (k n : ℕ) → 16 ≤ n → n < 256 → drop (2 * suc k - length (hexadecimal n)) (pairs_of (suc k) n) ≡ hexadecimal n
unfolding pairs_of
two_behind k n large small =
    let front : List ℕ = pairs_of k (n / 256) in
    let places : 2 * suc k - 2 ≡ 2 * k = omega arith in
    let same : n % 256 ≡ n = omega arith in
    ap (λ (ds : List ℕ). drop (2 * suc k - length ds) (front ++ byte_digits (n % 256))) (hex_two_digits false n large small)
    ∙ ap (λ at. drop at (front ++ byte_digits (n % 256))) places
    ∙ drop_at front (byte_digits (n % 256)) (2 * k) (length-pairs_of k (n / 256))
    ∙ ap byte_digits same ∙ sym (hex_two_digits false n large small)

more_behind : (k n : ℕ) → 256 ≤ n → n < 2 ^ 64 → drop (2 * suc k - length (hexadecimal (n / 256))) (pairs_of (suc k) (n / 256)) ≡ hexadecimal (n / 256)
    → drop (2 * suc (suc k) - length (hexadecimal n)) (pairs_of (suc (suc k)) n) ≡ hexadecimal n
more_behind k n large small before =
    let two = two_digits n large small in
    let last : List ℕ = byte_digits (n % 256) in
    let length_is : length (hexadecimal n) ≡ length (hexadecimal (n / 256)) + 2 = ap length two ∙ length-append (hexadecimal (n / 256)) last in
    let places : 2 * suc (suc k) - length (hexadecimal n) ≡ 2 * suc k - length (hexadecimal (n / 256)) = omega arith in
    let within : 2 * suc k - length (hexadecimal (n / 256)) ≤ length (pairs_of (suc k) (n / 256)) = omega (arith, length-pairs_of (suc k) (n / 256)) in
    ap (drop (2 * suc (suc k) - length (hexadecimal n))) (pairs_step (suc (suc k)) (suc k) n (omega arith))
    ∙ ap (λ at. drop at (pairs_of (suc k) (n / 256) ++ last)) places
    ∙ drop-append-le (2 * suc k - length (hexadecimal (n / 256))) (pairs_of (suc k) (n / 256)) last within
    ∙ ap (λ (ds : List ℕ). ds ++ last) before ∙ sym two

behind_zeros : (k n : ℕ) → n < 256 ^ suc k → n < 2 ^ 64 → drop (2 * suc k - length (hexadecimal n)) (pairs_of (suc k) n) ≡ hexadecimal n
behind_zeros zero n room small =
    elim (cases_lt n 16) [
      | inl few ↦ one_behind zero n few
      | inr more ↦ two_behind zero n more (omega arith)
    ]
behind_zeros (suc k) n room small =
    elim (cases_lt n 256) [
      | inl few ↦ (elim (cases_lt n 16) [ inl one ↦ one_behind (suc k) n one | inr two ↦ two_behind (suc k) n two few ])
      | inr more ↦ more_behind k n more small (behind_zeros k (n / 256) (omega arith) (omega arith))
    ]

at_most_pairs : (k n : ℕ) → n < 256 ^ suc k → n < 2 ^ 64 → length (hexadecimal n) ≤ 2 * suc k
at_most_pairs zero n room small = omega (arith, few_digits 1 n (omega arith) small)
at_most_pairs (suc k) n room small =
    elim (cases_lt n 256) [
      | inl few ↦ omega (arith, few_digits 1 n (omega arith) small)
      | inr more ↦ omega (arith, ap length (two_digits n more small), length-append (hexadecimal (n / 256)) (byte_digits (n % 256)), at_most_pairs k (n / 256) (omega arith) (omega arith))
    ]

pub pairs_written : (bytes n end : ℕ) (old new : List ℕ) → 0 < bytes → n < 256 ^ bytes → n < 2 ^ 64 → 2 * bytes ≤ end → drop (end - 2 * bytes) new ≡ pairs_of bytes n ++ drop end old
    → (length (hexadecimal n) ≤ end) × (drop (end - length (hexadecimal n)) new ≡ hexadecimal n ++ drop end old)
pairs_written zero n end old new some fits small room written = absurd (omega (arith, some))
pairs_written (suc k) n end old new some fits small room written =
    let few : length (hexadecimal n) ≤ 2 * suc k = at_most_pairs k n fits small in
    let places : end - length (hexadecimal n) ≡ end - 2 * suc k + (2 * suc k - length (hexadecimal n)) = omega arith in
    let within : 2 * suc k - length (hexadecimal n) ≤ length (pairs_of (suc k) n) = omega (arith, length-pairs_of (suc k) n) in (
      omega arith,
      ap (λ at. drop at new) places ∙ sym (drop-drop (2 * suc k - length (hexadecimal n)) (end - 2 * suc k) new)
          ∙ ap (drop (2 * suc k - length (hexadecimal n))) written
          ∙ drop-append-le (2 * suc k - length (hexadecimal n)) (pairs_of (suc k) n) (drop end old) within
          ∙ ap (λ (ds : List ℕ). ds ++ drop end old) (behind_zeros k n fits small),
    )

-- How many digits stand behind the leading zeros of a number in binary
length_between : (j n : ℕ) → 2 ^ j ≤ n → n < 2 ^ suc j → n < 2 ^ 64 → length (hexadecimal n) ≡ j / 4 + 1
length_between zero n least most small = length_one n (omega arith)
length_between (suc zero) n least most small = length_one n (omega arith)
length_between (suc (suc zero)) n least most small = length_one n (omega arith)
length_between (suc (suc (suc zero))) n least most small = length_one n (omega arith)
length_between (suc (suc (suc (suc j)))) n least most small =
    let before : length (hexadecimal (n / 16)) ≡ j / 4 + 1 = length_between j (n / 16) (omega arith) (omega arith) (omega arith) in
    let step : length (hexadecimal n) ≡ length (hexadecimal (n / 16)) + 1 = length_step n (omega arith) small in
    omega arith

pub length_by_zeros : (n : ℕ) → 0 < n → n < 2 ^ 64 → (67 - count_leading_zeros 64 n) / 4 ≡ length (hexadecimal n)
length_by_zeros n some small =
    let top = leading_top 64 n some small in
    let length_is : length (hexadecimal n) ≡ top.0 / 4 + 1 = length_between top.0 n top.2 top.3 small in
    let zeros : count_leading_zeros 64 n + suc top.0 ≡ 64 = top.1 in
    omega arith
