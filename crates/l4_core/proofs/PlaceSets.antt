-- Bits of words, as sets of places.
use Rattle.std.proofs.Common.{◌≡◌, ℕ, zero, suc, ◌+◌, ◌-◌, ◌*◌, ◌/◌, ◌%◌, ◌^◌, ◌<◌, ◌≤◌, Bool, true, false, cond, ◌||◌, ◌&&◌, not, List, length, get_or, set, refl, sym, ap, ◌∙◌, inl, inr, ◌⊎◌, arith, bit_or, bit_and, w64}
use Rattle.std.specs.Prelude.{◌==◌}
use Rattle.std.specs.Int.{bit_at}
use Rattle.std.specs.Int.Count.{count_trailing_zeros}
use Rattle.std.proofs.lemmas.Bool.{cases_eq, cases_lt, eq-eqb, ne_eqb}
use Rattle.std.proofs.lemmas.List.{get_or-set_same, get_or-set_other, get_or_past}
use Rattle.std.proofs.lemmas.Nat.Bits.{bit_at_set_same, bit_at_set_other, bit_at_clear_same, bit_at_clear_other, bit_at-zero, bit_at-trailing_zeros}
use Rattle.l4_core.specs.Inner.Places.{has, is_filled, IsLowest, IsFirst, MarksFilled, count}

same_place : (a b : ℕ) → a / 64 ≡ b / 64 → a % 64 ≡ b % 64 → a ≡ b
same_place a b e f = omega (arith, e, f)

-- What a change of one word does to the set, where it does so to the bits of that word.
changed : (words : List ℕ) (place word other : ℕ) (is : Bool → Bool → Bool) → place / 64 < length words → ((b : Bool) → is b false ≡ b) →
    ((i : ℕ) → i < 64 → (bit_at word i == 1) ≡ is (bit_at (get_or words (place / 64) 0) i == 1) (i == place % 64)) →
    has (set words (place / 64) word) other ≡ is (has words other) (other == place)
changed words place word other is within keeps bits = by (cases_eq (other / 64) (place / 64))
  where
    here : other / 64 ≡ place / 64 → has (set words (place / 64) word) other ≡ is (has words other) (other == place)
    here e =
        let read : get_or (set words (place / 64) word) (other / 64) 0 ≡ word = ap (λ r. get_or (set words (place / 64) word) r 0) e ∙ get_or-set_same words (place / 64) word 0 within in
        let old : get_or words (place / 64) 0 ≡ get_or words (other / 64) 0 = ap (λ r. get_or words r 0) (sym e) in
        ap (λ w. bit_at w (other % 64) == 1) read ∙ bits (other % 64) (omega arith)
        ∙ ap (λ w. is (bit_at w (other % 64) == 1) (other % 64 == place % 64)) old
        ∙ ap (is (has words other)) (same (cases_eq (other % 64) (place % 64)))
      where
        same : (other % 64 ≡ place % 64) ⊎ (other % 64 ≡ place % 64 → ⊥) → (other % 64 == place % 64) ≡ (other == place)
        same (inl f) = eq-eqb (other % 64) (place % 64) f ∙ sym (eq-eqb other place (same_place other place e f))
        same (inr f) = ne_eqb (other % 64) (place % 64) f ∙ sym (ne_eqb other place (λ g. f (ap (λ n. n % 64) g)))

    by : (other / 64 ≡ place / 64) ⊎ (other / 64 ≡ place / 64 → ⊥) → has (set words (place / 64) word) other ≡ is (has words other) (other == place)
    by (inl e) = here e
    by (inr e) =
        let apart : (other == place) ≡ false = ne_eqb other place (λ g. e (ap (λ n. n / 64) g)) in
        ap (λ w. bit_at w (other % 64) == 1) (get_or-set_other words (place / 64) (other / 64) word 0 e) ∙ sym (keeps (has words other)) ∙ ap (is (has words other)) (sym apart)

-- What putting a bit in and taking it out does to the bits of a word

false_keeps : (b : Bool) → (b || false) ≡ b
false_keeps true = refl
false_keeps false = refl

true_wins : (b : Bool) → (b || true) ≡ true
true_wins true = refl
true_wins false = refl

true_keeps : (b : Bool) → (b && true) ≡ b
true_keeps true = refl
true_keeps false = refl

false_wins : (b : Bool) → (b && false) ≡ false
false_wins true = refl
false_wins false = refl

bits_with : (word k i : ℕ) → k < 64 → (bit_at (bit_or word (1 * 2 ^ k % 18446744073709551616)) i == 1) ≡ ((bit_at word i == 1) || (i == k))
bits_with word k i small = by (cases_eq i k)
  where
    by : (i ≡ k) ⊎ (i ≡ k → ⊥) → (bit_at (bit_or word (1 * 2 ^ k % 18446744073709551616)) i == 1) ≡ ((bit_at word i == 1) || (i == k))
    by (inl e) =
        let at : bit_at (bit_or word (1 * 2 ^ k % 18446744073709551616)) i ≡ 1 = ap (bit_at _) e ∙ bit_at_set_same w64 word k small in
        ap (λ n. n == 1) at ∙ sym (ap (λ b. (bit_at word i == 1) || b) (eq-eqb i k e) ∙ true_wins _)
    by (inr e) = ap (λ n. n == 1) (bit_at_set_other w64 word k small i e) ∙ sym (ap (λ b. (bit_at word i == 1) || b) (ne_eqb i k e) ∙ false_keeps _)

bits_without : (word k i : ℕ) → k < 64 → i < 64 → (bit_at (bit_and word (18446744073709551615 - 1 * 2 ^ k % 18446744073709551616)) i == 1) ≡ ((bit_at word i == 1) && not (i == k))
bits_without word k i small lt = by (cases_eq i k)
  where
    by : (i ≡ k) ⊎ (i ≡ k → ⊥) → (bit_at (bit_and word (18446744073709551615 - 1 * 2 ^ k % 18446744073709551616)) i == 1) ≡ ((bit_at word i == 1) && not (i == k))
    by (inl e) =
        let at : bit_at (bit_and word (18446744073709551615 - 1 * 2 ^ k % 18446744073709551616)) i ≡ 0 = ap (bit_at _) e ∙ bit_at_clear_same w64 word k small in
        ap (λ n. n == 1) at ∙ sym (ap (λ b. (bit_at word i == 1) && not b) (eq-eqb i k e) ∙ false_wins _)
    by (inr e) = ap (λ n. n == 1) (bit_at_clear_other w64 word k small i lt e) ∙ sym (ap (λ b. (bit_at word i == 1) && not b) (ne_eqb i k e) ∙ true_keeps _)

pub inserted : (words : List ℕ) (place other : ℕ) → length words ≡ 16 → place < 1024 →
    has (set words (place / 64) (bit_or (get_or words (place / 64) 0) (1 * 2 ^ (place % 64) % 18446744073709551616))) other ≡ (has words other || other == place)
inserted words place other long small =
    changed words place _ other (λ a b. a || b) (omega (arith, long, small)) false_keeps (λ i lt. bits_with (get_or words (place / 64) 0) (place % 64) i (omega arith))

pub removed : (words : List ℕ) (place other : ℕ) → length words ≡ 16 → place < 1024 →
    has (set words (place / 64) (bit_and (get_or words (place / 64) 0) (18446744073709551615 - 1 * 2 ^ (place % 64) % 18446744073709551616))) other ≡ (has words other && not (other == place))
removed words place other long small =
    changed words place _ other (λ a b. a && not b) (omega (arith, long, small)) true_keeps (λ i lt. bits_without (get_or words (place / 64) 0) (place % 64) i (omega arith) lt)

-- Which words have a place

zero_word : (word i : ℕ) → word ≡ 0 → (bit_at word i == 1) ≡ false
zero_word word i e = ap (λ w. bit_at w i == 1) e ∙ ap (λ n. n == 1) (bit_at-zero i)

filled-some : (word : ℕ) → (word ≡ 0 → ⊥) → is_filled word ≡ true
filled-some word some = ap not (ne_eqb word 0 some)

filled-none : (word : ℕ) → word ≡ 0 → is_filled word ≡ false
filled-none word none = ap not (eq-eqb word 0 none)

unfilled : (word : ℕ) → is_filled word ≡ false → word ≡ 0
unfilled word e = by (cases_eq word 0)
  where
    by : (word ≡ 0) ⊎ (word ≡ 0 → ⊥) → word ≡ 0
    by (inl none) = none
    by (inr some) = let wrong : true ≡ false = sym (filled-some word some) ∙ e in cc

is_more : (word : ℕ) → is_filled word ≡ true → 0 < word
is_more word e = by (cases_eq word 0)
  where
    by : (word ≡ 0) ⊎ (word ≡ 0 → ⊥) → 0 < word
    by (inl none) = let wrong : true ≡ false = sym e ∙ filled-none word none in cc
    by (inr some) = omega arith

-- A word with this bit isn't zero.
filled-bit : (word i : ℕ) → (bit_at word i == 1) ≡ true → is_filled word ≡ true
filled-bit word i there = filled-some word (λ none. let wrong : true ≡ false = sym there ∙ zero_word word i none in cc)

-- A word changes, and its mark with it.
re-marked : (words : List ℕ) (filled filled' at word : ℕ) → at < length words → MarksFilled filled words → (bit_at filled' at == 1) ≡ is_filled word →
    ((row : ℕ) → row < 64 → (row ≡ at → ⊥) → (bit_at filled' row == 1) ≡ (bit_at filled row == 1)) → MarksFilled filled' (set words at word)
re-marked words filled filled' at word within marks here elsewhere row lt = by (cases_eq row at)
  where
    by : (row ≡ at) ⊎ (row ≡ at → ⊥) → (bit_at filled' row == 1) ≡ is_filled (get_or (set words at word) row 0)
    by (inl e) = ap (λ r. bit_at filled' r == 1) e ∙ here ∙ sym (ap is_filled (ap (λ r. get_or (set words at word) r 0) e ∙ get_or-set_same words at word 0 within))
    by (inr e) = elsewhere row lt e ∙ marks row lt ∙ sym (ap is_filled (get_or-set_other words at row word 0 e))

pub marks_inserted : (words : List ℕ) (filled place : ℕ) → length words ≡ 16 → place < 1024 → MarksFilled filled words →
    MarksFilled (bit_or filled (1 * 2 ^ (place / 64) % 18446744073709551616)) (set words (place / 64) (bit_or (get_or words (place / 64) 0) (1 * 2 ^ (place % 64) % 18446744073709551616)))
marks_inserted words filled place long small marks =
    re-marked words filled _ (place / 64) _ (omega (arith, long, small)) marks (marked ∙ sym there) elsewhere
  where
    marked : (bit_at (bit_or filled (1 * 2 ^ (place / 64) % 18446744073709551616)) (place / 64) == 1) ≡ true
    marked = bits_with filled (place / 64) (place / 64) (omega (arith, small)) ∙ ap (λ b. (bit_at filled (place / 64) == 1) || b) (eq-eqb (place / 64) (place / 64) refl) ∙ true_wins _

    there : is_filled (bit_or (get_or words (place / 64) 0) (1 * 2 ^ (place % 64) % 18446744073709551616)) ≡ true
    there = filled-bit _ (place % 64) (bits_with (get_or words (place / 64) 0) (place % 64) (place % 64) (omega arith) ∙ ap (λ b. (bit_at (get_or words (place / 64) 0) (place % 64) == 1) || b) (eq-eqb (place % 64) (place % 64) refl) ∙ true_wins _)

    elsewhere : (other : ℕ) → other < 64 → (other ≡ place / 64 → ⊥) → (bit_at (bit_or filled (1 * 2 ^ (place / 64) % 18446744073709551616)) other == 1) ≡ (bit_at filled other == 1)
    elsewhere other lt e = bits_with filled (place / 64) other (omega (arith, small)) ∙ ap (λ b. (bit_at filled other == 1) || b) (ne_eqb other (place / 64) e) ∙ false_keeps _

-- The last place of a word is taken out.
pub marks_emptied : (words : List ℕ) (filled row word : ℕ) → length words ≡ 16 → row < 16 → MarksFilled filled words → get_or (set words row word) row 0 ≡ 0 →
    MarksFilled (bit_and filled (18446744073709551615 - 1 * 2 ^ row % 18446744073709551616)) (set words row word)
marks_emptied words filled row word long small marks none = re-marked words filled _ row word within marks (unmarked ∙ sym (filled-none word is)) elsewhere
  where
    within : row < length words
    within = omega (arith, long, small)

    is : word ≡ 0
    is = sym (get_or-set_same words row word 0 within) ∙ none

    unmarked : (bit_at (bit_and filled (18446744073709551615 - 1 * 2 ^ row % 18446744073709551616)) row == 1) ≡ false
    unmarked = bits_without filled row row (omega (arith, small)) (omega (arith, small)) ∙ ap (λ b. (bit_at filled row == 1) && not b) (eq-eqb row row refl) ∙ false_wins _

    elsewhere : (other : ℕ) → other < 64 → (other ≡ row → ⊥) → (bit_at (bit_and filled (18446744073709551615 - 1 * 2 ^ row % 18446744073709551616)) other == 1) ≡ (bit_at filled other == 1)
    elsewhere other lt e = bits_without filled row other (omega (arith, small)) lt ∙ ap (λ b. (bit_at filled other == 1) && not b) (ne_eqb other row e) ∙ true_keeps _

-- A set with no mark has no place.
pub unmarked_has : (words : List ℕ) (filled place : ℕ) → MarksFilled filled words → filled ≡ 0 → place < 1024 → false ≡ has words place
unmarked_has words filled place marks none small =
    let bare : is_filled (get_or words (place / 64) 0) ≡ false = sym (marks (place / 64) (omega (arith, small))) ∙ zero_word filled (place / 64) none in
    sym (zero_word (get_or words (place / 64) 0) (place % 64) (unfilled (get_or words (place / 64) 0) bare))

-- The least place

-- The lowest mark shows a word that has a place.
marked_word : (words : List ℕ) (filled row : ℕ) → MarksFilled filled words → IsLowest filled row → 0 < get_or words row 0
marked_word words filled row marks low = is_more (get_or words row 0) (sym (marks row low.within) ∙ ap (λ n. n == 1) low.there)

marked_row : (words : List ℕ) (filled row : ℕ) → length words ≡ 16 → MarksFilled filled words → IsLowest filled row → row < 16
marked_row words filled row long marks low = by (cases_lt row 16)
  where
    by : (row < 16) ⊎ (16 ≤ row) → row < 16
    by (inl lt) = lt
    by (inr le) = let some = marked_word words filled row marks low in let none = get_or_past words row 0 (omega (arith, le, long)) in absurd (omega (arith, some, none))

pub first_is : (words : List ℕ) (filled r b : ℕ) → length words ≡ 16 → MarksFilled filled words → IsLowest filled r → IsLowest (get_or words r 0) b → IsFirst words (r * 64 + b)
first_is words filled r b long marks lowest low =
    let bits : b < 64 = low.within in
    let up : (r * 64 + b) / 64 ≡ r = omega arith in
    let down : (r * 64 + b) % 64 ≡ b = omega arith in
    let lt : r < 16 = marked_row words filled r long marks lowest in
    record {
      within = omega (arith, lt, bits);
      there = ap (λ w. bit_at (get_or words w 0) ((r * 64 + b) % 64) == 1) up ∙ ap (λ i. bit_at (get_or words r 0) i == 1) down ∙ ap (λ n. n == 1) low.there;
      least = λ other less. earlier lt other less (cases_eq (other / 64) r);
    }
  where
    empty : (row : ℕ) → row < 64 → row < r → get_or words row 0 ≡ 0
    empty row small lt = unfilled (get_or words row 0) (sym (marks row small) ∙ ap (λ n. n == 1) (lowest.lowest row lt))

    earlier : r < 16 → (other : ℕ) → other < r * 64 + b → (other / 64 ≡ r) ⊎ (other / 64 ≡ r → ⊥) → has words other ≡ false
    earlier small other less (inl e) =
        let bits : b < 64 = low.within in
        ap (λ w. bit_at (get_or words w 0) (other % 64) == 1) e ∙ ap (λ n. n == 1) (low.lowest (other % 64) (omega (arith, e, less, bits)))
    earlier small other less (inr e) =
        let bits : b < 64 = low.within in
        let lt = lt_of (other / 64) r (omega (arith, less, bits)) e in
        zero_word (get_or words (other / 64) 0) (other % 64) (empty (other / 64) (omega (arith, lt, small)) lt)
      where
        lt_of : (a c : ℕ) → a ≤ c → (a ≡ c → ⊥) → a < c
        lt_of a c le ne = by (cases_lt a c)
          where
            by : (a < c) ⊎ (c ≤ a) → a < c
            by (inl h) = h
            by (inr h) = absurd (ne (omega arith))

pub lowest_is : (word : ℕ) → 0 < word → word < 18446744073709551616 → IsLowest word (count_trailing_zeros 64 word)
lowest_is word some small = let l = bit_at-trailing_zeros w64 word some small in record { within = l.0; there = l.1; lowest = l.2 }

-- How many places it has

step_le : (a b : Bool) (m n : ℕ) → (a ≡ true → b ≡ true) → m ≤ n → cond a 1 0 + m ≤ cond b 1 0 + n
step_le false b m n h le = omega (arith, le)
step_le true true m n h le = omega (arith, le)
step_le true false m n h le = let e = h refl in cc

count_le : (new old : List ℕ) (n : ℕ) → ((i : ℕ) → has new i ≡ true → has old i ≡ true) → count new n ≤ count old n
unfolding count
count_le new old zero sub = omega arith
count_le new old (suc n) sub = step_le (has new n) (has old n) _ _ (sub n) (count_le new old n sub)

step_lt : (a b : Bool) (m n : ℕ) → (a ≡ true → b ≡ true) → m < n → cond a 1 0 + m < cond b 1 0 + n
step_lt false b m n h lt = omega (arith, lt)
step_lt true true m n h lt = omega (arith, lt)
step_lt true false m n h lt = let e = h refl in cc

below : (p n : ℕ) → p < suc n → (p ≡ n → ⊥) → p < n
below p n lt apart = by (cases_lt p n)
  where
    by : (p < n) ⊎ (n ≤ p) → p < n
    by (inl h) = h
    by (inr h) = absurd (apart (omega arith))

taken : (a b : Bool) (m n : ℕ) → a ≡ false → b ≡ true → m ≤ n → cond a 1 0 + m < cond b 1 0 + n
taken a b m n out was le = rw (out, was) (omega (arith, le))

pub count_less : (new old : List ℕ) (n p : ℕ) → ((i : ℕ) → has new i ≡ true → has old i ≡ true) → p < n → has new p ≡ false → has old p ≡ true → count new n < count old n
unfolding count
count_less new old zero p sub lt out was = absurd (omega arith)
count_less new old (suc n) p sub lt out was = at (cases_eq p n) (λ within. count_less new old n p sub within out was)
  where
    at : (p ≡ n) ⊎ (p ≡ n → ⊥) → (p < n → count new n < count old n) → count new (suc n) < count old (suc n)
    at (inl e) rest = taken (has new n) (has old n) _ _ (ap (has new) (sym e) ∙ out) (ap (has old) (sym e) ∙ was) (count_le new old n sub)
    at (inr e) rest = step_lt (has new n) (has old n) _ _ (sub n) (rest (below p n lt e))
