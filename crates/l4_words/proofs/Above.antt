-- Words whose bytes are all above another byte.
use Rattle.std.proofs.Common.{◌≡◌, ℕ, ◌<◌, ◌≤◌, ◌^◌, Bool, true, false, eqb, List, [], ◌∷◌, ◌++◌, length, take, drop, get_or, suc, ◌+◌, Some, refl, sym, ap, ◌∙◌, append_assoc, arith}
use Rattle.std.specs.Prelude.{◌==◌, nat_lt, decimal}
use Rattle.std.specs.Char.{digit_value}
use Rattle.std.specs.Str.Parse.{AllDigits}
use Rattle.std.specs.List.{All, list_all, position, position_or_len, before_first, after_first}
use Rattle.std.proofs.Math.Seq.{take-append_seam, drop-append-add, get_or-append_seam, drop-cons}
use Rattle.std.proofs.lemmas.Bool.{and_parts, and_from, eq-eqb, eqb-true}
use Rattle.std.proofs.lemmas.Bool.Decides.{nat_tests}
use Rattle.std.proofs.lemmas.List.{get_or_append_left, length-append, take-append-drop}
use Rattle.std.proofs.lemmas.List.Elements.{All-nil, All-cons}
use Rattle.std.proofs.lemmas.List.Folds.{list_all-append}
use Rattle.std.proofs.lemmas.List.Quantifiers.{position-Some}
use Rattle.std.proofs.lemmas.List.Sums.{position_or_len_is}
use Rattle.std.proofs.lemmas.Fmt.{digits_is_IsNumeral}
use Rattle.l4_words.specs.Numbers.{hexadecimal}

-- Each byte is above another one, as a byte of a word is above the space and a digit above the dot.
abbrev pub is_above : ℕ → List ℕ → Bool
is_above b w = list_all (nat_lt b) w

pub above_parts : (b : ℕ) (xs ys : List ℕ) → is_above b xs ≡ true → is_above b ys ≡ true → is_above b (xs ++ ys) ≡ true
above_parts b xs ys p q = list_all-append (nat_lt b) xs ys ∙ and_from _ _ p q

pub above_lower : (a b : ℕ) → a ≤ b → (xs : List ℕ) → is_above b xs ≡ true → is_above a xs ≡ true
above_lower a b l [] h = refl
above_lower a b l (x ∷ xs) h =
    let parts = and_parts (nat_lt b x) (is_above b xs) h in
    let head : nat_lt a x ≡ true = grind (arith, nat_tests, parts.0) in
    and_from _ _ head (above_lower a b l xs parts.1)

-- A byte does not stand in a list whose bytes are above it.
pub lacks : (b : ℕ) (xs : List ℕ) → is_above b xs ≡ true → All (λ x. eqb x b ≡ false) xs
lacks b [] h = All-nil _
lacks b (x ∷ xs) h =
    let parts = and_parts (nat_lt b x) (is_above b xs) h in
    let other : eqb x b ≡ false = grind (arith, nat_tests, parts.0) in
    All-cons (λ x. eqb x b ≡ false) x xs other (lacks b xs parts.1)

-- Numbers

digits_are_above : (base : ℕ) → base ≤ 16 → (xs : List ℕ) → AllDigits base xs → is_above 46 xs ≡ true
digits_are_above base l [] h = refl
digits_are_above base l (x ∷ xs) h =
    let value : digit_value x < base = h.0 in
    let head : nat_lt 46 x ≡ true = grind (arith, nat_tests, value) in
    and_from _ _ head (digits_are_above base l xs h.1)

pub decimal_is_above : (n : ℕ) → n < 2 ^ 64 → is_above 46 (decimal n) ≡ true
decimal_is_above n h = digits_are_above 10 (omega arith) (decimal n) (digits_is_IsNumeral 10 false (omega arith) (omega arith) n (omega arith)).0.1

pub hexadecimal_is_above : (n : ℕ) → n < 2 ^ 64 → is_above 46 (hexadecimal n) ≡ true
hexadecimal_is_above n h = digits_are_above 16 (omega arith) (hexadecimal n) (digits_is_IsNumeral 16 false (omega arith) (omega arith) n (omega arith)).0.1

-- Separators

separator_at : (b : ℕ) (xs ys : List ℕ) → is_above b xs ≡ true → position_or_len (λ x. x == b) (xs ++ b ∷ ys) ≡ length xs
separator_at b xs ys h =
    position_or_len_is (λ x. x == b) (xs ++ b ∷ ys) (length xs) 0 (omega (arith, length-append xs (b ∷ ys)))
    (λ k below. rw (get_or_append_left xs (b ∷ ys) 0 k below) (lacks b xs h k 0 below))
    (λ within. rw (get_or-append_seam xs b ys 0) (eq-eqb b b refl))

pub front_of : (b : ℕ) (xs ys : List ℕ) → is_above b xs ≡ true → before_first (λ x. x == b) (xs ++ (b ∷ []) ++ ys) ≡ xs
front_of b xs ys h = rw (append_assoc xs (b ∷ []) ys, separator_at b xs ys h) (take-append_seam xs (b ∷ ys))

pub back_of : (b : ℕ) (xs ys : List ℕ) → is_above b xs ≡ true → after_first (λ x. x == b) (xs ++ (b ∷ []) ++ ys) ≡ ys
back_of b xs ys h = rw (append_assoc xs (b ∷ []) ys, separator_at b xs ys h) (drop-append-add xs (b ∷ ys) 1)

pub joined_at : (b : ℕ) (word : List ℕ) (i : ℕ) → position (λ x. x == b) word ≡ Some i → take i word ++ (b ∷ []) ++ drop (i + 1) word ≡ word
joined_at b word i e =
    let at = position-Some (λ x. x == b) word i 0 e in
    let one : suc i ≡ i + 1 = omega arith in
    let next : drop (suc i) word ≡ drop (i + 1) word = ap (λ (k : ℕ). drop k word) one in
    let tail : drop i word ≡ b ∷ drop (i + 1) word = drop-cons word i 0 at.0 ∙ (λ j. eqb-true (get_or word i 0) b at.1 j ∷ next j) in
    append_assoc (take i word) (b ∷ []) (drop (i + 1) word) ∙ ap (λ (rest : List ℕ). take i word ++ rest) (sym tail) ∙ take-append-drop i word
