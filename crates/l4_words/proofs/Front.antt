-- The digits in front of a text.
use Rattle.std.proofs.Common.{◌≡◌, ℕ, zero, suc, ◌≤◌, Bool, true, List, [], ◌∷◌, ◌++◌, length, take, drop, Some, is_some, refl, sym, ap, ◌∙◌, arith}
use Rattle.std.specs.List.{prefix_len}
use Rattle.std.proofs.lemmas.Bool.{eq-eqb}
use Rattle.std.proofs.lemmas.List.{take-append-drop, length-take-le}
use Rattle.std.proofs.lemmas.List.Folds.{prefix_len-append}
use Rattle.l4_words.specs.Numbers.{digit_of, with_digit, number_onto}
use Rattle.l4_words.proofs.Found.{some_same, some_bind}

abbrev pub is_digit : (radix byte : ℕ) → Bool
is_digit radix byte = is_some (digit_of radix byte)

digit_read : (radix value byte more : ℕ) → with_digit radix value byte ≡ Some more → is_digit radix byte ≡ true
digit_read radix value byte more e = let d = some_bind (digit_of radix byte) _ more e in rw d.1 refl

all_digits : (radix value number : ℕ) (bytes : List ℕ) → number_onto radix value bytes ≡ Some number → prefix_len (is_digit radix) bytes ≡ length bytes
all_digits radix value number [] e = refl
all_digits radix value number (byte ∷ bytes) e =
    let first = some_bind (with_digit radix value byte) _ number e in
    rw (digit_read radix value byte first.0 first.1, all_digits radix first.0 number bytes first.2) (omega arith)

pub one_more : (radix value number byte more : ℕ) (bytes : List ℕ) → number_onto radix value bytes ≡ Some number → with_digit radix number byte ≡ Some more →
    number_onto radix value (bytes ++ byte ∷ []) ≡ Some more
one_more radix value number byte more [] e next = let same : value ≡ number = some_same value number e in rw (same, next) refl
one_more radix value number byte more (b ∷ bytes) e next =
    let first = some_bind (with_digit radix value b) _ number e in
    rw first.1 (one_more radix first.0 number byte more bytes first.2 next)

pub counted : (radix value count : ℕ) (text : List ℕ) → count ≤ length text → number_onto radix 0 (take count text) ≡ Some value →
    prefix_len (is_digit radix) (drop count text) ≡ 0 → count ≡ prefix_len (is_digit radix) text
counted radix value count text within e end =
    let all = all_digits radix 0 value (take count text) e in
    let whole = prefix_len-append (is_digit radix) (take count text) (drop count text) in
    let size : length (take count text) ≡ count = length-take-le count text within in
    let sum : prefix_len (is_digit radix) (take count text ++ drop count text) ≡ count = whole ∙ rw (eq-eqb _ _ all) (omega (arith, size, end)) in
    sym sum ∙ ap (prefix_len (is_digit radix)) (take-append-drop count text)

take_of_take : (n m : ℕ) (xs : List ℕ) → n ≤ m → take n (take m xs) ≡ take n xs
take_of_take zero m xs l = refl
take_of_take (suc n) zero xs l = absurd (omega (arith, l))
take_of_take (suc n) (suc m) [] l = refl
take_of_take (suc n) (suc m) (x ∷ xs) l = ap (λ (rest : List ℕ). x ∷ rest) (take_of_take n m xs (omega (arith, l)))

pub counted_few : (radix value few count : ℕ) (text : List ℕ) → few ≤ length text → count ≤ length (take few text) →
    number_onto radix 0 (take count (take few text)) ≡ Some value →
    prefix_len (is_digit radix) (drop count text) ≡ 0 → count ≡ prefix_len (is_digit radix) text
counted_few radix value few count text short within e end =
    let size = length-take-le few text short in
    let low : count ≤ few = omega (arith, within, size) in
    counted radix value count text (omega (arith, low, short)) (rw (take_of_take count few text low) at e) end
