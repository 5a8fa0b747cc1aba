-- A byte as a string of JSON has it.
use Rattle.std.proofs.Common.{◌≡◌, ℕ, ◌+◌, ◌/◌, ◌%◌, ◌<◌, ◌≤◌, cond, List, [], ◌∷◌, ◌++◌, length, take, get_or, sym, ap, ◌∙◌}
use Rattle.std.specs.Prelude.{flat_map, nat_lt}
use Rattle.std.specs.Char.{digit_char}
use Rattle.std.proofs.lemmas.Bool.{lt-ltb, le-ltb}
use Rattle.std.proofs.lemmas.List.{flat_map_more, take_more}
use Rattle.json.specs.Print.{escape_byte, escape_letter}

abbrev pub long : ℕ → List ℕ
long x = 92 ∷ 117 ∷ 48 ∷ 48 ∷ digit_char (x / 16) ∷ digit_char (x % 16) ∷ []

by_letter : (x letter : ℕ) → letter ≡ escape_letter x → cond (nat_lt 0 letter) (92 ∷ letter ∷ []) (cond (nat_lt x 32) (long x) (x ∷ [])) ≡ escape_byte x
unfolding escape_byte
by_letter x letter is = ap (λ k. cond (nat_lt 0 k) (92 ∷ k ∷ []) (cond (nat_lt x 32) (long x) (x ∷ []))) is

pub by_short : (x letter : ℕ) → letter ≡ escape_letter x → 0 < letter → 92 ∷ letter ∷ [] ≡ escape_byte x
by_short x letter is some =
    ap (λ b. cond b (92 ∷ letter ∷ []) (cond (nat_lt x 32) (long x) (x ∷ []))) (sym (lt-ltb 0 letter some)) ∙ by_letter x letter is

pub by_long : (x letter : ℕ) → letter ≡ escape_letter x → letter ≤ 0 → x < 32 → long x ≡ escape_byte x
by_long x letter is none small =
    ap (λ b. cond b (long x) (x ∷ [])) (sym (lt-ltb x 32 small))
    ∙ ap (λ b. cond b (92 ∷ letter ∷ []) (cond (nat_lt x 32) (long x) (x ∷ []))) (sym (le-ltb 0 letter none))
    ∙ by_letter x letter is

pub with_digits : (x high low : ℕ) → high ≡ digit_char (x / 16) → low ≡ digit_char (x % 16) → 92 ∷ 117 ∷ 48 ∷ 48 ∷ high ∷ low ∷ [] ≡ long x
with_digits x high low one two = ap (λ h. 92 ∷ 117 ∷ 48 ∷ 48 ∷ h ∷ low ∷ []) one ∙ ap (λ l. 92 ∷ 117 ∷ 48 ∷ 48 ∷ digit_char (x / 16) ∷ l ∷ []) two

pub as_it_is : (x letter : ℕ) → letter ≡ escape_letter x → letter ≤ 0 → 32 ≤ x → x ∷ [] ≡ escape_byte x
as_it_is x letter is none large =
    ap (λ b. cond b (long x) (x ∷ [])) (sym (le-ltb x 32 large))
    ∙ ap (λ b. cond b (92 ∷ letter ∷ []) (cond (nat_lt x 32) (long x) (x ∷ []))) (sym (le-ltb 0 letter none))
    ∙ by_letter x letter is

-- What was appended for so many elements, and for the next.
pub one_more : {A : Type 0} (f : A → List ℕ) (start out new : List ℕ) (xs : List A) (i : ℕ) (d : A) → out ≡ start ++ flat_map f (take i xs) → new ≡ out ++ f (get_or xs i d) →
    i < length xs → new ≡ start ++ flat_map f (take (i + 1) xs)
one_more f start out new xs i d before step within =
    step ∙ ap (λ o. o ++ f (get_or xs i d)) before ∙ flat_map_more f start (take i xs) (get_or xs i d)
    ∙ ap (λ l. start ++ flat_map f l) (sym (take_more xs i d within))
