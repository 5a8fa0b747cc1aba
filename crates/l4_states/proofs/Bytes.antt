-- Different lists of numbers have different bytes.
use Rattle.std.proofs.Common.{◌≡◌, ℕ, zero, suc, ◌+◌, ◌/◌, ◌%◌, Bool, true, false, cond, ◌==◌, nat_lt, List, [], ◌∷◌, ◌++◌, replicate, refl, sym, ap, ◌∙◌, arith}
use Rattle.std.proofs.lemmas.Bool.{ltb-true, eqb-true}
use Rattle.l4_states.specs.Inner.Bytes.{put_by, put_number, Token, Zeros, Above, longest_run, ended, tokens_from, put_tokens, bytes_of}

-- A code has what is shown of a value, and what follows, apart from all others.
abbrev pub IsApart : {A B : Type 0} → (A → B) → (A → List ℕ → List ℕ) → Type 0
IsApart shown code = (a b : _) (x y : List ℕ) → code a x ≡ code b y → (shown a ≡ shown b) × (x ≡ y)

head : ℕ → List ℕ → ℕ
head d [] = d
head d (x ∷ xs) = x

rest_of : List ℕ → List ℕ
rest_of [] = []
rest_of (x ∷ xs) = xs

pub first_is : (a b : ℕ) (x y : List ℕ) → a ∷ x ≡ b ∷ y → a ≡ b
unfolding head
first_is a b x y h = ap (head 0) h

pub rest_is : (a b : ℕ) (x y : List ℕ) → a ∷ x ≡ b ∷ y → x ≡ y
unfolding rest_of
rest_is a b x y h = ap rest_of h

-- A number, and what follows it

low_and_high : (m n : ℕ) → m % 128 + 128 ≡ n % 128 + 128 → m / 128 ≡ n / 128 → m ≡ n
low_and_high m n low high = grind arith

put_by_apart : (more m n : ℕ) (x y : List ℕ) → put_by more m x ≡ put_by more n y → (m ≡ n) × (x ≡ y)
put_by_apart zero m n x y h = (first_is m n x y h, rest_is m n x y h)
put_by_apart (suc more) m n x y h =
    by (nat_lt m 128) (nat_lt n 128) refl refl h (put_by_apart more (m / 128) (n / 128) x y)
  where
    by : (b c : Bool) → nat_lt m 128 ≡ b → nat_lt n 128 ≡ c →
        cond b (m ∷ x) ((m % 128 + 128) ∷ put_by more (m / 128) x)
        ≡ cond c (n ∷ y) ((n % 128 + 128) ∷ put_by more (n / 128) y) →
        (put_by more (m / 128) x ≡ put_by more (n / 128) y → (m / 128 ≡ n / 128) × (x ≡ y)) →
        (m ≡ n) × (x ≡ y)
    by true true s t h rest = (first_is _ _ _ _ h, rest_is _ _ _ _ h)
    by true false s t h rest =
        let first = first_is _ _ _ _ h in
        absurd (omega (arith, ltb-true m 128 s))
    by false true s t h rest =
        let first = first_is _ _ _ _ h in
        absurd (omega (arith, ltb-true n 128 t))
    by false false s t h rest =
        let r = rest (rest_is _ _ _ _ h) in
        (low_and_high m n (first_is _ _ _ _ h) r.0, r.1)

pub number_apart : (m n : ℕ) (x y : List ℕ) → put_number m x ≡ put_number n y → (m ≡ n) × (x ≡ y)
number_apart m n x y h = put_by_apart 9 m n x y h

-- A number that is not 0 does not begin with 0.
never_zero : (n : ℕ) (x y : List ℕ) → put_number (suc n) x ≡ 0 ∷ y → ⊥
never_zero n x y h = by (nat_lt (suc n) 128) refl h
  where
    by : (b : Bool) → nat_lt (suc n) 128 ≡ b →
        cond b (suc n ∷ x) ((suc n % 128 + 128) ∷ put_by 8 (suc n / 128) x) ≡ 0 ∷ y → ⊥
    by true s h = let first = first_is _ _ _ _ h in omega arith
    by false s h = let first = first_is _ _ _ _ h in omega arith

never_empty : (n : ℕ) (x : List ℕ) → put_number n x ≡ [] → ⊥
never_empty n x h = by (nat_lt n 128) h
  where
    by : (b : Bool) → cond b (n ∷ x) ((n % 128 + 128) ∷ put_by 8 (n / 128) x) ≡ [] → ⊥
    by true h = cc
    by false h = cc

-- Tokens

tokens_apart : (ts us : List Token) → put_tokens ts ≡ put_tokens us → ts ≡ us
tokens_apart [] [] h = refl
tokens_apart [] (Zeros n ∷ us) h = cc
tokens_apart [] (Above n ∷ us) h = absurd (never_empty (suc n) (put_tokens us) (sym h))
tokens_apart (Zeros m ∷ ts) [] h = cc
tokens_apart (Above m ∷ ts) [] h = absurd (never_empty (suc m) (put_tokens ts) h)
tokens_apart (Zeros m ∷ ts) (Zeros n ∷ us) h =
    let more = rest_is _ _ _ _ h in
    let count : m ≡ n = first_is _ _ _ _ more in
    let left : ts ≡ us = tokens_apart ts us (rest_is _ _ _ _ more) in
    λ i. Zeros (count i) ∷ left i
tokens_apart (Zeros m ∷ ts) (Above n ∷ us) h = absurd (never_zero n (put_tokens us) _ (sym h))
tokens_apart (Above m ∷ ts) (Zeros n ∷ us) h = absurd (never_zero m (put_tokens ts) _ h)
tokens_apart (Above m ∷ ts) (Above n ∷ us) h =
    let r = number_apart (suc m) (suc n) (put_tokens ts) (put_tokens us) h in
    let one : m ≡ n = omega (arith, r.0) in
    let left : ts ≡ us = tokens_apart ts us r.1 in
    λ i. Above (one i) ∷ left i

-- The numbers that tokens stand for.
expanded : List Token → List ℕ
expanded [] = []
expanded (Zeros n ∷ ts) = replicate n 0 ++ expanded ts
expanded (Above n ∷ ts) = suc n ∷ expanded ts

expanded-ended : (count : ℕ) (ts : List Token) →
    expanded (ended count ts) ≡ replicate count 0 ++ expanded ts
unfolding expanded
expanded-ended zero ts = refl
expanded-ended (suc count) ts = refl

one_more_zero : (zeros : ℕ) (ns : List ℕ) →
    replicate (suc zeros) 0 ++ ns ≡ replicate zeros 0 ++ 0 ∷ ns
one_more_zero zero ns = refl
one_more_zero (suc zeros) ns = ap (λ xs. 0 ∷ xs) (one_more_zero zeros ns)

expanded-tokens : (zeros : ℕ) (ns : List ℕ) →
    expanded (tokens_from zeros ns) ≡ replicate zeros 0 ++ ns
unfolding expanded
expanded-tokens zeros [] = expanded-ended zeros []
expanded-tokens zeros (zero ∷ ns) =
    by (zeros == longest_run) refl (expanded-tokens 1 ns) (expanded-tokens (suc zeros) ns)
  where
    by : (b : Bool) → (zeros == longest_run) ≡ b → expanded (tokens_from 1 ns) ≡ 0 ∷ ns →
        expanded (tokens_from (suc zeros) ns) ≡ replicate (suc zeros) 0 ++ ns →
        expanded (cond b (Zeros longest_run ∷ tokens_from 1 ns) (tokens_from (suc zeros) ns))
        ≡ replicate zeros 0 ++ 0 ∷ ns
    by true e full more =
        ap (λ xs. replicate longest_run 0 ++ xs) full
        ∙ ap (λ n. replicate n 0 ++ 0 ∷ ns) (sym (eqb-true zeros longest_run e))
    by false e full more = more ∙ one_more_zero zeros ns
expanded-tokens zeros (suc n ∷ ns) =
    expanded-ended zeros (Above n ∷ tokens_from 0 ns)
    ∙ ap (λ xs. replicate zeros 0 ++ suc n ∷ xs) (expanded-tokens 0 ns)

pub bytes_apart : (ns ms : List ℕ) → bytes_of ns ≡ bytes_of ms → ns ≡ ms
bytes_apart ns ms h =
    sym (expanded-tokens 0 ns) ∙ ap expanded (tokens_apart (tokens_from 0 ns) (tokens_from 0 ms) h)
    ∙ expanded-tokens 0 ms
