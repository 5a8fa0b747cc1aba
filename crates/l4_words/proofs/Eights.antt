-- Digits that are read by eight.
use Rattle.std.proofs.Common.{◌≡◌, ℕ, ◌+◌, ◌*◌, ◌^◌, ◌<◌, ◌≤◌, cond, List, [], ◌∷◌, ◌++◌, length, take, drop, get_or, Some, None, refl, sym, ap, ◌∙◌, arith, take_all}
use Rattle.std.specs.Prelude.{nat_lt}
use Rattle.std.proofs.lemmas.List.{take-append-drop}
use Rattle.std.proofs.lemmas.Bool.{lt-ltb}
use Rattle.l4_words.specs.Numbers.{digit_of, with_digit, number_onto}
use Rattle.l4_words.proofs.Found.{some_same, some_bind}

one_digit : (v byte d : ℕ) (rest : List ℕ) → digit_of 16 byte ≡ Some d → v * 16 + d < 2 ^ 64 → number_onto 16 v (byte ∷ rest) ≡ number_onto 16 (v * 16 + d) rest
one_digit v byte d rest digit small = rw (digit, lt-ltb (v * 16 + d) (2 ^ 64) small) refl

two_digits : (v byte next d e : ℕ) (rest : List ℕ) → digit_of 16 byte ≡ Some d → digit_of 16 next ≡ Some e → v * 256 + (d * 16 + e) < 2 ^ 64 →
    number_onto 16 v (byte ∷ next ∷ rest) ≡ number_onto 16 (v * 256 + (d * 16 + e)) rest
two_digits v byte next d e rest first second small =
    let sum : (v * 16 + d) * 16 + e ≡ v * 256 + (d * 16 + e) = omega arith in
    one_digit v byte d (next ∷ rest) first (omega (arith, small)) ∙ one_digit (v * 16 + d) next e rest second (omega (arith, small))
    ∙ ap (λ n. number_onto 16 n rest) sum

eight_bytes : (bytes : List ℕ) → length bytes ≡ 8 →
    bytes ≡ get_or bytes 0 0 ∷ get_or bytes 1 0 ∷ get_or bytes 2 0 ∷ get_or bytes 3 0 ∷ get_or bytes 4 0 ∷ get_or bytes 5 0 ∷ get_or bytes 6 0 ∷ get_or bytes 7 0 ∷ []
eight_bytes [] size = absurd (omega (arith, size))
eight_bytes (a ∷ []) size = absurd (omega (arith, size))
eight_bytes (a ∷ b ∷ []) size = absurd (omega (arith, size))
eight_bytes (a ∷ b ∷ c ∷ []) size = absurd (omega (arith, size))
eight_bytes (a ∷ b ∷ c ∷ d ∷ []) size = absurd (omega (arith, size))
eight_bytes (a ∷ b ∷ c ∷ d ∷ e ∷ []) size = absurd (omega (arith, size))
eight_bytes (a ∷ b ∷ c ∷ d ∷ e ∷ f ∷ []) size = absurd (omega (arith, size))
eight_bytes (a ∷ b ∷ c ∷ d ∷ e ∷ f ∷ g ∷ []) size = absurd (omega (arith, size))
eight_bytes (a ∷ b ∷ c ∷ d ∷ e ∷ f ∷ g ∷ h ∷ []) size = refl
eight_bytes (a ∷ b ∷ c ∷ d ∷ e ∷ f ∷ g ∷ h ∷ i ∷ bytes) size = absurd (omega (arith, size))

-- What a byte adds to the value of eight: its digit, or too much.
abbrev pub Adds : (byte d : ℕ) → Type 0
Adds byte d = d < 2 ^ 32 → digit_of 16 byte ≡ Some d

pub adds : (byte d : ℕ) → (d < 2 ^ 32 → d < 16) → ((radix : ℕ) → radix ≤ 16 → digit_of radix byte ≡ cond (nat_lt d radix) (Some d) None) → Adds byte d
adds byte d few digit small = digit 16 (omega arith) ∙ rw (lt-ltb d 16 (few small)) refl

abbrev pub eight : (a b c d e f g h : ℕ) → ℕ
eight a b c d e f g h = ((((((a * 16 + b) * 16 + c) * 16 + d) * 16 + e) * 16 + f) * 16 + g) * 16 + h

pub eight_read : (bytes : List ℕ) (a b c d e f g h : ℕ) → length bytes ≡ 8 →
    Adds (get_or bytes 0 0) a → Adds (get_or bytes 1 0) b → Adds (get_or bytes 2 0) c → Adds (get_or bytes 3 0) d →
    Adds (get_or bytes 4 0) e → Adds (get_or bytes 5 0) f → Adds (get_or bytes 6 0) g → Adds (get_or bytes 7 0) h →
    eight a b c d e f g h < 2 ^ 32 → (v : ℕ) → v < 2 ^ 32 → number_onto 16 v bytes ≡ Some (v * 2 ^ 32 + eight a b c d e f g h)
eight_read bytes a b c d e f g h size pa pb pc pd pe pf pg ph small v low =
    let first : ℕ = v * 256 + (a * 16 + b) in
    let second : ℕ = first * 256 + (c * 16 + d) in
    let third : ℕ = second * 256 + (e * 16 + f) in
    let sum : third * 256 + (g * 16 + h) ≡ v * 2 ^ 32 + eight a b c d e f g h = omega arith in
    ap (number_onto 16 v) (eight_bytes bytes size)
    ∙ two_digits v (get_or bytes 0 0) (get_or bytes 1 0) a b (get_or bytes 2 0 ∷ get_or bytes 3 0 ∷ get_or bytes 4 0 ∷ get_or bytes 5 0 ∷ get_or bytes 6 0 ∷ get_or bytes 7 0 ∷ []) (pa (omega (arith, small))) (pb (omega (arith, small))) (omega (arith, small, low))
    ∙ two_digits first (get_or bytes 2 0) (get_or bytes 3 0) c d (get_or bytes 4 0 ∷ get_or bytes 5 0 ∷ get_or bytes 6 0 ∷ get_or bytes 7 0 ∷ []) (pc (omega (arith, small))) (pd (omega (arith, small))) (omega (arith, small, low))
    ∙ two_digits second (get_or bytes 4 0) (get_or bytes 5 0) e f (get_or bytes 6 0 ∷ get_or bytes 7 0 ∷ []) (pe (omega (arith, small))) (pf (omega (arith, small))) (omega (arith, small, low))
    ∙ two_digits third (get_or bytes 6 0) (get_or bytes 7 0) g h [] (pg (omega (arith, small))) (ph (omega (arith, small))) (omega (arith, small, low))
    ∙ ap (λ n. Some n) sum

onto_behind : (radix v m : ℕ) (xs ys : List ℕ) → number_onto radix v xs ≡ Some m → number_onto radix v (xs ++ ys) ≡ number_onto radix m ys
onto_behind radix v m [] ys e = ap (λ k. number_onto radix k ys) (some_same v m e)
onto_behind radix v m (byte ∷ xs) ys e =
    let first = some_bind (with_digit radix v byte) _ m e in
    rw first.1 (onto_behind radix first.0 m xs ys first.2)

pub sixteen_read : (text : List ℕ) (first n : ℕ) → length text ≤ 16 → number_onto 16 0 (take 8 text) ≡ Some first → number_onto 16 first (drop 8 text) ≡ Some n →
    number_onto 16 0 (take 16 text) ≡ Some n
sixteen_read text first n few front back =
    ap (number_onto 16 0) (take_all 16 text few ∙ sym (take-append-drop 8 text)) ∙ onto_behind 16 0 first (take 8 text) (drop 8 text) front ∙ back
