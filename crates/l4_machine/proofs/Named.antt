-- A list that begins as one element over and over, and is written one by one.
use Rattle.std.proofs.Common.{◌≡◌, ℕ, ◌+◌, ◌-◌, ◌<◌, ◌≤◌, zero, suc, List, [], ◌∷◌, ◌++◌, length, get_or, map, set, take, replicate, refl, sym, ap, ◌∙◌, arith, append_assoc}
use Rattle.std.proofs.lemmas.List.{append-nil, length-take-le, set_at, take_all, take_more}

-- The first `i` elements are those of another list, and the others still what all began as.
abbrev pub named : {X : Type 0} → (i : ℕ) (ys : List X) (begun : X) → List X
named i ys begun = take i ys ++ replicate (length ys - i) begun

pub none_named : {X : Type 0} (ys : List X) (begun : X) → named 0 ys begun ≡ replicate (length ys) begun
none_named ys begun = let all : length ys - 0 ≡ length ys = omega arith in ap (λ n. replicate n begun) all

begins : {X : Type 0} (i : ℕ) (ys : List X) (begun : X) → i < length ys →
    named i ys begun ≡ take i ys ++ begun ∷ replicate (length ys - (i + 1)) begun
begins i ys begun within =
    let more : length ys - i ≡ suc (length ys - (i + 1)) = omega arith in
    ap (λ n. take i ys ++ replicate n begun) more

ends : {X : Type 0} (i : ℕ) (ys : List X) (begun d : X) → i < length ys →
    named (i + 1) ys begun ≡ take i ys ++ get_or ys i d ∷ replicate (length ys - (i + 1)) begun
ends i ys begun d within =
    ap (λ first. first ++ replicate (length ys - (i + 1)) begun) (take_more ys i d within)
    ∙ append_assoc (take i ys) (get_or ys i d ∷ []) (replicate (length ys - (i + 1)) begun)

-- The next is written.
pub is_named : {X : Type 0} (i : ℕ) (ys : List X) (begun d : X) → i < length ys →
    set (named i ys begun) i (get_or ys i d) ≡ named (i + 1) ys begun
is_named i ys begun d within =
    ap (λ xs. set xs i (get_or ys i d)) (begins i ys begun within)
    ∙ set_at (take i ys) begun (replicate (length ys - (i + 1)) begun) (get_or ys i d) i (length-take-le i ys (omega arith))
    ∙ sym (ends i ys begun d within)

-- The next is what it began as.
pub stays : {X : Type 0} (i : ℕ) (ys : List X) (begun d : X) → i < length ys → get_or ys i d ≡ begun →
    named i ys begun ≡ named (i + 1) ys begun
stays i ys begun d within same =
    begins i ys begun within
    ∙ ap (λ y. take i ys ++ y ∷ replicate (length ys - (i + 1)) begun) (sym same)
    ∙ sym (ends i ys begun d within)

pub all_named : {X : Type 0} (i : ℕ) (ys : List X) (begun : X) → length ys ≤ i → named i ys begun ≡ ys
all_named i ys begun all =
    let none : length ys - i ≡ 0 = omega arith in
    ap (λ n. take i ys ++ replicate n begun) none ∙ append-nil (take i ys) ∙ take_all i ys all

pub map_replicate : {X Y : Type 0} (f : X → Y) (n : ℕ) (x : X) → map f (replicate n x) ≡ replicate n (f x)
map_replicate f zero x = refl
map_replicate f (suc n) x = ap (λ ys. f x ∷ ys) (map_replicate f n x)
