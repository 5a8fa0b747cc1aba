-- The way back from a place, step by step.
use Rattle.std.proofs.Common.{◌≡◌, ℕ, zero, suc, ◌+◌, ◌<◌, true, false, Option, Some, None, List, [], ◌∷◌, ◌++◌, refl, ap, sym, ◌∙◌, arith, length, append-nil, append_assoc}
use Rattle.std.proofs.lemmas.Bool.Decides.{nat_tests}
use Rattle.std.specs.Prelude.{◌==◌, nat_lt}
use Rattle.std.specs.Option.{option_map}
use Rattle.l4_model.proofs.Places.{eqb_same}
use Rattle.l4_waits.specs.Circles.{next_at, way_back, circle_at}

pub way_none : (nexts : List (Option ℕ)) (first left : ℕ) → way_back nexts first left None ≡ None
way_none nexts first zero = refl
way_none nexts first (suc left) = refl

pub way_first : (nexts : List (Option ℕ)) (first left : ℕ) → way_back nexts first (suc left) (Some first) ≡ Some []
way_first nexts first left = let same : (first == first) ≡ true = eqb_same first in rw same refl

pub way_before : (nexts : List (Option ℕ)) (first left i : ℕ) → i < first → way_back nexts first left (Some i) ≡ None
way_before nexts first zero i lt = refl
way_before nexts first (suc left) i lt =
    let other : (i == first) ≡ false = grind (arith, nat_tests, lt) in
    let earlier : nat_lt first i ≡ false = grind (arith, nat_tests, lt) in
    rw (other, earlier) refl

pub way_on : (nexts : List (Option ℕ)) (first left i : ℕ) → first < i → way_back nexts first (suc left) (Some i) ≡ option_map (λ others. i ∷ others) (way_back nexts first left (next_at nexts i))
way_on nexts first left i lt =
    let other : (i == first) ≡ false = grind (arith, nat_tests, lt) in
    let later : nat_lt first i ≡ true = grind (arith, nat_tests, lt) in
    rw (other, later) refl

-- The same of the places so far with the way back behind them.

abbrev pub whole : List ℕ → Option (List ℕ) → Option (List ℕ)
whole circle way = option_map (λ others. circle ++ others) way

behind : (circle : List ℕ) (i : ℕ) (way : Option (List ℕ)) → whole circle (option_map (λ others. i ∷ others) way) ≡ whole (circle ++ i ∷ []) way
behind circle i None = refl
behind circle i (Some others) = ap Some (sym (append_assoc circle (i ∷ []) others))

pub found_none : (nexts : List (Option ℕ)) (first left : ℕ) (circle : List ℕ) (o : Option (List ℕ)) (at : Option ℕ) → at ≡ None → o ≡ whole circle (way_back nexts first left at) → o ≡ None
found_none nexts first left circle o at none is = is ∙ ap (λ a. whole circle (way_back nexts first left a)) none ∙ ap (whole circle) (way_none nexts first left)

pub found_ended : (nexts : List (Option ℕ)) (first left : ℕ) (circle : List ℕ) (o : Option (List ℕ)) (at : Option ℕ) → left ≡ 0 → o ≡ whole circle (way_back nexts first left at) → o ≡ None
found_ended nexts first zero circle o at e is = is
found_ended nexts first (suc left) circle o at e is = absurd (omega (arith, e))

pub found_first : (nexts : List (Option ℕ)) (first left i : ℕ) (circle : List ℕ) (o : Option (List ℕ)) (at : Option ℕ) → at ≡ Some i → 0 < left → i ≡ first → o ≡ whole circle (way_back nexts first left at) → o ≡ Some circle
found_first nexts first zero i circle o at here lt e is = absurd (omega (arith, lt))
found_first nexts first (suc left) i circle o at here lt e is =
    is ∙ ap (λ a. whole circle (way_back nexts first (suc left) a)) (here ∙ ap Some e) ∙ ap (whole circle) (way_first nexts first left) ∙ ap Some (append-nil circle)

pub found_before : (nexts : List (Option ℕ)) (first left i : ℕ) (circle : List ℕ) (o : Option (List ℕ)) (at : Option ℕ) → at ≡ Some i → i < first → o ≡ whole circle (way_back nexts first left at) → o ≡ None
found_before nexts first left i circle o at here lt is =
    is ∙ ap (λ a. whole circle (way_back nexts first left a)) here ∙ ap (whole circle) (way_before nexts first left i lt)

pub found_on : (nexts : List (Option ℕ)) (first left less i : ℕ) (circle longer : List ℕ) (o : Option (List ℕ)) (at next : Option ℕ) → at ≡ Some i → left ≡ less + 1 → first < i → longer ≡ circle ++ i ∷ [] → next ≡ next_at nexts i →
    o ≡ whole circle (way_back nexts first left at) → o ≡ whole longer (way_back nexts first less next)
found_on nexts first zero less i circle longer o at next here e lt more on is = absurd (omega (arith, e))
found_on nexts first (suc left) less i circle longer o at next here e lt more on is =
    let same : left ≡ less = omega (arith, e) in
    is ∙ ap (λ a. whole circle (way_back nexts first (suc left) a)) here ∙ ap (whole circle) (way_on nexts first left i lt) ∙ behind circle i (way_back nexts first left (next_at nexts i))
    ∙ ap (λ c. whole c (way_back nexts first left (next_at nexts i))) (sym more)
    ∙ ap (λ n. whole longer (way_back nexts first n (next_at nexts i))) same
    ∙ ap (λ a. whole longer (way_back nexts first less a)) (sym on)

pub begun : (nexts : List (Option ℕ)) (first left : ℕ) (circle : List ℕ) (at : Option ℕ) → circle ≡ first ∷ [] → left ≡ length nexts → at ≡ next_at nexts first →
    circle_at nexts first ≡ whole circle (way_back nexts first left at)
begun nexts first left circle at one all next =
    ap (λ a. whole (first ∷ []) (way_back nexts first (length nexts) a)) (sym next)
    ∙ ap (λ n. whole (first ∷ []) (way_back nexts first n at)) (sym all)
    ∙ ap (λ c. whole c (way_back nexts first left at)) (sym one)
