-- The lines of one more thread, and one more line of the last.
use Rattle.std.proofs.Common.{◌≡◌, ℕ, suc, ◌+◌, ◌-◌, ◌<◌, Bool, true, cond, List, [], ◌∷◌, ◌++◌, append_assoc, get_or, length, map, replicate, set, sym, ap, ◌∙◌, arith}
use Rattle.std.specs.Prelude.{nat_lt}
use Rattle.std.proofs.lemmas.Bool.{lt-ltb}
use Rattle.std.proofs.lemmas.List.{get_or-map, length-map, length_push, map-append, map-set}
use Rattle.l4_json.specs.Scripts.{last_lines, lengthened}

pub one_more : {V : Type 0} (f : V → List ℕ) (s new : List V) (v : V) (count : ℕ) (lines : List ℕ) → length s < count → f v ≡ lines → new ≡ s ++ v ∷ []
    → map f new ++ replicate (count - length new) lines ≡ map f s ++ replicate (count - length s) lines
one_more f s new v count lines below same is =
    let left : count - length s ≡ suc (count - length new) = omega (arith, below, length_push s v, ap length is) in
    ap (λ vs. map f vs ++ replicate (count - length new) lines) is
    ∙ ap (λ ls. ls ++ replicate (count - length new) lines) (map-append f s (v ∷ []))
    ∙ append_assoc (map f s) (f v ∷ []) (replicate (count - length new) lines)
    ∙ ap (λ l. map f s ++ l ∷ replicate (count - length new) lines) same
    ∙ ap (λ (n : ℕ). map f s ++ replicate n lines) (sym left)

pub one_longer : {V : Type 0} (f : V → List ℕ) (s : List V) (last : ℕ) (old new : V) (number size : ℕ) → last + 1 ≡ length s → old ≡ get_or s last old → f new ≡ f old ++ number ∷ [] → length (f old) < size
    → map f (set s last new) ≡ lengthened number size (map f s)
one_longer f s last old new number size end there is below =
    let place : length (map f s) - 1 ≡ last = omega (arith, end, length-map s f) in
    let lines : last_lines (map f s) ≡ f old =
    ap (λ (i : ℕ). get_or (map f s) i []) place ∙ get_or-map f s last old [] (omega (arith, end)) ∙ ap f (sym there) in
    let more : nat_lt (length (last_lines (map f s))) size ≡ true = lt-ltb _ _ (omega (arith, ap length lines, below)) in
    map-set f s last new
    ∙ ap (λ x. set (map f s) last x) is
    ∙ sym (ap (λ (b : Bool). cond b (set (map f s) (length (map f s) - 1) (last_lines (map f s) ++ number ∷ [])) (map f s)) more
    ∙ ap (λ (i : ℕ). set (map f s) i (last_lines (map f s) ++ number ∷ [])) place
    ∙ ap (λ l. set (map f s) last (l ++ number ∷ [])) lines)
