-- Links that are rings: two nodes exchange what follows them, and what that does to the lists.
use Rattle.std.proofs.Common.{◌≡◌, ◌≢◌, ℕ, ◌<◌, cond, eqb, List, length, get_or, set, sym, ◌∙◌, ap, subst, ⊎_elim, arith, get_or-set_same, get_or-set_other}
use Rattle.std.proofs.lemmas.List.{length-set}
use Rattle.std.proofs.lemmas.Bool.{cases_eq, ne_eqb, eq-eqb, cond-true, cond-false}
use Rattle.tcb_arena.specs.Inner.Rings.{AreInverse}

-- Two writes in a row

pub second : (xs : List ℕ) (a b v u : ℕ) → b < length xs → get_or (set (set xs a v) b u) b 0 ≡ u
second xs a b v u l =
    let k : b < length (set xs a v) = omega (arith, length-set xs a v) in get_or-set_same (set xs a v) b u 0 k

pub first : (xs : List ℕ) (a b v u : ℕ) → a < length xs → a ≢ b → get_or (set (set xs a v) b u) a 0 ≡ v
first xs a b v u l ne = get_or-set_other (set xs a v) b a u 0 ne ∙ get_or-set_same xs a v 0 l

pub other : (xs : List ℕ) (a b v u i : ℕ) → i ≢ a → i ≢ b → get_or (set (set xs a v) b u) i 0 ≡ get_or xs i 0
other xs a b v u i na nb = get_or-set_other (set xs a v) b i u 0 nb ∙ get_or-set_other xs a i v 0 na

pub length-set2 : (xs : List ℕ) (a b v u : ℕ) → length (set (set xs a v) b u) ≡ length xs
length-set2 xs a b v u = length-set (set xs a v) b u ∙ length-set xs a v

-- a and b, which u and v follow, exchange these two

prev_next_spliced : (next prev : List ℕ) (a b u v i : ℕ) → AreInverse next prev → a < length next → b < length next → get_or next a 0 ≡ u → get_or next b 0 ≡ v → i < length next
    → get_or (set (set prev v a) u b) (get_or (set (set next a v) b u) i 0) 0 ≡ i
prev_next_spliced next prev a b u v i inv la lb ea eb li =
    let lu : u < length prev = omega (arith, inv.next_in a la, inv.lengths, ea) in
    let lv : v < length prev = omega (arith, inv.next_in b lb, inv.lengths, eb) in
    let pu : get_or prev u 0 ≡ a = ap (λ k. get_or prev k 0) (sym ea) ∙ inv.prev_next a la in
    let pv : get_or prev v 0 ≡ b = ap (λ k. get_or prev k 0) (sym eb) ∙ inv.prev_next b lb in
    ⊎_elim
    (λ (ib : i ≡ b). ap (λ k. get_or (set (set prev v a) u b) (get_or (set (set next a v) b u) k 0) 0) ib ∙ ap (λ k. get_or (set (set prev v a) u b) k 0) (second next a b v u lb) ∙ second prev v u a b lu ∙ sym ib)
    (λ (nb : i ≡ b → ⊥). ⊎_elim
    (λ (ia : i ≡ a).
    let ab : a ≢ b = λ e. nb (ia ∙ e) in
    let vu : v ≢ u = λ e. ab (sym pu ∙ ap (λ k. get_or prev k 0) (sym e) ∙ pv) in
    ap (λ k. get_or (set (set prev v a) u b) (get_or (set (set next a v) b u) k 0) 0) ia ∙ ap (λ k. get_or (set (set prev v a) u b) k 0) (first next a b v u la ab) ∙ first prev v u a b lv vu ∙ sym ia)
    (λ (na : i ≡ a → ⊥).
    let back : get_or prev (get_or next i 0) 0 ≡ i = inv.prev_next i li in
    let nu : get_or next i 0 ≢ u = λ e. na (sym back ∙ ap (λ k. get_or prev k 0) e ∙ pu) in
    let nv : get_or next i 0 ≢ v = λ e. nb (sym back ∙ ap (λ k. get_or prev k 0) e ∙ pv) in
    ap (λ k. get_or (set (set prev v a) u b) k 0) (other next a b v u i na nb) ∙ other prev v u a b (get_or next i 0) nv nu ∙ back)
    (cases_eq i a))
    (cases_eq i b)

next_prev_spliced : (next prev : List ℕ) (a b u v j : ℕ) → AreInverse next prev → a < length next → b < length next → get_or next a 0 ≡ u → get_or next b 0 ≡ v → j < length next
    → get_or (set (set next a v) b u) (get_or (set (set prev v a) u b) j 0) 0 ≡ j
next_prev_spliced next prev a b u v j inv la lb ea eb lj =
    let lu : u < length prev = omega (arith, inv.next_in a la, inv.lengths, ea) in
    let lv : v < length prev = omega (arith, inv.next_in b lb, inv.lengths, eb) in
    ⊎_elim
    (λ (ju : j ≡ u). ap (λ k. get_or (set (set next a v) b u) (get_or (set (set prev v a) u b) k 0) 0) ju ∙ ap (λ k. get_or (set (set next a v) b u) k 0) (second prev v u a b lu) ∙ second next a b v u lb ∙ sym ju)
    (λ (nu : j ≡ u → ⊥). ⊎_elim
    (λ (jv : j ≡ v).
    let vu : v ≢ u = λ e. nu (jv ∙ e) in
    let ab : a ≢ b = λ e. vu (sym eb ∙ ap (λ k. get_or next k 0) (sym e) ∙ ea) in
    ap (λ k. get_or (set (set next a v) b u) (get_or (set (set prev v a) u b) k 0) 0) jv ∙ ap (λ k. get_or (set (set next a v) b u) k 0) (first prev v u a b lv vu) ∙ first next a b v u la ab ∙ sym jv)
    (λ (nv : j ≡ v → ⊥).
    let back : get_or next (get_or prev j 0) 0 ≡ j = inv.next_prev j lj in
    let na : get_or prev j 0 ≢ a = λ e. nu (sym back ∙ ap (λ k. get_or next k 0) e ∙ ea) in
    let nb : get_or prev j 0 ≢ b = λ e. nv (sym back ∙ ap (λ k. get_or next k 0) e ∙ eb) in
    ap (λ k. get_or (set (set next a v) b u) k 0) (other prev v u a b j nv nu) ∙ other next a b v u (get_or prev j 0) na nb ∙ back)
    (cases_eq j v))
    (cases_eq j u)

-- Each number stays below n.
below_two : (xs : List ℕ) (a b v u i n : ℕ) → a < length xs → b < length xs → get_or xs i 0 < n → u < n → v < n → get_or (set (set xs a v) b u) i 0 < n
below_two xs a b v u i n la lb h hu hv =
    let P : ℕ → Type 0 = λ k. k < n in
    ⊎_elim
    (λ (ib : i ≡ b). subst P (sym (ap (λ k. get_or (set (set xs a v) b u) k 0) ib ∙ second xs a b v u lb)) hu)
    (λ (nb : i ≡ b → ⊥). ⊎_elim
    (λ (ia : i ≡ a). subst P (sym (ap (λ k. get_or (set (set xs a v) b u) k 0) ia ∙ first xs a b v u la (λ e. nb (ia ∙ e)))) hv)
    (λ (na : i ≡ a → ⊥). subst P (sym (other xs a b v u i na nb)) h)
    (cases_eq i a))
    (cases_eq i b)

pub AreInverse-spliced : (next prev : List ℕ) (a b u v : ℕ) → AreInverse next prev → a < length next → b < length next → get_or next a 0 ≡ u → get_or next b 0 ≡ v
    → AreInverse (set (set next a v) b u) (set (set prev v a) u b)
AreInverse-spliced next prev a b u v inv la lb ea eb =
    let ln : length (set (set next a v) b u) ≡ length next = length-set2 next a b v u in
    let lu : u < length next = omega (arith, inv.next_in a la, ea) in
    let lv : v < length next = omega (arith, inv.next_in b lb, eb) in
    let lu' : u < length prev = omega (arith, inv.lengths) in
    let lv' : v < length prev = omega (arith, inv.lengths) in
    let to : (i : ℕ) → i < length (set (set next a v) b u) → i < length next = λ i l. subst (λ (k : ℕ). i < k) ln l in
    let back : (i : ℕ) → i < length next → i < length (set (set next a v) b u) = λ i l. subst (λ (k : ℕ). i < k) (sym ln) l in
    record {
      lengths = length-set2 prev v u a b ∙ inv.lengths ∙ sym ln;
      next_in = λ i l. back _ (below_two next a b v u i (length next) la lb (inv.next_in i (to i l)) lu lv);
      prev_in = λ i l. back _ (below_two prev v u a b i (length next) lv' lu' (inv.prev_in i (to i l)) lb la);
      prev_next = λ i l. prev_next_spliced next prev a b u v i inv la lb ea eb (to i l);
      next_prev = λ i l. next_prev_spliced next prev a b u v i inv la lb ea eb (to i l);
    }

-- u where a place is `from`, and else the place.
abbrev pub moved : ℕ → ℕ → ℕ → ℕ
moved from to at = cond (eqb at from) to at

pub moved_here : (from to at : ℕ) → at ≡ from → moved from to at ≡ to
moved_here from to at e = cond-true (eqb at from) to at (eq-eqb at from e)

pub moved_there : (from to at : ℕ) → at ≢ from → moved from to at ≡ at
moved_there from to at ne = cond-false (eqb at from) to at (ne_eqb at from ne)

pub moved_same : (from to : ℕ) → moved from to to ≡ to
moved_same from to = ⊎_elim (λ e. moved_here from to to e) (λ ne. moved_there from to to ne) (cases_eq to from)

-- What led to u leads to v then.
pub spliced_step : (next prev : List ℕ) (a b u v y : ℕ) → AreInverse next prev → a < length next → get_or next a 0 ≡ u → y < length next → y ≢ b
    → get_or (set (set next a v) b u) y 0 ≡ moved u v (get_or next y 0)
spliced_step next prev a b u v y inv la ea ly nb =
    ⊎_elim
    (λ (ya : y ≡ a).
    ap (λ k. get_or (set (set next a v) b u) k 0) ya ∙ first next a b v u la (λ e. nb (ya ∙ e)) ∙ sym (moved_here u v (get_or next y 0) (ap (λ k. get_or next k 0) ya ∙ ea)))
    (λ (na : y ≡ a → ⊥).
    other next a b v u y na nb ∙ sym (moved_there u v (get_or next y 0) (λ e. na (sym (inv.prev_next y ly) ∙ ap (λ k. get_or prev k 0) (e ∙ sym ea) ∙ inv.prev_next a la))))
    (cases_eq y a)
