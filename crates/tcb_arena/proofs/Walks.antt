-- Where the links lead, and the lists that this makes.
use Rattle.std.specs.Prelude.{slice_get, Some, None}
use Rattle.std.proofs.Common.{ltb, ◌≡◌, ◌≢◌, ℕ, ◌<◌, ◌≤◌, true, false, cond, eqb, ◌||◌, List, [], ◌∷◌, ◌++◌, length, get_or, refl, sym, ◌∙◌, ap, subst, ⊎_elim, arith, zero, suc, drop}
use Rattle.std.proofs.lemmas.Bool.{cases_eq, ne_eqb, eq-eqb, eqb-true, cond-true, cond-false, or_cases, or_parts, eqb-false, lt-ltb, le-ltb}
use Rattle.l4_model.specs.World.{is_in}
use Rattle.std.specs.List.{IsDistinct}
use Rattle.tcb_arena.specs.Inner.Rings.{Leads, walk, with_before, without}
use Rattle.tcb_arena.proofs.Splices.{moved, moved_here, moved_there, moved_same}
use Rattle.tcb_arena.proofs.Lists.{before_here, before_there, IsDistinct-first, without_here, without_there}

-- A walk is as long as its fuel at most.
pub length-walk : (fuel : ℕ) (next : List ℕ) (head at : ℕ) → length (walk fuel next head at) ≤ fuel
unfolding walk
length-walk zero next head at = omega arith
length-walk (suc fuel) next head at =
    ⊎_elim
    (λ (e : at ≡ head). let s : length (walk (suc fuel) next head at) ≡ 0 = rw (eq-eqb at head e) refl in omega arith)
    (λ (ne : at ≡ head → ⊥). let s : length (walk (suc fuel) next head at) ≡ suc (length (walk fuel next head (get_or next at 0))) = rw (ne_eqb at head ne) refl in omega (arith, length-walk fuel next head (get_or next at 0)))
    (cases_eq at head)

-- The links lead through one list alone, and a walk finds it.
pub walk-leads : (names : ℕ) (next : List ℕ) (head : ℕ) → names ≤ head → (fuel : ℕ) (xs : List ℕ) (at : ℕ) → Leads names next head at xs → length xs ≤ fuel → walk fuel next head at ≡ xs
unfolding walk
walk-leads names next head room zero [] at h l = refl
walk-leads names next head room (suc fuel) [] at h l = rw (eq-eqb at head h) refl
walk-leads names next head room zero (x ∷ xs) at h l = absurd (omega arith)
walk-leads names next head room (suc fuel) (x ∷ xs) at h l =
    let lt : x < names = h.1 in
    let ne : at ≢ head = λ e. absurd (omega (arith, h.0, h.1)) in
    let ih : walk fuel next head (get_or next x 0) ≡ xs = walk-leads names next head room fuel xs (get_or next x 0) h.2 (omega arith) in
    let e : at ≡ x = h.0 in
    let here : walk (suc fuel) next head at ≡ at ∷ walk fuel next head (get_or next at 0) = rw (ne_eqb at head ne) refl in
    cc

pub leads-below : (names : ℕ) (next : List ℕ) (head : ℕ) (xs : List ℕ) (at : ℕ) → Leads names next head at xs → (q : ℕ) → is_in q xs ≡ true → q < names
leads-below names next head [] at h q e = absurd (cc)
leads-below names next head (x ∷ xs) at h q e =
    ⊎_elim
    (λ (t : eqb q x ≡ true). let k : q ≡ x = eqb-true q x t in omega (arith, h.1))
    (λ (t : is_in q xs ≡ true). leads-below names next head xs (get_or next x 0) h.2 q t)
    (or_cases (eqb q x) (is_in q xs) e)

-- From a name that is linked to itself no links lead to a head, so none lead to that name.
stuck : (names : ℕ) (next : List ℕ) (head x : ℕ) → x < names → names ≤ head → get_or next x 0 ≡ x → (xs : List ℕ) → Leads names next head x xs → ⊥
stuck names next head x lt room e [] h = omega arith
stuck names next head x lt room e (y ∷ ys) h =
    let P : ℕ → Type 0 = λ k. Leads names next head k ys in
    stuck names next head x lt room e ys (subst P (ap (λ k. get_or next k 0) (sym h.0) ∙ e) h.2)

pub free_is_nowhere : (names : ℕ) (next : List ℕ) (head x : ℕ) → x < names → names ≤ head → get_or next x 0 ≡ x → (xs : List ℕ) (at : ℕ) → Leads names next head at xs → is_in x xs ≡ false
free_is_nowhere names next head x lt room e [] at h = refl
free_is_nowhere names next head x lt room e (y ∷ ys) at h =
    let P : ℕ → Type 0 = λ k. Leads names next head k (y ∷ ys) in
    let ne : x ≢ y = λ k. stuck names next head x lt room e (y ∷ ys) (subst P (h.0 ∙ sym k) h) in
    let there : eqb x y ≡ false = ne_eqb x y ne in
    let rest : is_in x ys ≡ false = free_is_nowhere names next head x lt room e ys (get_or next y 0) h.2 in
    ap (λ b. b || is_in x ys) there ∙ rest

-- A name taken out: what led to it leads to q

pub leads_without : (names : ℕ) (next next' : List ℕ) (head x q : ℕ) → head ≢ x → get_or next x 0 ≡ q
    → ((y : ℕ) → y < names → y ≢ x → get_or next' y 0 ≡ moved x q (get_or next y 0))
    → (xs : List ℕ) (at : ℕ) → Leads names next head at xs → Leads names next' head (moved x q at) (without x xs)
leads_without names next next' head x q ne eq step [] at h = moved_there x q at (λ e. ne (sym h ∙ e)) ∙ h
leads_without names next next' head x q ne eq step (y ∷ ys) at h =
    let ih : Leads names next' head (moved x q (get_or next y 0)) (without x ys) = leads_without names next next' head x q ne eq step ys (get_or next y 0) h.2 in
    let P : ℕ → Type 0 = λ k. Leads names next' head k (without x ys) in
    let Q : List ℕ → Type 0 = λ zs. Leads names next' head (moved x q at) zs in
    ⊎_elim
    (λ (e : x ≡ y).
    let to : moved x q (get_or next y 0) ≡ moved x q at =
    ap (moved x q) (ap (λ k. get_or next k 0) (sym e) ∙ eq) ∙ moved_same x q ∙ sym (moved_here x q at (h.0 ∙ sym e)) in
    subst Q (sym (without_here x y ys e)) (subst P to ih))
    (λ (n : x ≡ y → ⊥).
    let at_y : moved x q at ≡ y = moved_there x q at (λ e. n (sym e ∙ h.0)) ∙ h.0 in
    subst Q (sym (without_there x y ys n)) (at_y, h.1, subst P (sym (step y h.1 (λ e. n (sym e)))) ih))
    (cases_eq x y)

-- A name put at the end: what led to the head's node leads to the name, and the name to the node

pub leads_push : (names : ℕ) (next next' : List ℕ) (head x : ℕ) → names ≤ head → x < names → get_or next' x 0 ≡ head
    → ((y : ℕ) → y < names → y ≢ x → get_or next' y 0 ≡ moved head x (get_or next y 0))
    → (xs : List ℕ) (at : ℕ) → is_in x xs ≡ false → Leads names next head at xs → Leads names next' head (moved head x at) (xs ++ x ∷ [])
leads_push names next next' head x room lt to_head step [] at not_in h = (moved_here head x at h, lt, to_head)
leads_push names next next' head x room lt to_head step (y ∷ ys) at not_in h =
    let not_in' : (eqb x y ≡ false) × (is_in x ys ≡ false) = or_parts (eqb x y) (is_in x ys) not_in in
    let ih : Leads names next' head (moved head x (get_or next y 0)) (ys ++ x ∷ []) = leads_push names next next' head x room lt to_head step ys (get_or next y 0) not_in'.1 h.2 in
    let P : ℕ → Type 0 = λ k. Leads names next' head k (ys ++ x ∷ []) in
    (moved_there head x at (λ e. absurd (omega (arith, h.0, h.1))) ∙ h.0, h.1, subst P (sym (step y h.1 (λ e. eqb-false x y not_in'.0 (sym e)))) ih)

pub leads_kept : (names : ℕ) (next next' : List ℕ) (head other x : ℕ) → names ≤ head → other ≢ head
    → ((y : ℕ) → y < names → y ≢ x → get_or next' y 0 ≡ moved head x (get_or next y 0))
    → (xs : List ℕ) (at : ℕ) → is_in x xs ≡ false → Leads names next other at xs → Leads names next' other (moved head x at) xs
leads_kept names next next' head other x room ne step [] at not_in h = moved_there head x at (λ e. ne (sym h ∙ e)) ∙ h
leads_kept names next next' head other x room ne step (y ∷ ys) at not_in h =
    let not_in' : (eqb x y ≡ false) × (is_in x ys ≡ false) = or_parts (eqb x y) (is_in x ys) not_in in
    let ih : Leads names next' other (moved head x (get_or next y 0)) ys = leads_kept names next next' head other x room ne step ys (get_or next y 0) not_in'.1 h.2 in
    let P : ℕ → Type 0 = λ k. Leads names next' other k ys in
    (moved_there head x at (λ e. absurd (omega (arith, h.0, h.1))) ∙ h.0, h.1, subst P (sym (step y h.1 (λ e. eqb-false x y not_in'.0 (sym e)))) ih)

-- A name put before another one: what led to that one leads to the name, and the name to it

leads_past : (names : ℕ) (next next' : List ℕ) (head o x : ℕ) → names ≤ head → o < names
    → ((y : ℕ) → y < names → y ≢ x → get_or next' y 0 ≡ moved o x (get_or next y 0))
    → (xs : List ℕ) (at : ℕ) → is_in x xs ≡ false → is_in o xs ≡ false → Leads names next head at xs → Leads names next' head (moved o x at) xs
leads_past names next next' head o x room lo step [] at not_in past h = moved_there o x at (λ e. absurd (omega (arith, h, e))) ∙ h
leads_past names next next' head o x room lo step (y ∷ ys) at not_in past h =
    let not_in' : (eqb x y ≡ false) × (is_in x ys ≡ false) = or_parts (eqb x y) (is_in x ys) not_in in
    let past' : (eqb o y ≡ false) × (is_in o ys ≡ false) = or_parts (eqb o y) (is_in o ys) past in
    let ih : Leads names next' head (moved o x (get_or next y 0)) ys = leads_past names next next' head o x room lo step ys (get_or next y 0) not_in'.1 past'.1 h.2 in
    let P : ℕ → Type 0 = λ k. Leads names next' head k ys in
    (moved_there o x at (λ e. eqb-false o y past'.0 (sym e ∙ h.0)) ∙ h.0, h.1, subst P (sym (step y h.1 (λ e. eqb-false x y not_in'.0 (sym e)))) ih)

pub leads_before : (names : ℕ) (next next' : List ℕ) (head o x : ℕ) → names ≤ head → o < names → x < names → get_or next' x 0 ≡ o
    → ((y : ℕ) → y < names → y ≢ x → get_or next' y 0 ≡ moved o x (get_or next y 0))
    → (xs : List ℕ) (at : ℕ) → is_in x xs ≡ false → IsDistinct (λ a b. eqb a b) xs → Leads names next head at xs → Leads names next' head (moved o x at) (with_before o x xs)
leads_before names next next' head o x room lo lx to_o step [] at not_in apart h = moved_there o x at (λ e. absurd (omega (arith, h, e))) ∙ h
leads_before names next next' head o x room lo lx to_o step (y ∷ ys) at not_in apart h =
    let not_in' : (eqb x y ≡ false) × (is_in x ys ≡ false) = or_parts (eqb x y) (is_in x ys) not_in in
    let apart' = IsDistinct-first y ys apart in
    let nx : y ≢ x = λ e. eqb-false x y not_in'.0 (sym e) in
    let Q : List ℕ → Type 0 = λ zs. Leads names next' head (moved o x at) zs in
    ⊎_elim
    (λ (e : o ≡ y).
    let P : ℕ → Type 0 = λ k. Leads names next' head k ys in
    let behind : Leads names next' head (moved o x (get_or next y 0)) ys =
    leads_past names next next' head o x room lo step ys (get_or next y 0) not_in'.1 (ap (λ z. is_in z ys) e ∙ apart'.0) h.2 in
    subst Q (sym (before_here o x y ys e)) (moved_here o x at (h.0 ∙ sym e), lx, (to_o ∙ e, h.1, subst P (sym (step y h.1 nx)) behind)))
    (λ (n : o ≡ y → ⊥).
    let P : ℕ → Type 0 = λ k. Leads names next' head k (with_before o x ys) in
    let ih : Leads names next' head (moved o x (get_or next y 0)) (with_before o x ys) =
    leads_before names next next' head o x room lo lx to_o step ys (get_or next y 0) not_in'.1 apart'.1 h.2 in
    subst Q (sym (before_there o x y ys n)) (moved_there o x at (λ e. n (sym e ∙ h.0)) ∙ h.0, h.1, subst P (sym (step y h.1 nx)) ih))
    (cases_eq o y)

-- What is read at a head and behind a name

pub first-leads : (names : ℕ) (next : List ℕ) (head at : ℕ) (xs : List ℕ) → names ≤ head → Leads names next head at xs → slice_get xs 0 ≡ cond (ltb at names) (Some at) None
first-leads names next head at [] room h = sym (cond-false (ltb at names) (Some at) None (le-ltb at names (omega (arith, h))))
first-leads names next head at (x ∷ xs) room h =
    ap (λ k. Some k) (sym h.0) ∙ sym (cond-true (ltb at names) (Some at) None (lt-ltb at names (omega (arith, h.0, h.1))))

pub after-leads : (names : ℕ) (next : List ℕ) (head at : ℕ) (xs : List ℕ) (k x : ℕ) → names ≤ head → Leads names next head at xs → slice_get xs k ≡ Some x
    → slice_get xs (suc k) ≡ cond (ltb (get_or next x 0) names) (Some (get_or next x 0)) None
after-leads names next head at [] k x room h e = absurd (cc)
after-leads names next head at (y ∷ ys) zero x room h e =
    let same : y ≡ x = cc in
    first-leads names next head (get_or next y 0) ys room h.2 ∙ ap (λ (z : ℕ). cond (ltb (get_or next z 0) names) (Some (get_or next z 0)) None) same
after-leads names next head at (y ∷ ys) (suc k) x room h e = after-leads names next head (get_or next y 0) ys k x room h.2 e

-- One place leads to one head, by one list

pub leads-one : (names : ℕ) (next : List ℕ) (h i at : ℕ) (xs ys : List ℕ) → names ≤ h → names ≤ i → Leads names next h at xs → Leads names next i at ys → (h ≡ i) × (length xs ≡ length ys)
leads-one names next h i at [] [] rh ri p q = (sym p ∙ q, refl)
leads-one names next h i at [] (y ∷ ys) rh ri p q = absurd (omega (arith, p, q.0, q.1))
leads-one names next h i at (x ∷ xs) [] rh ri p q = absurd (omega (arith, q, p.0, p.1))
leads-one names next h i at (x ∷ xs) (y ∷ ys) rh ri p q =
    let P : ℕ → Type 0 = λ (k : ℕ). Leads names next i (get_or next k 0) ys in
    let same : y ≡ x = sym q.0 ∙ p.0 in
    let ih : (h ≡ i) × (length xs ≡ length ys) = leads-one names next h i (get_or next x 0) xs ys rh ri p.2 (subst P same q.2) in
    (ih.0, ap suc ih.1)

pub leads-at : (names : ℕ) (next : List ℕ) (h at k x : ℕ) (xs : List ℕ) → Leads names next h at xs → slice_get xs k ≡ Some x → Leads names next h x (drop k xs) × (k < length xs) × (x < names)
leads-at names next h at k x [] p e = absurd (cc)
leads-at names next h at zero x (y ∷ ys) p e =
    let same : y ≡ x = cc in
    let P : ℕ → Type 0 = λ (z : ℕ). Leads names next h z (y ∷ ys) in
    (subst P (p.0 ∙ same) p, omega arith, omega (arith, p.1))
leads-at names next h at (suc k) x (y ∷ ys) p e =
    let ih : Leads names next h x (drop k ys) × (k < length ys) × (x < names) = leads-at names next h (get_or next y 0) k x ys p.2 e in
    (ih.0, omega (arith, ih.1), ih.2)
