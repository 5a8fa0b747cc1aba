-- Lists of names, with one taken out or put at the end; and lists made of an index.
use Rattle.std.specs.Prelude.{slice_get, Some, drop}
use Rattle.std.proofs.Common.{◌≡◌, ◌≢◌, ℕ, ◌+◌, ◌<◌, ◌≤◌, true, false, eqb, ◌||◌, List, [], ◌∷◌, ◌++◌, length, map, get_or, set, refl, sym, ◌∙◌, ap, subst, ⊎_elim, arith, zero, suc}
use Rattle.std.proofs.lemmas.Bool.{cases_eq, ne_eqb, eq-eqb, eqb-true, eqb-false, or_left, or_right, or_cases, or_parts}
use Rattle.std.specs.List.{range_with_len, IsDistinct, AllByRecursion}
use Rattle.l4_model.specs.World.{is_in}
use Rattle.tcb_arena.specs.Inner.Rings.{with_before, without, is_in_any}

pub without_here : (x y : ℕ) (ys : List ℕ) → x ≡ y → without x (y ∷ ys) ≡ without x ys
without_here x y ys e = rw (eq-eqb x y e) refl

pub without_there : (x y : ℕ) (ys : List ℕ) → x ≢ y → without x (y ∷ ys) ≡ y ∷ without x ys
without_there x y ys ne = rw (ne_eqb x y ne) refl

pub length-without : (x : ℕ) (ys : List ℕ) → length (without x ys) ≤ length ys
length-without x [] = omega arith
length-without x (y ∷ ys) =
    ⊎_elim
    (λ (e : x ≡ y). omega (arith, length-without x ys, ap length (without_here x y ys e)))
    (λ (ne : x ≡ y → ⊥). omega (arith, length-without x ys, ap length (without_there x y ys ne)))
    (cases_eq x y)

pub is_in-without_self : (x : ℕ) (ys : List ℕ) → is_in x (without x ys) ≡ false
is_in-without_self x [] = refl
is_in-without_self x (y ∷ ys) =
    ⊎_elim
    (λ (e : x ≡ y). ap (is_in x) (without_here x y ys e) ∙ is_in-without_self x ys)
    (λ (ne : x ≡ y → ⊥). ap (is_in x) (without_there x y ys ne) ∙ ap (λ b. b || is_in x (without x ys)) (ne_eqb x y ne) ∙ is_in-without_self x ys)
    (cases_eq x y)

pub get_or-without : (x h : ℕ) (ls : List (List ℕ)) → get_or (map (without x) ls) h [] ≡ without x (get_or ls h [])
get_or-without x h [] = refl
get_or-without x zero (l ∷ ls) = refl
get_or-without x (suc h) (l ∷ ls) = get_or-without x h ls

-- A name other than x stands where it stood.
is_in-without : (x y : ℕ) (ys : List ℕ) → y ≢ x → is_in y (without x ys) ≡ is_in y ys
is_in-without x y [] ne = refl
is_in-without x y (z ∷ zs) ne =
    ⊎_elim
    (λ (e : x ≡ z). ap (is_in y) (without_here x z zs e) ∙ is_in-without x y zs ne ∙ sym (ap (λ b. b || is_in y zs) (ne_eqb y z (λ k. ne (k ∙ sym e)))))
    (λ (n : x ≡ z → ⊥). ap (is_in y) (without_there x z zs n) ∙ ap (λ b. eqb y z || b) (is_in-without x y zs ne))
    (cases_eq x z)

pub is_in_any-without : (x y : ℕ) (ls : List (List ℕ)) → y ≢ x → is_in_any y (map (without x) ls) ≡ is_in_any y ls
is_in_any-without x y [] ne = refl
is_in_any-without x y (l ∷ ls) ne =
    ap (λ b. b || is_in_any y (map (without x) ls)) (is_in-without x y l ne) ∙ ap (λ b. is_in y l || b) (is_in_any-without x y ls ne)

all-without : (P : ℕ → Type 0) (x : ℕ) (ys : List ℕ) → AllByRecursion P ys → AllByRecursion P (without x ys)
all-without P x [] h = h
all-without P x (y ∷ ys) h =
    let Q : List ℕ → Type 0 = AllByRecursion P in
    ⊎_elim
    (λ (e : x ≡ y). subst Q (sym (without_here x y ys e)) (all-without P x ys h.1))
    (λ (n : x ≡ y → ⊥). subst Q (sym (without_there x y ys n)) (h.0, all-without P x ys h.1))
    (cases_eq x y)

pub IsDistinct-nil : IsDistinct (λ a b. eqb a b) []
unfolding IsDistinct
IsDistinct-nil = tt

pub IsDistinct-without : (x : ℕ) (ys : List ℕ) → IsDistinct (λ a b. eqb a b) ys → IsDistinct (λ a b. eqb a b) (without x ys)
unfolding IsDistinct
IsDistinct-without x [] h = h
IsDistinct-without x (y ∷ ys) h =
    let Q : List ℕ → Type 0 = IsDistinct (λ a b. eqb a b) in
    ⊎_elim
    (λ (e : x ≡ y). subst Q (sym (without_here x y ys e)) (IsDistinct-without x ys h.1))
    (λ (n : x ≡ y → ⊥). subst Q (sym (without_there x y ys n)) (all-without (λ z. eqb y z ≡ false) x ys h.0, IsDistinct-without x ys h.1))
    (cases_eq x y)

-- Lists made of an index

pub map-range : {X : Type 0} (f g : ℕ → X) (a n : ℕ) → ((i : ℕ) → a ≤ i → i < a + n → f i ≡ g i) → map f (range_with_len a n) ≡ map g (range_with_len a n)
map-range f g a zero h = refl
map-range f g a (suc n) h =
    let here : f a ≡ g a = h a (omega arith) (omega arith) in
    let rest : map f (range_with_len (a + 1) n) ≡ map g (range_with_len (a + 1) n) = map-range f g (a + 1) n (λ i l k. h i (omega arith) (omega arith)) in
    cc

pub map-range_set : {X : Type 0} (f g : ℕ → X) (w : X) (a n k : ℕ) → k < n → f (a + k) ≡ w → ((i : ℕ) → a ≤ i → i < a + n → i ≢ a + k → f i ≡ g i)
    → map f (range_with_len a n) ≡ set (map g (range_with_len a n)) k w
map-range_set f g w a zero k l e h = absurd (omega arith)
map-range_set f g w a (suc n) zero l e h =
    let here : f a ≡ w = ap f (omega arith) ∙ e in
    let rest : map f (range_with_len (a + 1) n) ≡ map g (range_with_len (a + 1) n) = map-range f g (a + 1) n (λ i l k. h i (omega arith) (omega arith) (omega arith)) in
    cc
map-range_set f g w a (suc n) (suc k) l e h =
    let here : f a ≡ g a = h a (omega arith) (omega arith) (omega arith) in
    let there : f ((a + 1) + k) ≡ w = ap f (omega arith) ∙ e in
    let rest : map f (range_with_len (a + 1) n) ≡ set (map g (range_with_len (a + 1) n)) k w =
    map-range_set f g w (a + 1) n k (omega arith) there (λ i l k ne. h i (omega arith) (omega arith) (omega arith)) in
    cc

pub map-map-range : {X Y : Type 0} (f : X → Y) (g : ℕ → X) (a n : ℕ) → map f (map g (range_with_len a n)) ≡ map (λ i. f (g i)) (range_with_len a n)
map-map-range f g a zero = refl
map-map-range {Y = Y} f g a (suc n) = ap (λ (r : List Y). f (g a) ∷ r) (map-map-range f g (a + 1) n)

-- A name put at the end of one list

pub is_in-push : (x y : ℕ) (ys : List ℕ) → is_in y (ys ++ x ∷ []) ≡ (is_in y ys || eqb y x)
is_in-push x y [] = elim (eqb y x) as (λ b. (b || false) ≡ b) [ true ↦ refl | false ↦ refl ]
is_in-push x y (z ∷ zs) =
    ap (λ b. eqb y z || b) (is_in-push x y zs) ∙ elim (eqb y z) as (λ b. (b || (is_in y zs || eqb y x)) ≡ ((b || is_in y zs) || eqb y x)) [ true ↦ refl | false ↦ refl ]

-- What stood in some list stands in some list after one has grown.
pub is_in_any-grown : (y k : ℕ) (l : List ℕ) (ls : List (List ℕ)) → (is_in y (get_or ls k []) ≡ true → is_in y l ≡ true) → is_in_any y ls ≡ true → is_in_any y (set ls k l) ≡ true
is_in_any-grown y k l [] h e = e
is_in_any-grown y zero l (z ∷ zs) h e =
    ⊎_elim
    (λ (t : is_in y z ≡ true). or_left (is_in y l) (is_in_any y zs) (h t))
    (λ (t : is_in_any y zs ≡ true). or_right (is_in y l) (is_in_any y zs) t)
    (or_cases (is_in y z) (is_in_any y zs) e)
is_in_any-grown y (suc k) l (z ∷ zs) h e =
    ⊎_elim
    (λ (t : is_in y z ≡ true). or_left (is_in y z) (is_in_any y (set zs k l)) t)
    (λ (t : is_in_any y zs ≡ true). or_right (is_in y z) (is_in_any y (set zs k l)) (is_in_any-grown y k l zs h t))
    (or_cases (is_in y z) (is_in_any y zs) e)

-- A name that is in no list, and one that is in the k-th.
pub is_in-at : (y k : ℕ) (ls : List (List ℕ)) → is_in_any y ls ≡ false → is_in y (get_or ls k []) ≡ false
is_in-at y k [] e = refl
is_in-at y zero (z ∷ zs) e = (or_parts (is_in y z) (is_in_any y zs) e).0
is_in-at y (suc k) (z ∷ zs) e = is_in-at y k zs (or_parts (is_in y z) (is_in_any y zs) e).1

pub is_in_any-at : (y k : ℕ) (ls : List (List ℕ)) → is_in y (get_or ls k []) ≡ true → is_in_any y ls ≡ true
is_in_any-at y k [] e = e
is_in_any-at y zero (z ∷ zs) e = or_left (is_in y z) (is_in_any y zs) e
is_in_any-at y (suc k) (z ∷ zs) e = or_right (is_in y z) (is_in_any y zs) (is_in_any-at y k zs e)

-- A name that is in none of the lists made of an index.
pub is_in_any-range : (f : ℕ → List ℕ) (y a n : ℕ) → ((i : ℕ) → a ≤ i → i < a + n → is_in y (f i) ≡ false) → is_in_any y (map f (range_with_len a n)) ≡ false
is_in_any-range f y a zero h = refl
is_in_any-range f y a (suc n) h =
    ap (λ b. b || is_in_any y (map f (range_with_len (a + 1) n))) (h a (omega arith) (omega arith)) ∙ is_in_any-range f y (a + 1) n (λ i l k. h i (omega arith) (omega arith))

-- A name put before another one

pub before_here : (o x y : ℕ) (ys : List ℕ) → o ≡ y → with_before o x (y ∷ ys) ≡ x ∷ y ∷ ys
before_here o x y ys e = rw (eq-eqb o y e) refl

pub before_there : (o x y : ℕ) (ys : List ℕ) → o ≢ y → with_before o x (y ∷ ys) ≡ y ∷ with_before o x ys
before_there o x y ys ne = rw (ne_eqb o y ne) refl

pub is_in-before : (o x y : ℕ) (ys : List ℕ) → is_in y ys ≡ true → is_in y (with_before o x ys) ≡ true
is_in-before o x y [] e = e
is_in-before o x y (z ∷ zs) e =
    ⊎_elim
    (λ (same : o ≡ z). ap (is_in y) (before_here o x z zs same) ∙ or_right (eqb y x) (is_in y (z ∷ zs)) e)
    (λ (ne : o ≡ z → ⊥).
    ap (is_in y) (before_there o x z zs ne)
    ∙ ⊎_elim
    (λ (t : eqb y z ≡ true). or_left (eqb y z) (is_in y (with_before o x zs)) t)
    (λ (t : is_in y zs ≡ true). or_right (eqb y z) (is_in y (with_before o x zs)) (is_in-before o x y zs t))
    (or_cases (eqb y z) (is_in y zs) e))
    (cases_eq o z)

is_in-put_before : (o x : ℕ) (ys : List ℕ) → is_in o ys ≡ true → is_in x (with_before o x ys) ≡ true
is_in-put_before o x [] e = e
is_in-put_before o x (z ∷ zs) e =
    ⊎_elim
    (λ (same : o ≡ z). ap (is_in x) (before_here o x z zs same) ∙ or_left (eqb x x) (is_in x (z ∷ zs)) (eq-eqb x x refl))
    (λ (ne : o ≡ z → ⊥).
    ap (is_in x) (before_there o x z zs ne)
    ∙ or_right (eqb x z) (is_in x (with_before o x zs))
    (is_in-put_before o x zs
    (⊎_elim
    (λ (t : eqb o z ≡ true). absurd (ne (eqb-true o z t)))
    (λ (t : is_in o zs ≡ true). t)
    (or_cases (eqb o z) (is_in o zs) e))))
    (cases_eq o z)

pub is_in_any-before : (o x y : ℕ) (ls : List (List ℕ)) → is_in_any y ls ≡ true → is_in_any y (map (with_before o x) ls) ≡ true
is_in_any-before o x y [] e = e
is_in_any-before o x y (l ∷ ls) e =
    ⊎_elim
    (λ (t : is_in y l ≡ true). or_left (is_in y (with_before o x l)) (is_in_any y (map (with_before o x) ls)) (is_in-before o x y l t))
    (λ (t : is_in_any y ls ≡ true). or_right (is_in y (with_before o x l)) (is_in_any y (map (with_before o x) ls)) (is_in_any-before o x y ls t))
    (or_cases (is_in y l) (is_in_any y ls) e)

pub is_in_any-put_before : (o x : ℕ) (ls : List (List ℕ)) → is_in_any o ls ≡ true → is_in_any x (map (with_before o x) ls) ≡ true
is_in_any-put_before o x [] e = e
is_in_any-put_before o x (l ∷ ls) e =
    ⊎_elim
    (λ (t : is_in o l ≡ true). or_left (is_in x (with_before o x l)) (is_in_any x (map (with_before o x) ls)) (is_in-put_before o x l t))
    (λ (t : is_in_any o ls ≡ true). or_right (is_in x (with_before o x l)) (is_in_any x (map (with_before o x) ls)) (is_in_any-put_before o x ls t))
    (or_cases (is_in o l) (is_in_any o ls) e)

pub get_or-before : (o x h : ℕ) (ls : List (List ℕ)) → get_or (map (with_before o x) ls) h [] ≡ with_before o x (get_or ls h [])
get_or-before o x h [] = refl
get_or-before o x zero (l ∷ ls) = refl
get_or-before o x (suc h) (l ∷ ls) = get_or-before o x h ls

all-not_in : (x : ℕ) (ys : List ℕ) → is_in x ys ≡ false → AllByRecursion (λ z. eqb x z ≡ false) ys
all-not_in x [] h = tt
all-not_in x (y ∷ ys) h = let p = or_parts (eqb x y) (is_in x ys) h in (p.0, all-not_in x ys p.1)

not_in-all : (x : ℕ) (ys : List ℕ) → AllByRecursion (λ z. eqb x z ≡ false) ys → is_in x ys ≡ false
not_in-all x [] h = refl
not_in-all x (y ∷ ys) h = ap (λ b. b || is_in x ys) h.0 ∙ not_in-all x ys h.1

all-before : (P : ℕ → Type 0) (o x : ℕ) (ys : List ℕ) → P x → AllByRecursion P ys → AllByRecursion P (with_before o x ys)
all-before P o x [] px h = h
all-before P o x (y ∷ ys) px h =
    let Q : List ℕ → Type 0 = AllByRecursion P in
    ⊎_elim
    (λ (e : o ≡ y). subst Q (sym (before_here o x y ys e)) (px, h))
    (λ (n : o ≡ y → ⊥). subst Q (sym (before_there o x y ys n)) (h.0, all-before P o x ys px h.1))
    (cases_eq o y)

pub IsDistinct-before : (o x : ℕ) (ys : List ℕ) → is_in x ys ≡ false → IsDistinct (λ a b. eqb a b) ys → IsDistinct (λ a b. eqb a b) (with_before o x ys)
unfolding IsDistinct
IsDistinct-before o x [] not_in h = h
IsDistinct-before o x (y ∷ ys) not_in h =
    let Q : List ℕ → Type 0 = IsDistinct (λ a b. eqb a b) in
    let p = or_parts (eqb x y) (is_in x ys) not_in in
    ⊎_elim
    (λ (e : o ≡ y). subst Q (sym (before_here o x y ys e)) (all-not_in x (y ∷ ys) not_in, h))
    (λ (n : o ≡ y → ⊥).
    subst Q (sym (before_there o x y ys n))
    (all-before (λ z. eqb y z ≡ false) o x ys (ne_eqb y x (λ e. eqb-false x y p.0 (sym e))) h.0, IsDistinct-before o x ys p.1 h.1))
    (cases_eq o y)

-- The first of distinct names is none of the others.
pub IsDistinct-first : (y : ℕ) (ys : List ℕ) → IsDistinct (λ a b. eqb a b) (y ∷ ys) → (is_in y ys ≡ false) × IsDistinct (λ a b. eqb a b) ys
unfolding IsDistinct
IsDistinct-first y ys h = (not_in-all y ys h.0, h.1)

-- A name that stands in one place alone

-- A list without a name that it has not.
pub without_absent : (x : ℕ) (ys : List ℕ) → ((j : ℕ) → slice_get ys j ≡ Some x → ⊥) → without x ys ≡ ys
without_absent x [] h = refl
without_absent x (y ∷ ys) h =
    without_there x y ys (λ e. h 0 (ap Some (sym e))) ∙ ap (λ (r : List ℕ). y ∷ r) (without_absent x ys (λ j e. h (suc j) e))

pub without_all_absent : (x : ℕ) (ls : List (List ℕ)) → ((h j : ℕ) → slice_get (get_or ls h []) j ≡ Some x → ⊥) → map (without x) ls ≡ ls
without_all_absent x [] h = refl
without_all_absent x (l ∷ ls) h =
    ap (λ (r : List (List ℕ)). without x l ∷ r) (without_all_absent x ls (λ i j t. h (suc i) j t)) ∙ ap (λ (r : List ℕ). r ∷ ls) (without_absent x l (λ j t. h 0 j t))

-- The first of one list taken out of all.
pub without_the_first : (x : ℕ) (k : ℕ) (ls : List (List ℕ)) → slice_get (get_or ls k []) 0 ≡ Some x
    → ((h j : ℕ) → slice_get (get_or ls h []) j ≡ Some x → (h ≡ k) × (j ≡ 0)) → map (without x) ls ≡ set ls k (drop 1 (get_or ls k []))
without_the_first x k [] e h = refl
without_the_first x zero ([] ∷ ls) e h = absurd (cc)
without_the_first x zero ((y ∷ ys) ∷ ls) e h =
    let same : x ≡ y = cc in
    let here : without x (y ∷ ys) ≡ ys = without_here x y ys same ∙ without_absent x ys (λ j t. let w : suc j ≡ 0 = (h 0 (suc j) t).1 in absurd (omega arith)) in
    let rest : map (without x) ls ≡ ls = without_all_absent x ls (λ i j t. let w : suc i ≡ 0 = (h (suc i) j t).0 in absurd (omega arith)) in
    ap (λ (r : List (List ℕ)). without x (y ∷ ys) ∷ r) rest ∙ ap (λ (r : List ℕ). r ∷ ls) here
without_the_first x (suc k) (l ∷ ls) e h =
    let here : without x l ≡ l = without_absent x l (λ j t. let w : 0 ≡ suc k = (h 0 j t).0 in absurd (omega arith)) in
    let rest : map (without x) ls ≡ set ls k (drop 1 (get_or ls k [])) = without_the_first x k ls e (λ i j t. let w : suc i ≡ suc k = (h (suc i) j t).0 in (omega arith, (h (suc i) j t).1)) in
    ap (λ (r : List (List ℕ)). without x l ∷ r) rest ∙ ap (λ (r : List ℕ). r ∷ set ls k (drop 1 (get_or ls k []))) here
