-- Entries by rising deadline, made of the rings that the blocks stand in, whatever the number of rings.
use Rattle.std.specs.Prelude.{slice_get, Some, None}
use Rattle.std.proofs.Common.{◌≡◌, ◌≢◌, ℕ, ◌<◌, ◌≤◌, ◌%◌, Bool, true, false, not, cond, eqb, leb, ◌||◌, ◌⊎◌, inl, inr, List, [], ◌∷◌, ◌++◌, length, map, get_or, set, refl, sym, ◌∙◌, ap, subst, ⊎_elim, arith, zero, suc, get_or-set_same, get_or-set_other}
use Rattle.std.proofs.lemmas.Bool.{cases_eq, ne_eqb, eq-eqb, eqb-false, cond-true, cond-false, cases_lt, le-leb, lt-leb, or_parts, or_left, or_right, false≢true}
use Rattle.std.proofs.lemmas.List.{map-set, map_push, length-map}
use Rattle.std.specs.List.{list_any}
use Rattle.l4_core_model.specs.Plain.{put_entry, without_block}
use Rattle.l4_model.specs.World.{is_in}
use Rattle.tcb_arena.specs.Inner.Rings.{without, is_in_any}
use Rattle.tcb_arena.specs.Inner.Due.{put_all, put_rings, entry}
use Rattle.tcb_arena.proofs.Lists.{is_in-at, get_or-without, without_here as name_here, without_there as name_there}

abbrev pub E : Type 0
E = ℕ × ℕ

pub put_le : (e x : E) (xs : List E) → x.0 ≤ e.0 → put_entry e (x ∷ xs) ≡ x ∷ put_entry e xs
put_le e x xs l = cond-true (leb x.0 e.0) (x ∷ put_entry e xs) (e ∷ x ∷ xs) (le-leb x.0 e.0 l)

pub put_lt : (e x : E) (xs : List E) → e.0 < x.0 → put_entry e (x ∷ xs) ≡ e ∷ x ∷ xs
put_lt e x xs l = cond-false (leb x.0 e.0) (x ∷ put_entry e xs) (e ∷ x ∷ xs) (lt-leb x.0 e.0 l)

-- Two of different deadlines may be armed in either order.
put_comm_lt : (b c : E) (xs : List E) → b.0 < c.0 → put_entry c (put_entry b xs) ≡ put_entry b (put_entry c xs)
put_comm_lt b c [] l = put_le c b [] (omega arith) ∙ sym (put_lt b c [] l)
put_comm_lt b c (x ∷ xs) l =
    ⊎_elim
    (λ (p : b.0 < x.0).
    ⊎_elim
    (λ (q : c.0 < x.0).
    ap (put_entry c) (put_lt b x xs p) ∙ put_le c b (x ∷ xs) (omega arith) ∙ ap (λ (r : List E). b ∷ r) (put_lt c x xs q)
    ∙ sym (ap (put_entry b) (put_lt c x xs q) ∙ put_lt b c (x ∷ xs) l))
    (λ (q : x.0 ≤ c.0).
    ap (put_entry c) (put_lt b x xs p) ∙ put_le c b (x ∷ xs) (omega arith) ∙ ap (λ (r : List E). b ∷ r) (put_le c x xs q)
    ∙ sym (ap (put_entry b) (put_le c x xs q) ∙ put_lt b x (put_entry c xs) p))
    (cases_lt c.0 x.0))
    (λ (p : x.0 ≤ b.0).
    let q : x.0 ≤ c.0 = omega arith in
    ap (put_entry c) (put_le b x xs p) ∙ put_le c x (put_entry b xs) q ∙ ap (λ (r : List E). x ∷ r) (put_comm_lt b c xs l)
    ∙ sym (ap (put_entry b) (put_le c x xs q) ∙ put_le b x (put_entry c xs) p))
    (cases_lt b.0 x.0)

pub put_comm : (b c : E) (xs : List E) → b.0 ≢ c.0 → put_entry c (put_entry b xs) ≡ put_entry b (put_entry c xs)
put_comm b c xs ne =
    ⊎_elim
    (λ (l : b.0 < c.0). put_comm_lt b c xs l)
    (λ (l : c.0 ≤ b.0). sym (put_comm_lt c b xs (omega (arith, ne))))
    (cases_lt b.0 c.0)

-- One is armed before these, or after them.
pub put_all_comm : (b : E) (es acc : List E) → ((k : ℕ) (x : E) → slice_get es k ≡ Some x → b.0 ≢ x.0) → put_all (put_entry b acc) es ≡ put_entry b (put_all acc es)
put_all_comm b [] acc h = refl
put_all_comm b (x ∷ xs) acc h =
    ap (λ a. put_all a xs) (put_comm b x acc (h 0 x refl)) ∙ put_all_comm b xs (put_entry x acc) (λ k y e. h (suc k) y e)

pub put_rings_comm : (b : E) (ls : List (List E)) (acc : List E) → ((h k : ℕ) (x : E) → slice_get (get_or ls h []) k ≡ Some x → b.0 ≢ x.0) → put_rings (put_entry b acc) ls ≡ put_entry b (put_rings acc ls)
put_rings_comm b [] acc h = refl
put_rings_comm b (l ∷ ls) acc h =
    ap (λ a. put_rings a ls) (put_all_comm b l acc (λ k x e. h 0 k x e)) ∙ put_rings_comm b ls (put_all acc l) (λ i k x e. h (suc i) k x e)

put_all_push : (b : E) (es acc : List E) → put_all acc (es ++ b ∷ []) ≡ put_entry b (put_all acc es)
put_all_push b [] acc = refl
put_all_push b (x ∷ xs) acc = put_all_push b xs (put_entry x acc)

-- Armed at the end of one ring, where the later rings have other deadlines.
pub put_rings_push : (b : E) (r : ℕ) (ls : List (List E)) (acc : List E) → r < length ls → ((h k : ℕ) (x : E) → r < h → slice_get (get_or ls h []) k ≡ Some x → b.0 ≢ x.0)
    → put_rings acc (set ls r (get_or ls r [] ++ b ∷ [])) ≡ put_entry b (put_rings acc ls)
put_rings_push b r [] acc lt h = absurd (omega arith)
put_rings_push b zero (l ∷ ls) acc lt h =
    ap (λ a. put_rings a ls) (put_all_push b l acc) ∙ put_rings_comm b ls (put_all acc l) (λ i k x e. h (suc i) k x (omega arith) e)
put_rings_push b (suc r) (l ∷ ls) acc lt h = put_rings_push b r ls (put_all acc l) (omega arith) (λ i k x p e. h (suc i) k x (omega arith) e)

-- A block taken out of a list that rises

abbrev pub Rises : ℕ → List E → Type 0
Rises low [] = Unit {0}
Rises low (x ∷ xs) = (low ≤ x.0) × Rises x.0 xs

rises-lower : (low n : ℕ) (xs : List E) → n ≤ low → Rises low xs → Rises n xs
rises-lower low n [] l h = h
rises-lower low n (x ∷ xs) l h = (omega (arith, h.0), h.1)

pub rises-put : (low : ℕ) (e : E) (xs : List E) → low ≤ e.0 → Rises low xs → Rises low (put_entry e xs)
rises-put low e [] l h = (l, tt)
rises-put low e (x ∷ xs) l h =
    let P : List E → Type 0 = λ (ys : List E). Rises low ys in
    ⊎_elim
    (λ (p : e.0 < x.0). subst P (sym (put_lt e x xs p)) (l, (omega arith, h.1)))
    (λ (p : x.0 ≤ e.0). subst P (sym (put_le e x xs p)) (h.0, rises-put x.0 e xs p h.1))
    (cases_lt e.0 x.0)

-- One earlier than all stands first.
put_first : (e : E) (low : ℕ) (xs : List E) → e.0 < low → Rises low xs → put_entry e xs ≡ e ∷ xs
put_first e low [] l h = refl
put_first e low (x ∷ xs) l h = put_lt e x xs (omega (arith, h.0))

rises-without : (low b : ℕ) (xs : List E) → Rises low xs → Rises low (without_block b xs)
rises-without low b [] h = h
rises-without low b (x ∷ xs) h =
    let P : Bool → Type 0 = λ (t : Bool). Rises low (cond (not t) (x ∷ without_block b xs) (without_block b xs)) in
    elim (eqb b x.1) as P [ true ↦ rises-lower x.0 low (without_block b xs) h.0 (rises-without x.0 b xs h.1) | false ↦ (h.0, rises-without x.0 b xs h.1) ]

pub without_here : (b : ℕ) (x : E) (xs : List E) → b ≡ x.1 → without_block b (x ∷ xs) ≡ without_block b xs
without_here b x xs e = rw (eq-eqb b x.1 e) refl

pub without_there : (b : ℕ) (x : E) (xs : List E) → b ≢ x.1 → without_block b (x ∷ xs) ≡ x ∷ without_block b xs
without_there b x xs ne = rw (ne_eqb b x.1 ne) refl

without_put_same : (b : ℕ) (e : E) (xs : List E) → b ≡ e.1 → without_block b (put_entry e xs) ≡ without_block b xs
without_put_same b e [] s = without_here b e [] s
without_put_same b e (x ∷ xs) s =
    ⊎_elim
    (λ (p : e.0 < x.0). ap (without_block b) (put_lt e x xs p) ∙ without_here b e (x ∷ xs) s)
    (λ (p : x.0 ≤ e.0).
    ap (without_block b) (put_le e x xs p)
    ∙ elim (eqb b x.1) as (λ (t : Bool). cond (not t) (x ∷ without_block b (put_entry e xs)) (without_block b (put_entry e xs)) ≡ cond (not t) (x ∷ without_block b xs) (without_block b xs))
    [ true ↦ without_put_same b e xs s | false ↦ ap (λ (r : List E). x ∷ r) (without_put_same b e xs s) ])
    (cases_lt e.0 x.0)

without_put_other : (b low : ℕ) (e : E) (xs : List E) → Rises low xs → b ≢ e.1 → without_block b (put_entry e xs) ≡ put_entry e (without_block b xs)
without_put_other b low e [] h ne = without_there b e [] ne
without_put_other b low e (x ∷ xs) h ne =
    ⊎_elim
    (λ (p : e.0 < x.0).
    ap (without_block b) (put_lt e x xs p) ∙ without_there b e (x ∷ xs) ne
    ∙ sym (put_first e x.0 (without_block b (x ∷ xs)) p (rises-without x.0 b (x ∷ xs) (omega arith, h.1))))
    (λ (p : x.0 ≤ e.0).
    ap (without_block b) (put_le e x xs p)
    ∙ ⊎_elim
    (λ (s : b ≡ x.1). without_here b x (put_entry e xs) s ∙ without_put_other b x.0 e xs h.1 ne ∙ ap (put_entry e) (sym (without_here b x xs s)))
    (λ (n : b ≡ x.1 → ⊥). without_there b x (put_entry e xs) n ∙ ap (λ (r : List E). x ∷ r) (without_put_other b x.0 e xs h.1 ne)
    ∙ sym (ap (put_entry e) (without_there b x xs n) ∙ put_le e x (without_block b xs) p))
    (cases_eq b x.1))
    (cases_lt e.0 x.0)

pub rises-put_all : (es acc : List E) → Rises 0 acc → Rises 0 (put_all acc es)
rises-put_all [] acc h = h
rises-put_all (e ∷ es) acc h = rises-put_all es (put_entry e acc) (rises-put 0 e acc (omega arith) h)

pub rises-put_rings : (ls : List (List E)) (acc : List E) → Rises 0 acc → Rises 0 (put_rings acc ls)
rises-put_rings [] acc h = h
rises-put_rings (l ∷ ls) acc h = rises-put_rings ls (put_all acc l) (rises-put_all l acc h)

without_put_all : (b : ℕ) (es acc : List E) → Rises 0 acc → put_all (without_block b acc) (without_block b es) ≡ without_block b (put_all acc es)
without_put_all b [] acc h = refl
without_put_all b (e ∷ es) acc h =
    let ih : put_all (without_block b (put_entry e acc)) (without_block b es) ≡ without_block b (put_all (put_entry e acc) es) = without_put_all b es (put_entry e acc) (rises-put 0 e acc (omega arith) h) in
    ⊎_elim
    (λ (s : b ≡ e.1). ap (put_all (without_block b acc)) (without_here b e es s) ∙ ap (λ (a : List E). put_all a (without_block b es)) (sym (without_put_same b e acc s)) ∙ ih)
    (λ (n : b ≡ e.1 → ⊥). ap (put_all (without_block b acc)) (without_there b e es n) ∙ ap (λ (a : List E). put_all a (without_block b es)) (sym (without_put_other b 0 e acc h n)) ∙ ih)
    (cases_eq b e.1)

pub without_put_rings : (b : ℕ) (ls : List (List E)) (acc : List E) → Rises 0 acc → put_rings (without_block b acc) (map (without_block b) ls) ≡ without_block b (put_rings acc ls)
without_put_rings b [] acc h = refl
without_put_rings b (l ∷ ls) acc h =
    ap (λ (a : List E). put_rings a (map (without_block b) ls)) (without_put_all b l acc h) ∙ without_put_rings b ls (put_all acc l) (rises-put_all l acc h)

-- Whether a block is armed

any-put : (b : ℕ) (e : E) (xs : List E) → list_any (λ (x : E). eqb b x.1) (put_entry e xs) ≡ (eqb b e.1 || list_any (λ (x : E). eqb b x.1) xs)
any-put b e [] = refl
any-put b e (x ∷ xs) =
    ⊎_elim
    (λ (p : e.0 < x.0). ap (list_any (λ (y : E). eqb b y.1)) (put_lt e x xs p))
    (λ (p : x.0 ≤ e.0).
    ap (list_any (λ (y : E). eqb b y.1)) (put_le e x xs p) ∙ ap (λ t. eqb b x.1 || t) (any-put b e xs)
    ∙ elim (eqb b x.1) as (λ (t : Bool). (t || (eqb b e.1 || list_any (λ (y : E). eqb b y.1) xs)) ≡ (eqb b e.1 || (t || list_any (λ (y : E). eqb b y.1) xs)))
    [ true ↦ elim (eqb b e.1) as (λ (u : Bool). true ≡ (u || true)) [ true ↦ refl | false ↦ refl ] | false ↦ refl ])
    (cases_lt e.0 x.0)

any-put_all : (b : ℕ) (es acc : List E) → list_any (λ (x : E). eqb b x.1) (put_all acc es) ≡ (list_any (λ (x : E). eqb b x.1) acc || list_any (λ (x : E). eqb b x.1) es)
any-put_all b [] acc = elim (list_any (λ (x : E). eqb b x.1) acc) as (λ (t : Bool). t ≡ (t || false)) [ true ↦ refl | false ↦ refl ]
any-put_all b (e ∷ es) acc =
    any-put_all b es (put_entry e acc) ∙ ap (λ t. t || list_any (λ (x : E). eqb b x.1) es) (any-put b e acc)
    ∙ elim (eqb b e.1) as (λ (t : Bool). ((t || list_any (λ (x : E). eqb b x.1) acc) || list_any (λ (x : E). eqb b x.1) es) ≡ (list_any (λ (x : E). eqb b x.1) acc || (t || list_any (λ (x : E). eqb b x.1) es)))
    [ true ↦ elim (list_any (λ (x : E). eqb b x.1) acc) as (λ (u : Bool). true ≡ (u || true)) [ true ↦ refl | false ↦ refl ] | false ↦ refl ]

pub any-entries : (ds : List ℕ) (b : ℕ) (ys : List ℕ) → list_any (λ (x : E). eqb b x.1) (map (entry ds) ys) ≡ is_in b ys
any-entries ds b [] = refl
any-entries ds b (y ∷ ys) = ap (λ t. eqb b y || t) (any-entries ds b ys)

pub any-put_rings : (ds : List ℕ) (b : ℕ) (ls : List (List ℕ)) (acc : List E) → list_any (λ (x : E). eqb b x.1) (put_rings acc (map (map (entry ds)) ls)) ≡ (list_any (λ (x : E). eqb b x.1) acc || is_in_any b ls)
any-put_rings ds b [] acc = elim (list_any (λ (x : E). eqb b x.1) acc) as (λ (t : Bool). t ≡ (t || false)) [ true ↦ refl | false ↦ refl ]
any-put_rings ds b (l ∷ ls) acc =
    any-put_rings ds b ls (put_all acc (map (entry ds) l)) ∙ ap (λ t. t || is_in_any b ls) (any-put_all b (map (entry ds) l) acc ∙ ap (λ t. list_any (λ (x : E). eqb b x.1) acc || t) (any-entries ds b l))
    ∙ elim (list_any (λ (x : E). eqb b x.1) acc) as (λ (t : Bool). ((t || is_in b l) || is_in_any b ls) ≡ (t || (is_in b l || is_in_any b ls))) [ true ↦ refl | false ↦ refl ]

-- Entries of names

pub entries-without : (ds : List ℕ) (b : ℕ) (ys : List ℕ) → map (entry ds) (without b ys) ≡ without_block b (map (entry ds) ys)
entries-without ds b [] = refl
entries-without ds b (y ∷ ys) =
    elim (eqb b y) as (λ (t : Bool). map (entry ds) (cond (not t) (y ∷ without b ys) (without b ys)) ≡ cond (not t) (entry ds y ∷ without_block b (map (entry ds) ys)) (without_block b (map (entry ds) ys)))
    [ true ↦ entries-without ds b ys | false ↦ ap (λ (r : List E). entry ds y ∷ r) (entries-without ds b ys) ]

pub all_entries-without : (ds : List ℕ) (b : ℕ) (ls : List (List ℕ)) → map (map (entry ds)) (map (without b) ls) ≡ map (without_block b) (map (map (entry ds)) ls)
all_entries-without ds b [] = refl
all_entries-without ds b (l ∷ ls) =
    ap (λ (r : List (List E)). map (entry ds) (without b l) ∷ r) (all_entries-without ds b ls) ∙ ap (λ (r : List E). r ∷ map (without_block b) (map (map (entry ds)) ls)) (entries-without ds b l)

pub armed-without : (ds : List ℕ) (b : ℕ) (ls : List (List ℕ)) → put_rings [] (map (map (entry ds)) (map (without b) ls)) ≡ without_block b (put_rings [] (map (map (entry ds)) ls))
armed-without ds b ls = ap (put_rings []) (all_entries-without ds b ls) ∙ without_put_rings b (map (map (entry ds)) ls) [] tt

pub entries-absent : (ds : List ℕ) (b d : ℕ) (ys : List ℕ) → is_in b ys ≡ false → map (entry (set ds b d)) ys ≡ map (entry ds) ys
entries-absent ds b d [] h = refl
entries-absent ds b d (y ∷ ys) h =
    let parts : (eqb b y ≡ false) × (is_in b ys ≡ false) = or_parts (eqb b y) (is_in b ys) h in
    let same : get_or (set ds b d) y 0 ≡ get_or ds y 0 = get_or-set_other ds b y d 0 (λ k. eqb-false b y parts.0 (sym k)) in
    ap (λ (n : ℕ). let e : E = (n, y) in e ∷ map (entry (set ds b d)) ys) same ∙ ap (λ (r : List E). entry ds y ∷ r) (entries-absent ds b d ys parts.1)

all_entries-absent : (ds : List ℕ) (b d : ℕ) (ls : List (List ℕ)) → is_in_any b ls ≡ false → map (map (entry (set ds b d))) ls ≡ map (map (entry ds)) ls
all_entries-absent ds b d [] h = refl
all_entries-absent ds b d (l ∷ ls) h =
    let parts : (is_in b l ≡ false) × (is_in_any b ls ≡ false) = or_parts (is_in b l) (is_in_any b ls) h in
    ap (λ (r : List E). r ∷ map (map (entry (set ds b d))) ls) (entries-absent ds b d l parts.0) ∙ ap (λ (r : List (List E)). map (entry ds) l ∷ r) (all_entries-absent ds b d ls parts.1)

pub entries-at : (ds : List ℕ) (ls : List (List ℕ)) (h : ℕ) → get_or (map (map (entry ds)) ls) h [] ≡ map (entry ds) (get_or ls h [])
entries-at ds [] h = refl
entries-at ds (l ∷ ls) zero = refl
entries-at ds (l ∷ ls) (suc h) = entries-at ds ls h

pub entry-from : (ds ys : List ℕ) (k : ℕ) (e : E) → slice_get (map (entry ds) ys) k ≡ Some e → (slice_get ys k ≡ Some e.1) × (get_or ds e.1 0 ≡ e.0)
entry-from ds [] k e h = absurd (cc)
entry-from ds (y ∷ ys) zero e h = let p : entry ds y ≡ e = cc in (ap (λ (z : E). Some z.1) p, ap (λ (z : E). get_or ds z.1 0) (sym p) ∙ ap (λ (z : E). z.0) p)
entry-from ds (y ∷ ys) (suc k) e h = entry-from ds ys k e h

pub entry-at : (ds ys : List ℕ) (k b : ℕ) → slice_get ys k ≡ Some b → slice_get (map (entry ds) ys) k ≡ Some (entry ds b)
entry-at ds [] k b h = absurd (cc)
entry-at ds (y ∷ ys) zero b h = let same : y ≡ b = cc in ap (λ n. Some (entry ds n)) same
entry-at ds (y ∷ ys) (suc k) b h = entry-at ds ys k b h

pub entry-none : (ds ys : List ℕ) (k : ℕ) → slice_get ys k ≡ None → slice_get (map (entry ds) ys) k ≡ None
entry-none ds [] k h = refl
entry-none ds (y ∷ ys) zero h = absurd (cc)
entry-none ds (y ∷ ys) (suc k) h = entry-none ds ys k h

-- A block armed at the end of a ring.
pub entries-put : (ds : List ℕ) (b d r : ℕ) (ls : List (List ℕ)) → b < length ds → is_in_any b ls ≡ false
    → map (map (entry (set ds b d))) (set ls r (get_or ls r [] ++ b ∷ [])) ≡ set (map (map (entry ds)) ls) r (get_or (map (map (entry ds)) ls) r [] ++ (d, b) ∷ [])
entries-put ds b d r ls lb free =
    let g : ℕ → E = entry (set ds b d) in
    let es : List (List E) = map (map (entry ds)) ls in
    let own : g b ≡ (let e : E = (d, b) in e) = ap (λ (m : ℕ). let e : E = (m, b) in e) (get_or-set_same ds b d 0 lb) in
    map-set (map g) ls r (get_or ls r [] ++ b ∷ [])
    ∙ ap (λ (w : List (List E)). set w r (map g (get_or ls r [] ++ b ∷ []))) (all_entries-absent ds b d ls free)
    ∙ ap (λ (w : List E). set es r w)
    (map_push g (get_or ls r []) b
    ∙ ap (λ (w : List E). w ++ g b ∷ []) (entries-absent ds b d (get_or ls r []) (is_in-at b r ls free) ∙ sym (entries-at ds ls r))
    ∙ ap (λ (e : E). get_or es r [] ++ e ∷ []) own)

-- Where it is the ring of its deadline, it is armed in the plain list.
pub armed-put : (n : ℕ) (ds : List ℕ) (b d r : ℕ) (ls : List (List ℕ)) → r < length ls → d % n ≡ r
    → ((h k x : ℕ) → slice_get (get_or ls h []) k ≡ Some x → get_or ds x 0 % n ≡ h)
    → put_rings [] (set (map (map (entry ds)) ls) r (get_or (map (map (entry ds)) ls) r [] ++ (d, b) ∷ [])) ≡ put_entry (d, b) (put_rings [] (map (map (entry ds)) ls))
armed-put n ds b d r ls lr er placed =
    let es : List (List E) = map (map (entry ds)) ls in
    let apart : (h k : ℕ) (x : E) → r < h → slice_get (get_or es h []) k ≡ Some x → d ≢ x.0 = λ h k x l t.
    let from : (slice_get (get_or ls h []) k ≡ Some x.1) × (get_or ds x.1 0 ≡ x.0) = entry-from ds (get_or ls h []) k x (ap (λ (ys : List E). slice_get ys k) (sym (entries-at ds ls h)) ∙ t) in
    λ (e : d ≡ x.0). let other : d % n ≡ h = ap (λ m. m % n) (e ∙ sym from.1) ∙ placed h k x.1 from.0 in absurd (omega arith) in
    put_rings_push (d, b) r es [] (omega (arith, length-map ls (map (entry ds)))) apart

-- Where the blocks of the rings come from

pub is_in-get : (b : ℕ) (ys : List ℕ) (k : ℕ) → slice_get ys k ≡ Some b → is_in b ys ≡ true
is_in-get b [] k h = absurd (cc)
is_in-get b (y ∷ ys) zero h = let p : b ≡ y = cc in or_left (eqb b y) (is_in b ys) (eq-eqb b y p)
is_in-get b (y ∷ ys) (suc k) h = or_right (eqb b y) (is_in b ys) (is_in-get b ys k h)

pub get-push : (ys : List ℕ) (b k x : ℕ) → slice_get (ys ++ b ∷ []) k ≡ Some x → (b ≡ x) ⊎ (slice_get ys k ≡ Some x)
get-push [] b zero x h = let p : b ≡ x = cc in inl p
get-push [] b (suc k) x h = absurd (cc)
get-push (y ∷ ys) b zero x h = inr h
get-push (y ∷ ys) b (suc k) x h = get-push ys b k x h

split_get : (y : ℕ) (zs : List ℕ) (k x : ℕ) → slice_get (y ∷ zs) k ≡ Some x → (y ≡ x) ⊎ ((j : ℕ) × (slice_get zs j ≡ Some x))
split_get y zs zero x h = let p : y ≡ x = cc in inl p
split_get y zs (suc k) x h = inr (k, h)

pub get-without : (b : ℕ) (ys : List ℕ) (k x : ℕ) → slice_get (without b ys) k ≡ Some x → (j : ℕ) × (slice_get ys j ≡ Some x)
get-without b [] k x h = absurd (cc)
get-without b (y ∷ ys) k x h =
    ⊎_elim
    (λ (e : b ≡ y).
    let p : (j : ℕ) × (slice_get ys j ≡ Some x) = get-without b ys k x (ap (λ zs. slice_get zs k) (sym (name_here b y ys e)) ∙ h) in
    (suc p.0, p.1))
    (λ (n : b ≡ y → ⊥).
    ⊎_elim
    (λ (q : y ≡ x). (0, ap Some q))
    (λ (q : (j : ℕ) × (slice_get (without b ys) j ≡ Some x)).
    let p : (j : ℕ) × (slice_get ys j ≡ Some x) = get-without b ys q.0 x q.1 in
    (suc p.0, p.1))
    (split_get y (without b ys) k x (ap (λ zs. slice_get zs k) (sym (name_there b y ys n)) ∙ h)))
    (cases_eq b y)

-- Each block stands in the ring of its deadline, still.
pub placed-put : (n : ℕ) (ds : List ℕ) (b d r : ℕ) (ls : List (List ℕ)) → b < length ds → r < length ls → d % n ≡ r → is_in_any b ls ≡ false
    → ((h k x : ℕ) → slice_get (get_or ls h []) k ≡ Some x → get_or ds x 0 % n ≡ h)
    → (h k x : ℕ) → slice_get (get_or (set ls r (get_or ls r [] ++ b ∷ [])) h []) k ≡ Some x → get_or (set ds b d) x 0 % n ≡ h
placed-put n ds b d r ls lb lr er free placed h k x t =
    let new : List ℕ = get_or ls r [] ++ b ∷ [] in
    let kept : (j : ℕ) → slice_get (get_or ls h []) j ≡ Some x → get_or (set ds b d) x 0 % n ≡ h = λ j u.
    ⊎_elim
    (λ (e : x ≡ b). absurd (false≢true (sym (is_in-at b h ls free) ∙ is_in-get b (get_or ls h []) j (u ∙ ap Some e))))
    (λ (ne : x ≡ b → ⊥). ap (λ m. m % n) (get_or-set_other ds b x d 0 ne) ∙ placed h j x u)
    (cases_eq x b) in
    ⊎_elim
    (λ (e : h ≡ r).
    ⊎_elim
    (λ (q : b ≡ x). ap (λ m. m % n) (ap (λ z. get_or (set ds b d) z 0) (sym q) ∙ get_or-set_same ds b d 0 lb) ∙ er ∙ sym e)
    (λ (q : slice_get (get_or ls r []) k ≡ Some x). kept k (ap (λ z. slice_get (get_or ls z []) k) e ∙ q))
    (get-push (get_or ls r []) b k x (sym (ap (λ ys. slice_get ys k) (ap (λ z. get_or (set ls r new) z []) e ∙ get_or-set_same ls r new [] lr)) ∙ t)))
    (λ (ne : h ≡ r → ⊥). kept k (sym (ap (λ ys. slice_get ys k) (get_or-set_other ls r h new [] ne)) ∙ t))
    (cases_eq h r)

pub placed-without : (n : ℕ) (ds : List ℕ) (b : ℕ) (ls : List (List ℕ)) → ((h k x : ℕ) → slice_get (get_or ls h []) k ≡ Some x → get_or ds x 0 % n ≡ h)
    → (h k x : ℕ) → slice_get (get_or (map (without b) ls) h []) k ≡ Some x → get_or ds x 0 % n ≡ h
placed-without n ds b ls placed h k x t =
    let p : (j : ℕ) × (slice_get (get_or ls h []) j ≡ Some x) = get-without b (get_or ls h []) k x (ap (λ ys. slice_get ys k) (sym (get_or-without b h ls)) ∙ t) in
    placed h p.0 x p.1
