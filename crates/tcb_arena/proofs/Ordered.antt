-- The list of the armed blocks by rising deadline: its first block, the place of one more, and that it has those of the rings.
use Rattle.std.specs.Prelude.{slice_get, Some, None, drop, find}
use Rattle.std.proofs.Common.{◌≡◌, ◌≢◌, ℕ, ◌<◌, ◌≤◌, Bool, true, false, not, eqb, ◌||◌, List, [], ◌∷◌, ◌++◌, length, map, get_or, set, refl, sym, ◌∙◌, ap, subst, ⊎_elim, arith, zero, suc, get_or-set_same}
use Rattle.std.proofs.lemmas.Bool.{cases_Bool, cases_lt, cond-true, cond-false, eq-eqb, le-leb, lt-leb, or_left, or_right, or_parts, false≢true}
use Rattle.std.specs.List.{list_any}
use Rattle.l4_model.specs.World.{is_in}
use Rattle.l4_core_model.specs.Plain.{put_entry}
use Rattle.tcb_arena.specs.Inner.Rings.{Lists, is_in_any, is_linked, with_before}
use Rattle.tcb_arena.specs.Inner.Due.{armed_in, entries_in, entry, is_later, ArePlaced, AreOrdered, AreRising, IsFloor}
use Rattle.tcb_arena.proofs.Lists.{before_here, before_there, is_in_any-at}
use Rattle.tcb_arena.proofs.Entries.{E, Rises, any-entries, any-put_rings, entries-absent, entry-at, entry-from, entry-none, is_in-get, put_le, put_lt, rises-put_rings}
use Rattle.tcb_arena.proofs.Once.{get-in, get-in-any}

-- Rising deadlines

rises-get : (low : ℕ) (xs : List E) (k : ℕ) (e : E) → Rises low xs → slice_get xs k ≡ Some e → low ≤ e.0
rises-get low [] k e h at = absurd (cc)
rises-get low (x ∷ xs) zero e h at = let same : x ≡ e = cc in omega (arith, h.0, ap (λ (z : E). z.0) same)
rises-get low (x ∷ xs) (suc k) e h at = omega (arith, h.0, rises-get x.0 xs k e h.1 at)

rises-two : (low : ℕ) (xs : List E) (k j : ℕ) (e f : E) → Rises low xs → k ≤ j → slice_get xs k ≡ Some e → slice_get xs j ≡ Some f → e.0 ≤ f.0
rises-two low [] k j e f h le at at' = absurd (cc)
rises-two low (x ∷ xs) zero zero e f h le at at' = let same : e ≡ f = cc in omega (arith, ap (λ (z : E). z.0) same)
rises-two low (x ∷ xs) zero (suc j) e f h le at at' = let same : x ≡ e = cc in omega (arith, ap (λ (z : E). z.0) same, rises-get x.0 xs j f h.1 at')
rises-two low (x ∷ xs) (suc k) zero e f h le at at' = absurd (omega arith)
rises-two low (x ∷ xs) (suc k) (suc j) e f h le at at' = rises-two x.0 xs k j e f h.1 (omega arith) at at'

rises-order : (ds : List ℕ) (s o : Lists) → AreOrdered ds s o → Rises 0 (map (entry ds) (get_or o.lists 0 []))
rises-order ds s o w = subst (Rises 0) (sym w.entries) (rises-put_rings (entries_in ds s.lists) [] tt)

pub order-rising : (ds : List ℕ) (s o : Lists) → AreOrdered ds s o → AreRising ds (get_or o.lists 0 [])
order-rising ds s o w = record {
  rising = λ k j x y le t u.
      rises-two 0 (map (entry ds) (get_or o.lists 0 [])) k j (entry ds x) (entry ds y) (rises-order ds s o w) le (entry-at ds (get_or o.lists 0 []) k x t) (entry-at ds (get_or o.lists 0 []) j y u);
}

-- The place of one more

passes : (p : ℕ → Bool) (ys : List ℕ) (x : ℕ) → find p ys ≡ Some x → p x ≡ true
passes p [] x h = absurd (cc)
passes p (y ∷ ys) x h =
    ⊎_elim
    (λ (e : p y ≡ true).
    let here : Some y ≡ Some x = sym (cond-true (p y) (Some y) (find p ys) e) ∙ h in
    let same : y ≡ x = cc in ap p (sym same) ∙ e)
    (λ (e : p y ≡ false). passes p ys x (sym (cond-false (p y) (Some y) (find p ys) e) ∙ h))
    (cases_Bool (p y))

pub found-in : (p : ℕ → Bool) (ys : List ℕ) (x : ℕ) → find p ys ≡ Some x → is_in x ys ≡ true
found-in p [] x h = absurd (cc)
found-in p (y ∷ ys) x h =
    ⊎_elim
    (λ (e : p y ≡ true).
    let here : Some y ≡ Some x = sym (cond-true (p y) (Some y) (find p ys) e) ∙ h in
    let same : x ≡ y = cc in or_left (eqb x y) (is_in x ys) (eq-eqb x y same))
    (λ (e : p y ≡ false). or_right (eqb x y) (is_in x ys) (found-in p ys x (sym (cond-false (p y) (Some y) (find p ys) e) ∙ h)))
    (cases_Bool (p y))

not_later : (ds : List ℕ) (d y : ℕ) → get_or ds y 0 ≤ d → is_later ds d y ≡ false
not_later ds d y le = ap (λ t. not t) (le-leb (get_or ds y 0) d le)

later : (ds : List ℕ) (d y : ℕ) → d < get_or ds y 0 → is_later ds d y ≡ true
later ds d y lt = ap (λ t. not t) (lt-leb (get_or ds y 0) d lt)

own : (ds : List ℕ) (b d : ℕ) → b < length ds → entry (set ds b d) b ≡ (let e : E = (d, b) in e)
own ds b d lb = ap (λ (m : ℕ). let e : E = (m, b) in e) (get_or-set_same ds b d 0 lb)

one-absent : (ds : List ℕ) (b d y : ℕ) (ys : List ℕ) → is_in b (y ∷ ys) ≡ false → entry (set ds b d) y ≡ entry ds y
one-absent ds b d y ys free =
    let parts : (eqb b y ≡ false) × (is_in b ys ≡ false) = or_parts (eqb b y) (is_in b ys) free in
    let nil : is_in b (y ∷ []) ≡ false = ap (λ t. t || false) parts.0 in
    let all : map (entry (set ds b d)) (y ∷ []) ≡ map (entry ds) (y ∷ []) = entries-absent ds b d (y ∷ []) nil in
    let some : Some (entry (set ds b d) y) ≡ Some (entry ds y) = ap (λ (es : List E). slice_get es 0) all in cc

pub order-last : (ds : List ℕ) (b d : ℕ) → b < length ds → (ys : List ℕ) → is_in b ys ≡ false → find (is_later ds d) ys ≡ None → map (entry (set ds b d)) (ys ++ b ∷ []) ≡ put_entry (d, b) (map (entry ds) ys)
order-last ds b d lb [] free none = ap (λ (e : E). e ∷ []) (own ds b d lb)
order-last ds b d lb (y ∷ ys) free none =
    let parts : (eqb b y ≡ false) × (is_in b ys ≡ false) = or_parts (eqb b y) (is_in b ys) free in
    ⊎_elim
    (λ (lt : d < get_or ds y 0). let here : find (is_later ds d) (y ∷ ys) ≡ Some y = cond-true (is_later ds d y) (Some y) (find (is_later ds d) ys) (later ds d y lt) in absurd (cc))
    (λ (le : get_or ds y 0 ≤ d).
    let rest : find (is_later ds d) ys ≡ None = sym (cond-false (is_later ds d y) (Some y) (find (is_later ds d) ys) (not_later ds d y le)) ∙ none in
    ap (λ (e : E). e ∷ map (entry (set ds b d)) (ys ++ b ∷ [])) (one-absent ds b d y ys free)
    ∙ ap (λ (es : List E). entry ds y ∷ es) (order-last ds b d lb ys parts.1 rest)
    ∙ sym (put_le (d, b) (entry ds y) (map (entry ds) ys) le))
    (cases_lt d (get_or ds y 0))

pub order-before : (ds : List ℕ) (b d at : ℕ) → b < length ds → (ys : List ℕ) → is_in b ys ≡ false → find (is_later ds d) ys ≡ Some at
    → map (entry (set ds b d)) (with_before at b ys) ≡ put_entry (d, b) (map (entry ds) ys)
order-before ds b d at lb [] free some = absurd (cc)
order-before ds b d at lb (y ∷ ys) free some =
    let parts : (eqb b y ≡ false) × (is_in b ys ≡ false) = or_parts (eqb b y) (is_in b ys) free in
    ⊎_elim
    (λ (lt : d < get_or ds y 0).
    let here : Some y ≡ Some at = sym (cond-true (is_later ds d y) (Some y) (find (is_later ds d) ys) (later ds d y lt)) ∙ some in
    let same : y ≡ at = cc in
    ap (map (entry (set ds b d))) (before_here at b y ys (sym same))
    ∙ ap (λ (e : E). e ∷ map (entry (set ds b d)) (y ∷ ys)) (own ds b d lb)
    ∙ ap (λ (es : List E). let e : E = (d, b) in e ∷ es) (entries-absent ds b d (y ∷ ys) free)
    ∙ sym (put_lt (d, b) (entry ds y) (map (entry ds) ys) lt))
    (λ (le : get_or ds y 0 ≤ d).
    let rest : find (is_later ds d) ys ≡ Some at = sym (cond-false (is_later ds d y) (Some y) (find (is_later ds d) ys) (not_later ds d y le)) ∙ some in
    let ne : at ≢ y = λ (e : at ≡ y). false≢true (sym (not_later ds d y le) ∙ ap (is_later ds d) (sym e) ∙ passes (is_later ds d) ys at rest) in
    ap (map (entry (set ds b d))) (before_there at b y ys ne)
    ∙ ap (λ (e : E). e ∷ map (entry (set ds b d)) (with_before at b ys)) (one-absent ds b d y ys free)
    ∙ ap (λ (es : List E). entry ds y ∷ es) (order-before ds b d at lb ys parts.1 rest)
    ∙ sym (put_le (d, b) (entry ds y) (map (entry ds) ys) le))
    (cases_lt d (get_or ds y 0))

-- Behind one that is not later the first later one is that of all.
find-behind : (p : ℕ → Bool) (ys : List ℕ) (k : ℕ) → ((j x : ℕ) → j ≤ k → slice_get ys j ≡ Some x → p x ≡ false) → find p (drop (suc k) ys) ≡ find p ys
find-behind p [] k none = refl
find-behind p (y ∷ ys) zero none = sym (cond-false (p y) (Some y) (find p ys) (none 0 y (omega arith) refl))
find-behind p (y ∷ ys) (suc k) none =
    find-behind p ys k (λ j x le t. none (suc j) x (omega arith) t) ∙ sym (cond-false (p y) (Some y) (find p ys) (none 0 y (omega arith) refl))

pub later-behind : (ds ys : List ℕ) (d k x : ℕ) → AreRising ds ys → slice_get ys k ≡ Some x → is_later ds d x ≡ false → find (is_later ds d) (drop (suc k) ys) ≡ find (is_later ds d) ys
later-behind ds ys d k x r at early =
    let le : get_or ds x 0 ≤ d =
    ⊎_elim
    (λ (lt : d < get_or ds x 0). absurd (false≢true (sym early ∙ later ds d x lt)))
    (λ (le : get_or ds x 0 ≤ d). le)
    (cases_lt d (get_or ds x 0)) in
    find-behind (is_later ds d) ys k (λ j y lj t. not_later ds d y (omega (arith, r.rising j k y x lj t at, le)))

-- It has those of the rings

or_nil : (b : Bool) → (b || false) ≡ b
or_nil true = refl
or_nil false = refl

pub one-list : (b : ℕ) (ls : List (List ℕ)) → length ls ≡ 1 → is_in_any b ls ≡ is_in b (get_or ls 0 [])
one-list b [] one = absurd (omega arith)
one-list b (l ∷ []) one = or_nil (is_in b l)
one-list b (l ∷ m ∷ ls) one = absurd (omega arith)

pub order-linked : (ds : List ℕ) (s o : Lists) (b : ℕ) → AreOrdered ds s o → is_linked o b ≡ is_linked s b
order-linked ds s o b w =
    one-list b o.lists w.one ∙ sym (any-entries ds b (get_or o.lists 0 [])) ∙ ap (list_any (λ (x : E). eqb b x.1)) w.entries ∙ any-put_rings ds b s.lists []

pub order-within : (ds : List ℕ) (s o : Lists) (b : ℕ) → ArePlaced 64 ds s → AreOrdered ds s o → is_linked o b ≡ true → b < length ds
order-within ds s o b p w linked =
    let at : (h : ℕ) × (k : ℕ) × (slice_get (get_or s.lists h []) k ≡ Some b) = get-in-any b s.lists (sym (order-linked ds s o b w) ∙ linked) in
    p.within at.0 at.1 b at.2

pub read-within : (ds : List ℕ) (s o : Lists) (k b : ℕ) → ArePlaced 64 ds s → AreOrdered ds s o → slice_get (get_or o.lists 0 []) k ≡ Some b → b < length ds
read-within ds s o k b p w t = order-within ds s o b p w (is_in_any-at b 0 o.lists (is_in-get b (get_or o.lists 0 []) k t))

-- No block of a ring is before the first of the order.
placed-order : (ds : List ℕ) (s o : Lists) (h k b : ℕ) → AreOrdered ds s o → slice_get (get_or s.lists h []) k ≡ Some b → (j : ℕ) × (slice_get (get_or o.lists 0 []) j ≡ Some b)
placed-order ds s o h k b w at =
    let linked : is_in_any b s.lists ≡ true = is_in_any-at b h s.lists (is_in-get b (get_or s.lists h []) k at) in
    get-in b (get_or o.lists 0 []) (sym (one-list b o.lists w.one) ∙ order-linked ds s o b w ∙ linked)

pub floor-first : (ds : List ℕ) (s o : Lists) (e : E) → AreOrdered ds s o → slice_get (armed_in ds s.lists) 0 ≡ Some e → IsFloor e.0 ds s.lists
floor-first ds s o e w at = record {
  below = λ h k b t.
      let from : (j : ℕ) × (slice_get (get_or o.lists 0 []) j ≡ Some b) = placed-order ds s o h k b w t in
      rises-two 0 (map (entry ds) (get_or o.lists 0 [])) 0 from.0 e (entry ds b) (rises-order ds s o w) (omega arith) (ap (λ (es : List E). slice_get es 0) w.entries ∙ at)
      (entry-at ds (get_or o.lists 0 []) from.0 b from.1);
}

pub floor-none : (ds : List ℕ) (s o : Lists) (high : ℕ) → AreOrdered ds s o → slice_get (armed_in ds s.lists) 0 ≡ None → IsFloor high ds s.lists
floor-none ds s o high w none = record {
  below = λ h k b t.
      let from : (j : ℕ) × (slice_get (get_or o.lists 0 []) j ≡ Some b) = placed-order ds s o h k b w t in
      absurd (nothing (get_or o.lists 0 []) from.0 from.1 (ap (λ (es : List E). slice_get es 0) w.entries ∙ none));
}
  where
    nothing : (ys : List ℕ) (j : ℕ) {b : ℕ} → slice_get ys j ≡ Some b → slice_get (map (entry ds) ys) 0 ≡ None → ⊥
    nothing [] j t u = cc
    nothing (y ∷ ys) j t u = cc

-- What is read of the order is read of the plain list.
pub read-at : (ds : List ℕ) (s o : Lists) (k b : ℕ) → AreOrdered ds s o → slice_get (get_or o.lists 0 []) k ≡ Some b → slice_get (armed_in ds s.lists) k ≡ Some (entry ds b)
read-at ds s o k b w t = ap (λ (es : List E). slice_get es k) (sym w.entries) ∙ entry-at ds (get_or o.lists 0 []) k b t

pub read-none : (ds : List ℕ) (s o : Lists) (k : ℕ) → AreOrdered ds s o → slice_get (get_or o.lists 0 []) k ≡ None → slice_get (armed_in ds s.lists) k ≡ None
read-none ds s o k w t = ap (λ (es : List E). slice_get es k) (sym w.entries) ∙ entry-none ds (get_or o.lists 0 []) k t

pub read-from : (ds : List ℕ) (s o : Lists) (k d b : ℕ) → AreOrdered ds s o → slice_get (armed_in ds s.lists) k ≡ (let e : E = (d, b) in Some e) → slice_get (get_or o.lists 0 []) k ≡ Some b
read-from ds s o k d b w t = (entry-from ds (get_or o.lists 0 []) k (d, b) (ap (λ (es : List E). slice_get es k) w.entries ∙ t)).0
