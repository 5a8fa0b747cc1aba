-- What taking a name out of its ring, and putting one at the end of a ring, do to all rings.
use Rattle.std.specs.Prelude.{slice_get, Some, None, replicate, drop}
use Rattle.std.proofs.Common.{ltb, ◌≡◌, ◌≢◌, ℕ, ◌+◌, ◌-◌, ◌<◌, ◌≤◌, true, false, cond, eqb, List, [], ◌∷◌, ◌++◌, length, map, get_or, set, get_or-set_same, refl, sym, ◌∙◌, ap, subst, ⊎_elim, arith, zero, suc}
use Rattle.std.proofs.lemmas.Bool.{cases_eq, false≢true, cases_lt, or_left, or_right, eq-eqb}
use Rattle.std.specs.Cmp.{nat_eq_equiv}
use Rattle.std.proofs.lemmas.List.{get_or_past, length-drop}
use Rattle.std.proofs.lemmas.List.FromFn.{length-map-range_with_len, get_or-map-range_with_len}
use Rattle.std.proofs.lemmas.Map.Keys.{IsDistinct-push}
use Rattle.std.proofs.lemmas.Map.Steps.{length-le_from_distinct_below}
use Rattle.std.specs.List.{range_with_len, IsDistinct}
use Rattle.l4_model.specs.World.{is_in}
use Rattle.tcb_arena.specs.Inner.Rings.{Lists, AreSound, list_at, taken_out, without_first, AreRings, Leads, ring, rings, with_before, without, is_in_any}
use Rattle.tcb_arena.proofs.Splices.{second, length-set2, AreInverse-spliced, moved, moved_there, spliced_step}
use Rattle.tcb_arena.proofs.Lists.{length-without, is_in_any-without, IsDistinct-without, map-range, map-range_set, map-map-range, is_in-push, is_in_any-grown, is_in_any-at, is_in_any-range, is_in_any-before, is_in_any-put_before, IsDistinct-before, IsDistinct-nil, without_the_first}
use Rattle.tcb_arena.proofs.Walks.{length-walk, walk-leads, leads-below, free_is_nowhere, leads_without, leads_push, leads_kept, leads_before, first-leads, after-leads, leads-one, leads-at}

-- Rings

length-ring : (names : ℕ) (next : List ℕ) (head : ℕ) → length (ring names next head) ≤ names
unfolding ring
length-ring names next head = length-walk names next head (get_or next head 0)

ring-leads : (names : ℕ) (next : List ℕ) (head : ℕ) (xs : List ℕ) → names ≤ head → Leads names next head (get_or next head 0) xs → length xs ≤ names → ring names next head ≡ xs
unfolding ring
ring-leads names next head xs room h l = walk-leads names next head room names xs (get_or next head 0) h l

length-rings : (names : ℕ) (next : List ℕ) → length (rings names next) ≡ length next - names
unfolding rings
length-rings names next = length-map-range_with_len (ring names next) names (length next - names)

get_or-rings : (names : ℕ) (next : List ℕ) (head : ℕ) → names + head < length next → get_or (rings names next) head [] ≡ ring names next (names + head)
unfolding rings
get_or-rings names next head l = get_or-map-range_with_len (ring names next) names (length next - names) head (names + head) [] (omega arith) refl

-- A name taken out

module _ (names : ℕ) (next prev : List ℕ) (x p q : ℕ) (r : AreRings names next prev) (lx : x < names) (ep : p ≡ get_or prev x 0) (eq : q ≡ get_or next x 0) where
  abbrev out : List ℕ
  out = set (set next p q) x x

  lx' : x < length next
  lx' = omega (arith, r.room)

  lp : p < length next
  lp = omega (arith, r.inverse.prev_in x lx')

  ea : get_or next p 0 ≡ x
  ea = ap (λ k. get_or next k 0) ep ∙ r.inverse.next_prev x lx'

  step : (y : ℕ) → y < length next → y ≢ x → get_or out y 0 ≡ moved x q (get_or next y 0)
  step y l ne = spliced_step next prev p x x q y r.inverse lp ea l ne

  leads_out : (head : ℕ) → names ≤ head → head < length next → Leads names out head (get_or out head 0) (without x (ring names next head))
  leads_out head room l =
      let ne : head ≢ x = λ e. absurd (omega arith) in
      let P : ℕ → Type 0 = λ k. Leads names out head k (without x (ring names next head)) in
      subst P (sym (step head l ne))
      (leads_without names next out head x q ne (sym eq) (λ y ly n. step y (omega (arith, r.room)) n) (ring names next head) (get_or next head 0) (r.leads head room l))

  ring-out : (head : ℕ) → names ≤ head → head < length next → ring names out head ≡ without x (ring names next head)
  ring-out head room l = ring-leads names out head (without x (ring names next head)) room (leads_out head room l) (omega (arith, length-without x (ring names next head), length-ring names next head))

  pub rings-taken_out : rings names out ≡ map (without x) (rings names next)
  unfolding rings
  rings-taken_out =
      ap (λ n. map (ring names out) (range_with_len names (n - names))) (length-set2 next p x q x)
      ∙ map-range (ring names out) (λ h. without x (ring names next h)) names (length next - names) (λ h room l. ring-out h room (omega (arith, r.room)))
      ∙ sym (map-map-range (without x) (ring names next) names (length next - names))

  pub AreRings-taken_out : AreRings names out (set (set prev q p) x x)
  AreRings-taken_out =
      let ln : length out ≡ length next = length-set2 next p x q x in
      record {
        room = omega (arith, r.room);
        inverse = AreInverse-spliced next prev p x x q r.inverse lp lx' ea (sym eq);
        leads = λ head room l.
            let l' : head < length next = omega arith in
            subst (λ (xs : List ℕ). Leads names out head (get_or out head 0) xs) (sym (ring-out head room l')) (leads_out head room l');
        distinct = λ head room l.
            let l' : head < length next = omega arith in
            subst (λ (xs : List ℕ). IsDistinct (λ a b. eqb a b) xs) (sym (ring-out head room l')) (IsDistinct-without x (ring names next head) (r.distinct head room l'));
        found = λ y ly moves.
            let ne : y ≢ x = λ e. moves (ap (λ k. get_or out k 0) e ∙ second next p x q x lx' ∙ sym e) in
            let moved_before : get_or next y 0 ≢ y = λ e. moves (step y (omega (arith, r.room)) ne ∙ moved_there x q (get_or next y 0) (λ k. ne (sym e ∙ k)) ∙ e) in
            ap (is_in_any y) rings-taken_out ∙ is_in_any-without x y (rings names next) ne ∙ r.found y ly moved_before;
      }

-- A name put at the end of a ring, whose head's node comes after t

module _ (names : ℕ) (next prev : List ℕ) (head x t : ℕ) (r : AreRings names next prev) (room : names ≤ head) (lh : head < length next) (lx : x < names) (free : is_in_any x (rings names next) ≡ false) (et : t ≡ get_or prev head 0) where
  abbrev put : List ℕ
  put = set (set next t x) x head

  px : x < length next
  px = omega (arith, r.room)

  -- A name in no list is linked to itself.
  self : get_or next x 0 ≡ x
  self = ⊎_elim (λ (e : get_or next x 0 ≡ x). e) (λ (ne : get_or next x 0 ≡ x → ⊥). absurd (false≢true (sym free ∙ r.found x lx ne))) (cases_eq (get_or next x 0) x)

  pt : t < length next
  pt = omega (arith, r.inverse.prev_in head lh)

  et' : get_or next t 0 ≡ head
  et' = ap (λ k. get_or next k 0) et ∙ r.inverse.next_prev head lh

  moves : (y : ℕ) → y < length next → y ≢ x → get_or put y 0 ≡ moved head x (get_or next y 0)
  moves y l ne = spliced_step next prev t x head x y r.inverse pt et' l ne

  to_head : get_or put x 0 ≡ head
  to_head = second next t x x head px

  nowhere : (h : ℕ) → names ≤ h → h < length next → is_in x (ring names next h) ≡ false
  nowhere h rh l = free_is_nowhere names next h x lx rh self (ring names next h) (get_or next h 0) (r.leads h rh l)

  leads_put : Leads names put head (get_or put head 0) (ring names next head ++ x ∷ [])
  leads_put =
      let ne : head ≢ x = λ e. absurd (omega arith) in
      let P : ℕ → Type 0 = λ k. Leads names put head k (ring names next head ++ x ∷ []) in
      subst P (sym (moves head lh ne))
      (leads_push names next put head x room lx to_head (λ y ly n. moves y (omega (arith, r.room)) n) (ring names next head) (get_or next head 0) (nowhere head room lh) (r.leads head room lh))

  distinct_put : IsDistinct eqb (ring names next head ++ x ∷ [])
  distinct_put = IsDistinct-push nat_eq_equiv (ring names next head) x (r.distinct head room lh) (nowhere head room lh)

  ring-put : ring names put head ≡ ring names next head ++ x ∷ []
  ring-put = ring-leads names put head (ring names next head ++ x ∷ []) room leads_put
      (length-le_from_distinct_below (ring names next head ++ x ∷ []) names distinct_put (leads-below names put head (ring names next head ++ x ∷ []) (get_or put head 0) leads_put))

  leads_other : (h : ℕ) → names ≤ h → h < length next → h ≢ head → Leads names put h (get_or put h 0) (ring names next h)
  leads_other h rh l ne =
      let nx : h ≢ x = λ e. absurd (omega arith) in
      let P : ℕ → Type 0 = λ k. Leads names put h k (ring names next h) in
      subst P (sym (moves h l nx))
      (leads_kept names next put head h x room ne (λ y ly n. moves y (omega (arith, r.room)) n) (ring names next h) (get_or next h 0) (nowhere h rh l) (r.leads h rh l))

  ring-other : (h : ℕ) → names ≤ h → h < length next → h ≢ head → ring names put h ≡ ring names next h
  ring-other h rh l ne = ring-leads names put h (ring names next h) rh (leads_other h rh l ne) (length-ring names next h)

  pub rings-put : (k : ℕ) → names + k ≡ head → rings names put ≡ set (rings names next) k (ring names next head ++ x ∷ [])
  unfolding rings
  rings-put k e =
      ap (λ n. map (ring names put) (range_with_len names (n - names))) (length-set2 next t x x head)
      ∙ map-range_set (ring names put) (ring names next) (ring names next head ++ x ∷ []) names (length next - names) k (omega arith) (ap (ring names put) e ∙ ring-put)
      (λ h rh l ne. ring-other h rh (omega (arith, r.room)) (λ w. ne (w ∙ sym e)))

  pub AreRings-put : AreRings names put (set (set prev x t) head x)
  AreRings-put =
      let ln : length put ≡ length next = length-set2 next t x x head in
      let k : ℕ = head - names in
      let ek : names + k ≡ head = omega arith in
      let all = rings-put k ek in
      record {
        room = omega (arith, r.room);
        inverse = AreInverse-spliced next prev t x head x r.inverse pt px et' self;
        leads = λ h rh l.
            let l' : h < length next = omega arith in
            ⊎_elim
            (λ (e : h ≡ head). subst (λ (n : ℕ). Leads names put n (get_or put n 0) (ring names put n)) (sym e) (subst (λ (xs : List ℕ). Leads names put head (get_or put head 0) xs) (sym ring-put) leads_put))
            (λ (ne : h ≡ head → ⊥). subst (λ (xs : List ℕ). Leads names put h (get_or put h 0) xs) (sym (ring-other h rh l' ne)) (leads_other h rh l' ne))
            (cases_eq h head);
        distinct = λ h rh l.
            let l' : h < length next = omega arith in
            ⊎_elim
            (λ (e : h ≡ head). subst (λ (n : ℕ). IsDistinct (λ a b. eqb a b) (ring names put n)) (sym e) (subst (λ (xs : List ℕ). IsDistinct (λ a b. eqb a b) xs) (sym ring-put) distinct_put))
            (λ (ne : h ≡ head → ⊥). subst (λ (xs : List ℕ). IsDistinct (λ a b. eqb a b) xs) (sym (ring-other h rh l' ne)) (r.distinct h rh l'))
            (cases_eq h head);
        found = λ y ly goes.
            let grown : is_in y (ring names next head) ≡ true → is_in y (ring names next head ++ x ∷ []) ≡ true = λ e. is_in-push x y (ring names next head) ∙ or_left (is_in y (ring names next head)) (eqb y x) e in
            let at_k : get_or (rings names next) k [] ≡ ring names next head = get_or-rings names next k (omega arith) ∙ ap (ring names next) ek in
            ap (is_in_any y) all
            ∙ ⊎_elim
            (λ (e : y ≡ x).
            is_in_any-at y k (set (rings names next) k (ring names next head ++ x ∷ []))
            (ap (is_in y) (get_or-set_same (rings names next) k (ring names next head ++ x ∷ []) [] (omega (arith, length-rings names next)))
            ∙ is_in-push x y (ring names next head) ∙ or_right (is_in y (ring names next head)) (eqb y x) (eq-eqb y x e)))
            (λ (ne : y ≡ x → ⊥).
            let went : get_or next y 0 ≢ y = λ e. goes (moves y (omega (arith, r.room)) ne ∙ moved_there head x (get_or next y 0) (λ w. absurd (omega (arith, e, w))) ∙ e) in
            is_in_any-grown y k (ring names next head ++ x ∷ []) (rings names next) (λ e. grown (ap (is_in y) (sym at_k) ∙ e)) (r.found y ly went))
            (cases_eq y x);
      }

-- What a value says of the fields that it shows

pub node_in : (names : ℕ) (next : List ℕ) (s : Lists) (h : ℕ) → (let v : Lists = record { names = names; lists = rings names next } in v ≡ s) → h < length s.lists → names + h < length next
node_in names next s h e l = omega (arith, length-rings names next, ap (λ (v : Lists). length v.lists) e)

pub list_in : (names : ℕ) (next : List ℕ) (s : Lists) (h : ℕ) → (let v : Lists = record { names = names; lists = rings names next } in v ≡ s) → h < length s.lists → get_or s.lists h [] ≡ ring names next (names + h)
list_in names next s h e l = ap (λ (v : Lists). get_or v.lists h []) (sym e) ∙ get_or-rings names next h (node_in names next s h e l)

pub first_is : (names : ℕ) (next prev : List ℕ) (head at : ℕ) → AreRings names next prev → names ≤ head → head < length next → at ≡ get_or next head 0
    → slice_get (ring names next head) 0 ≡ cond (ltb at names) (Some at) None
first_is names next prev head at r room l e =
    first-leads names next head (get_or next head 0) (ring names next head) room (r.leads head room l) ∙ ap (λ (z : ℕ). cond (ltb z names) (Some z) None) (sym e)

pub after_is : (names : ℕ) (next prev : List ℕ) (head k x at : ℕ) → AreRings names next prev → names ≤ head → head < length next → at ≡ get_or next x 0 → slice_get (ring names next head) k ≡ Some x
    → slice_get (ring names next head) (suc k) ≡ cond (ltb at names) (Some at) None
after_is names next prev head k x at r room l e h =
    after-leads names next head (get_or next head 0) (ring names next head) k x room (r.leads head room l) h ∙ ap (λ (z : ℕ). cond (ltb z names) (Some z) None) (sym e)

-- A name that is linked to itself is in no list.
pub is_in_any-free : (names : ℕ) (next prev : List ℕ) (x : ℕ) → AreRings names next prev → x < names → get_or next x 0 ≡ x → is_in_any x (rings names next) ≡ false
unfolding rings
is_in_any-free names next prev x r lx e =
    is_in_any-range (ring names next) x names (length next - names)
    (λ h room l. free_is_nowhere names next h x lx room e (ring names next h) (get_or next h 0) (r.leads h room (omega (arith, r.room))))

-- A name put before another one, which comes after t

module _ (names : ℕ) (next prev : List ℕ) (o x t : ℕ) (r : AreRings names next prev) (lo : o < names) (there : is_in_any o (rings names next) ≡ true) (lx : x < names) (free : is_in_any x (rings names next) ≡ false) (et : t ≡ get_or prev o 0) where
  abbrev set_before : List ℕ
  set_before = set (set next t x) x o

  bo : o < length next
  bo = omega (arith, r.room)

  bx : x < length next
  bx = omega (arith, r.room)

  bself : get_or next x 0 ≡ x
  bself = ⊎_elim (λ (e : get_or next x 0 ≡ x). e) (λ (ne : get_or next x 0 ≡ x → ⊥). absurd (false≢true (sym free ∙ r.found x lx ne))) (cases_eq (get_or next x 0) x)

  bt : t < length next
  bt = omega (arith, r.inverse.prev_in o bo)

  bt' : get_or next t 0 ≡ o
  bt' = ap (λ k. get_or next k 0) et ∙ r.inverse.next_prev o bo

  goes : (y : ℕ) → y < length next → y ≢ x → get_or set_before y 0 ≡ moved o x (get_or next y 0)
  goes y l ne = spliced_step next prev t x o x y r.inverse bt bt' l ne

  to_o : get_or set_before x 0 ≡ o
  to_o = second next t x x o bx

  bnowhere : (h : ℕ) → names ≤ h → h < length next → is_in x (ring names next h) ≡ false
  bnowhere h rh l = free_is_nowhere names next h x lx rh bself (ring names next h) (get_or next h 0) (r.leads h rh l)

  leads_set : (h : ℕ) → names ≤ h → h < length next → Leads names set_before h (get_or set_before h 0) (with_before o x (ring names next h))
  leads_set h rh l =
      let ne : h ≢ x = λ e. absurd (omega arith) in
      let P : ℕ → Type 0 = λ k. Leads names set_before h k (with_before o x (ring names next h)) in
      subst P (sym (goes h l ne))
      (leads_before names next set_before h o x rh lo lx to_o (λ y ly n. goes y (omega (arith, r.room)) n) (ring names next h) (get_or next h 0) (bnowhere h rh l) (r.distinct h rh l) (r.leads h rh l))

  distinct_set : (h : ℕ) → names ≤ h → h < length next → IsDistinct (λ a b. eqb a b) (with_before o x (ring names next h))
  distinct_set h rh l = IsDistinct-before o x (ring names next h) (bnowhere h rh l) (r.distinct h rh l)

  ring-before : (h : ℕ) → names ≤ h → h < length next → ring names set_before h ≡ with_before o x (ring names next h)
  ring-before h rh l = ring-leads names set_before h (with_before o x (ring names next h)) rh (leads_set h rh l)
      (length-le_from_distinct_below (with_before o x (ring names next h)) names (distinct_set h rh l) (leads-below names set_before h (with_before o x (ring names next h)) (get_or set_before h 0) (leads_set h rh l)))

  pub rings-before : rings names set_before ≡ map (with_before o x) (rings names next)
  unfolding rings
  rings-before =
      ap (λ n. map (ring names set_before) (range_with_len names (n - names))) (length-set2 next t x x o)
      ∙ map-range (ring names set_before) (λ h. with_before o x (ring names next h)) names (length next - names) (λ h room l. ring-before h room (omega (arith, r.room)))
      ∙ sym (map-map-range (with_before o x) (ring names next) names (length next - names))

  pub AreRings-before : AreRings names set_before (set (set prev x t) o x)
  AreRings-before =
      let ln : length set_before ≡ length next = length-set2 next t x x o in
      record {
        room = omega (arith, r.room);
        inverse = AreInverse-spliced next prev t x o x r.inverse bt bx bt' bself;
        leads = λ h rh l.
            let l' : h < length next = omega arith in
            subst (λ (xs : List ℕ). Leads names set_before h (get_or set_before h 0) xs) (sym (ring-before h rh l')) (leads_set h rh l');
        distinct = λ h rh l.
            let l' : h < length next = omega arith in
            subst (λ (xs : List ℕ). IsDistinct (λ a b. eqb a b) xs) (sym (ring-before h rh l')) (distinct_set h rh l');
        found = λ y ly went.
            ap (is_in_any y) rings-before
            ∙ ⊎_elim
            (λ (e : y ≡ x). ap (λ z. is_in_any z (map (with_before o x) (rings names next))) e ∙ is_in_any-put_before o x (rings names next) there)
            (λ (ne : y ≡ x → ⊥).
            let was : get_or next y 0 ≢ y = λ e.
            went
            (goes y (omega (arith, r.room)) ne
            ∙ moved_there o x (get_or next y 0)
            (λ w. let same : y ≡ o = sym e ∙ w in false≢true (sym (is_in_any-free names next prev o r lo (ap (λ k. get_or next k 0) (sym same) ∙ w)) ∙ there))
            ∙ e) in
            is_in_any-before o x y (rings names next) (r.found y ly was))
            (cases_eq y x);
      }

-- All names linked to themselves

pub AreRings-new : (names heads : ℕ) (next prev : List ℕ) → length next ≡ names + heads → length prev ≡ names + heads → ((k : ℕ) → k < names + heads → get_or next k 0 ≡ k) → ((k : ℕ) → k < names + heads → get_or prev k 0 ≡ k)
    → AreRings names next prev
AreRings-new names heads next prev ln lp en ep =
    let empty : (h : ℕ) → names ≤ h → h < length next → ring names next h ≡ [] = λ h room l. ring-leads names next h [] room (en h (omega arith)) (omega arith) in
    record {
      room = omega arith;
      inverse = record {
        lengths = lp ∙ sym ln;
        next_in = λ i l. omega (arith, en i (omega arith));
        prev_in = λ i l. omega (arith, ep i (omega arith));
        prev_next = λ i l. ap (λ k. get_or prev k 0) (en i (omega arith)) ∙ ep i (omega arith);
        next_prev = λ i l. ap (λ k. get_or next k 0) (ep i (omega arith)) ∙ en i (omega arith);
      };
      leads = λ h room l. subst (λ (xs : List ℕ). Leads names next h (get_or next h 0) xs) (sym (empty h room l)) (en h (omega arith));
      distinct = λ h room l. subst (λ (xs : List ℕ). IsDistinct (λ a b. eqb a b) xs) (sym (empty h room l)) (IsDistinct-nil);
      found = λ x lx ne. absurd (ne (en x (omega arith)));
    }

const-range : (a n : ℕ) → map (λ (i : ℕ). let e : List ℕ = [] in e) (range_with_len a n) ≡ replicate n []
const-range a zero = refl
const-range a (suc n) = ap (λ (r : List (List ℕ)). [] ∷ r) (const-range (a + 1) n)

pub rings-new : (names heads : ℕ) (next prev : List ℕ) → length next ≡ names + heads → length prev ≡ names + heads → ((k : ℕ) → k < names + heads → get_or next k 0 ≡ k) → rings names next ≡ replicate heads []
unfolding rings
rings-new names heads next prev ln lp en =
    map-range (ring names next) (λ i. []) names (length next - names) (λ h room l. ring-leads names next h [] room (en h (omega arith)) (omega arith))
    ∙ const-range names (length next - names) ∙ ap (λ n. replicate n []) (omega arith)

-- A list of the value in which a name stands is the ring of its head.
pub head_from_get : (s : Lists) (h k x : ℕ) → slice_get (get_or s.lists h []) k ≡ Some x → h < length s.lists
head_from_get s h k x e =
    ⊎_elim
    (λ (l : h < length s.lists). l)
    (λ (l : length s.lists ≤ h). let past : get_or s.lists h [] ≡ [] = get_or_past s.lists h [] l in absurd (cc (ap (λ xs. slice_get xs k) past)))
    (cases_lt h (length s.lists))

-- What a caller may know of the lists

pub sound_shown : (names : ℕ) (next prev : List ℕ) (s : Lists) → AreRings names next prev → (let v : Lists = record { names = names; lists = rings names next } in v ≡ s) → AreSound s
sound_shown names next prev s r e =
    let at : (h k x : ℕ) → slice_get (get_or s.lists h []) k ≡ Some x → (names + h < length next) × (slice_get (ring names next (names + h)) k ≡ Some x) = λ h k x t.
    let lh : h < length s.lists = head_from_get s h k x t in
    (node_in names next s h e lh, ap (λ xs. slice_get xs k) (sym (list_in names next s h e lh)) ∙ t) in
    let leads : (h k x : ℕ) → slice_get (get_or s.lists h []) k ≡ Some x
    → Leads names next (names + h) x (drop k (ring names next (names + h))) × (k < length (ring names next (names + h))) × (x < names) = λ h k x t.
    leads-at names next (names + h) (get_or next (names + h) 0) k x (ring names next (names + h)) (r.leads (names + h) (omega arith) (at h k x t).0) (at h k x t).1 in
    record {
      below = λ h k x t. omega (arith, (leads h k x t).2, ap (λ (v : Lists). v.names) e);
      apart = λ h i k j x t u.
          let one : (names + h ≡ names + i) × (length (drop k (ring names next (names + h))) ≡ length (drop j (ring names next (names + i)))) =
          leads-one names next (names + h) (names + i) x (drop k (ring names next (names + h))) (drop j (ring names next (names + i))) (omega arith) (omega arith) (leads h k x t).0 (leads i j x u).0 in
          let same : h ≡ i = omega (arith, one.0) in
          let lens : length (ring names next (names + h)) ≡ length (ring names next (names + i)) = ap (λ n. length (ring names next (names + n))) same in
          (same, omega (arith, one.1, (leads h k x t).1, (leads i j x u).1, lens, length-drop k (ring names next (names + h)), length-drop j (ring names next (names + i))));
      short = λ h. ⊎_elim
          (λ (l : h < length s.lists). omega (arith, ap length (list_in names next s h e l), length-ring names next (names + h), ap (λ (v : Lists). v.names) e))
          (λ (l : length s.lists ≤ h). omega (arith, ap length (get_or_past s.lists h [] l)))
          (cases_lt h (length s.lists));
    }

pub popped_some : (s : Lists) (h x : ℕ) → AreSound s → slice_get (list_at s h) 0 ≡ Some x → taken_out s x ≡ without_first s h
popped_some s h x sound e =
    ap (λ (ls : List (List ℕ)). let v : Lists = record { names = s.names; lists = ls } in v) (without_the_first x h s.lists e (λ i j t. sound.apart i h j 0 x t e))
