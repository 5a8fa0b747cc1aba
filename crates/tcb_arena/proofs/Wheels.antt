-- The fields of a `Wheel` beside the rings of its value, before and after each change.
use Rattle.std.specs.Prelude.{slice_get, Some, None, find, replicate}
use Rattle.std.proofs.Common.{◌≡◌, ℕ, ◌<◌, ◌%◌, true, false, min, List, [], ◌∷◌, ◌++◌, length, map, get_or, set, refl, sym, ◌∙◌, ap, subst, ⊎_elim, arith, zero, suc, get_or-set_same}
use Rattle.std.proofs.lemmas.Bool.{false≢true}
use Rattle.std.proofs.lemmas.List.{length-map, length-set, length-replicate}
use Rattle.l4_core_model.specs.Plain.{put_entry, without_block}
use Rattle.l4_model.specs.World.{is_in}
use Rattle.tcb_arena.specs.Inner.Blocks.{has_entry}
use Rattle.tcb_arena.specs.Inner.Rings.{Lists, no_names, put_before, put_last, taken_out, is_linked, is_in_any, with_before, without}
use Rattle.tcb_arena.specs.Inner.Due.{Due, IsWheel, AreOrdered, AreRings, ArePlaced, IsFloor, none_armed, with_entry, without_entry, shown_due, armed_of, armed_in, entries_in, is_later, put_rings, entry}
use Rattle.tcb_arena.proofs.Lists.{get_or-before, get_or-without, without_all_absent, is_in_any-at}
use Rattle.tcb_arena.proofs.Entries.{E, any-put_rings, all_entries-without, entries-put, entries-without, armed-put, armed-without, placed-put, placed-without, entries-at, entry-from, is_in-get}
use Rattle.tcb_arena.proofs.Floors.{floor-armed, floor-disarmed, get-pushed, get-left}
use Rattle.tcb_arena.proofs.Once.{get-in-any}
use Rattle.tcb_arena.proofs.Ordered.{one-list, order-before, order-last, order-linked}

abbrev due_of : ℕ → List (List E) → Due
due_of blocks rings = record { blocks = blocks; rings = rings }

pub linked-due : (ds : List ℕ) (s : Lists) (v : Due) (b : ℕ) → shown_due ds s ≡ v → is_linked s b ≡ has_entry b (armed_of v)
linked-due ds s v b e = sym (any-put_rings ds b s.lists []) ∙ ap (λ (w : Due). has_entry b (armed_of w)) e

-- A block that is armed stands in a ring.
pub linked-armed : (ds : List ℕ) (s : Lists) (v : Due) (b : ℕ) → ArePlaced 64 ds s → shown_due ds s ≡ v → has_entry b (armed_of v) ≡ true → (is_linked s b ≡ true) × (b < s.names)
linked-armed ds s v b w e h =
    let linked : is_linked s b ≡ true = linked-due ds s v b e ∙ h in
    let at : (i : ℕ) × (k : ℕ) × (slice_get (get_or s.lists i []) k ≡ Some b) = get-in-any b s.lists linked in
    (linked, omega (arith, w.within at.0 at.1 b at.2, w.names))

-- What the rings of the value are.
pub are-rings : (ds : List ℕ) (s : Lists) (v : Due) → ArePlaced 64 ds s → shown_due ds s ≡ v → AreRings v.rings (armed_of v)
are-rings ds s v w e =
    let P : Due → Type 0 = λ (x : Due). AreRings x.rings (armed_of x) in
    subst P e
    (record {
      count = length-map s.lists (map (entry ds)) ∙ w.heads_len;
      placed = λ h k x t.
          let from : (slice_get (get_or s.lists h []) k ≡ Some x.1) × (get_or ds x.1 0 ≡ x.0) = entry-from ds (get_or s.lists h []) k x (ap (λ (ys : List E). slice_get ys k) (sym (entries-at ds s.lists h)) ∙ t) in
          ap (λ n. n % 64) (sym from.1) ∙ w.placed h k x.1 from.0;
      plain = refl;
    })

-- A block is armed

pub shown-armed : (ds : List ℕ) (s t : Lists) (v : Due) (b d : ℕ) → shown_due ds s ≡ v → b < v.blocks → has_entry b (armed_of v) ≡ false → t ≡ put_last s (d % 64) b
    → shown_due (set ds b d) t ≡ with_entry d b v
shown-armed ds s t v b d e lb free put =
    let ld : b < length ds = omega (arith, lb, ap (λ (x : Due). x.blocks) e) in
    ap (shown_due (set ds b d)) put
    ∙ ap (due_of (length (set ds b d))) (entries-put ds b d (d % 64) s.lists ld (linked-due ds s v b e ∙ free))
    ∙ ap (λ m. due_of m (set (entries_in ds s.lists) (d % 64) (get_or (entries_in ds s.lists) (d % 64) [] ++ (d, b) ∷ []))) (length-set ds b d)
    ∙ ap (with_entry d b) e

pub armed-with : (ds : List ℕ) (s : Lists) (v : Due) (b d : ℕ) → ArePlaced 64 ds s → shown_due ds s ≡ v → armed_of (with_entry d b v) ≡ put_entry (d, b) (armed_of v)
armed-with ds s v b d w e =
    let lh : d % 64 < length s.lists = omega (arith, w.heads_len) in
    ap (λ (x : Due). armed_of (with_entry d b x)) (sym e) ∙ armed-put 64 ds b d (d % 64) s.lists lh refl w.placed ∙ ap (λ (x : Due). put_entry (d, b) (armed_of x)) e

pub placed-armed : (ds : List ℕ) (s t : Lists) (v : Due) (b d : ℕ) → ArePlaced 64 ds s → shown_due ds s ≡ v → b < v.blocks → has_entry b (armed_of v) ≡ false → t ≡ put_last s (d % 64) b
    → ArePlaced 64 (set ds b d) t
placed-armed ds s t v b d w e lb free put =
    let r : ℕ = d % 64 in
    let lh : r < length s.lists = omega (arith, w.heads_len) in
    let ld : b < length ds = omega (arith, lb, ap (λ (x : Due). x.blocks) e) in
    let P : Lists → Type 0 = λ (x : Lists). ArePlaced 64 (set ds b d) x in
    subst P (sym put)
    (record {
      names = w.names ∙ sym (length-set ds b d);
      heads_len = length-set s.lists r (get_or s.lists r [] ++ b ∷ []) ∙ w.heads_len;
      within = λ h k x t.
          ⊎_elim
          (λ (p : (h ≡ r) × (b ≡ x)). omega (arith, p.1, ld, length-set ds b d))
          (λ (q : slice_get (get_or s.lists h []) k ≡ Some x). omega (arith, w.within h k x q, length-set ds b d))
          (get-pushed s.lists r b h k x lh t);
      placed = placed-put 64 ds b d r s.lists ld lh refl (linked-due ds s v b e ∙ free) w.placed;
    })

-- All that a wheel keeps, after one more was armed
module _ (ds latest : List ℕ) (s o t u : Lists) (v : Due) (b d r span floor low : ℕ) (k : IsWheel ds s o latest floor) (is : shown_due ds s ≡ v) (lb : b < v.blocks) (free : has_entry b (armed_of v) ≡ false) (er : r ≡ d % 64) (put : t ≡ put_last s r b) (small : low ≡ min floor d) where
  put' : t ≡ put_last s (d % 64) b
  put' = put ∙ ap (λ n. put_last s n b) er

  ld : b < length ds
  ld = omega (arith, lb, ap (λ (x : Due). x.blocks) is)

  lr : r < length s.lists
  lr = omega (arith, k.placed.heads_len, er)

  absent : is_in_any b s.lists ≡ false
  absent = linked-due ds s v b is ∙ free

  in_lists : t.lists ≡ set s.lists r (get_or s.lists r [] ++ b ∷ [])
  in_lists = ap (λ (x : Lists). x.lists) put

  in_armed : armed_in (set ds b d) t.lists ≡ put_entry (d, b) (armed_in ds s.lists)
  in_armed = ap armed_of (shown-armed ds s t v b d is lb free put') ∙ armed-with ds s v b d k.placed is ∙ ap (λ (x : Due). put_entry (d, b) (armed_of x)) (sym is)

  whole_armed : IsFloor low (set ds b d) t.lists
  whole_armed =
      let P : List (List ℕ) → Type 0 = λ (ls : List (List ℕ)). IsFloor low (set ds b d) ls in
      subst P (sym in_lists) (floor-armed floor low ds s.lists b d r ld lr absent (omega (arith, small)) (omega (arith, small)) k.whole_floor)

  made : AreOrdered (set ds b d) t u → IsWheel (set ds b d) t u (set latest span b) low
  made more = record {
    placed = placed-armed ds s t v b d k.placed is lb free put';
    ordered = more;
    spans = length-set latest span b ∙ k.spans ∙ sym (length-set ds b d);
    whole_floor = whole_armed;
  }

  -- It is in no order before.
  pub order-free : is_linked o b ≡ false
  order-free = order-linked ds s o b k.ordered ∙ absent

  lone : is_in b (get_or o.lists 0 []) ≡ false
  lone = sym (one-list b o.lists k.ordered.one) ∙ order-free

  pub wheel-armed_last : find (is_later ds d) (get_or o.lists 0 []) ≡ None → u ≡ put_last o 0 b → IsWheel (set ds b d) t u (set latest span b) low
  wheel-armed_last none last =
      let in_order : get_or u.lists 0 [] ≡ get_or o.lists 0 [] ++ b ∷ [] = ap (λ (x : Lists). get_or x.lists 0 []) last ∙ get_or-set_same o.lists 0 (get_or o.lists 0 [] ++ b ∷ []) [] (omega (arith, k.ordered.one)) in
      made
      (record {
        names = ap (λ (x : Lists). x.names) last ∙ k.ordered.names ∙ sym (length-set ds b d);
        one = ap (λ (x : Lists). length x.lists) last ∙ length-set o.lists 0 (get_or o.lists 0 [] ++ b ∷ []) ∙ k.ordered.one;
        entries =
            ap (map (entry (set ds b d))) in_order ∙ order-last ds b d ld (get_or o.lists 0 []) lone none
            ∙ ap (put_entry (d, b)) k.ordered.entries ∙ sym in_armed;
      })

  pub wheel-armed_before : (at : ℕ) → find (is_later ds d) (get_or o.lists 0 []) ≡ Some at → u ≡ put_before o at b → IsWheel (set ds b d) t u (set latest span b) low
  wheel-armed_before at some before =
      let in_order : get_or u.lists 0 [] ≡ with_before at b (get_or o.lists 0 []) = ap (λ (x : Lists). get_or x.lists 0 []) before ∙ get_or-before at b 0 o.lists in
      made
      (record {
        names = ap (λ (x : Lists). x.names) before ∙ k.ordered.names ∙ sym (length-set ds b d);
        one = ap (λ (x : Lists). length x.lists) before ∙ length-map o.lists (with_before at b) ∙ k.ordered.one;
        entries =
            ap (map (entry (set ds b d))) in_order ∙ order-before ds b d at ld (get_or o.lists 0 []) lone some
            ∙ ap (put_entry (d, b)) k.ordered.entries ∙ sym in_armed;
      })

-- A block is disarmed

pub shown-disarmed : (ds : List ℕ) (s t : Lists) (v : Due) (b : ℕ) → shown_due ds s ≡ v → t ≡ taken_out s b → shown_due ds t ≡ without_entry b v
shown-disarmed ds s t v b e out =
    ap (shown_due ds) out ∙ ap (due_of (length ds)) (all_entries-without ds b s.lists) ∙ ap (without_entry b) e

pub armed-left : (ds : List ℕ) (s : Lists) (v : Due) (b : ℕ) → shown_due ds s ≡ v → armed_of (without_entry b v) ≡ without_block b (armed_of v)
armed-left ds s v b e =
    ap (λ (x : Due). armed_of (without_entry b x)) (sym e) ∙ ap (put_rings []) (sym (all_entries-without ds b s.lists)) ∙ armed-without ds b s.lists ∙ ap (λ (x : Due). without_block b (armed_of x)) e

pub placed-disarmed : (ds : List ℕ) (s t : Lists) (b : ℕ) → ArePlaced 64 ds s → t ≡ taken_out s b → ArePlaced 64 ds t
placed-disarmed ds s t b w out =
    let P : Lists → Type 0 = λ (x : Lists). ArePlaced 64 ds x in
    subst P (sym out)
    (record {
      names = w.names;
      heads_len = length-map s.lists (without b) ∙ w.heads_len;
      within = λ h k x t. let from : (j : ℕ) × (slice_get (get_or s.lists h []) j ≡ Some x) = get-left s.lists b h k x t in w.within h from.0 x from.1;
      placed = placed-without 64 ds b s.lists w.placed;
    })

-- A block that is not armed stands in no ring.
pub none-out : (s : Lists) (b : ℕ) → is_linked s b ≡ false → taken_out s b ≡ s
none-out s b free =
    ap (λ (ls : List (List ℕ)). let v : Lists = record { names = s.names; lists = ls } in v)
    (without_all_absent b s.lists (λ i j t. absurd (false≢true (sym free ∙ is_in_any-at b i s.lists (is_in-get b (get_or s.lists i []) j t)))))

-- All that a wheel keeps, after one was disarmed.
pub wheel-disarmed : (ds latest : List ℕ) (s o t u : Lists) (b floor : ℕ) → IsWheel ds s o latest floor → t ≡ taken_out s b → u ≡ taken_out o b → IsWheel ds t u latest floor
wheel-disarmed ds latest s o t u b floor k out out' =
    let in_lists : t.lists ≡ map (without b) s.lists = ap (λ (x : Lists). x.lists) out in
    let H : List (List ℕ) → Type 0 = λ (ls : List (List ℕ)). IsFloor floor ds ls in
    record {
      placed = placed-disarmed ds s t b k.placed out;
      ordered = record {
        names = ap (λ (x : Lists). x.names) out' ∙ k.ordered.names;
        one = ap (λ (x : Lists). length x.lists) out' ∙ length-map o.lists (without b) ∙ k.ordered.one;
        entries =
            ap (λ (x : Lists). map (entry ds) (get_or x.lists 0 [])) out' ∙ ap (map (entry ds)) (get_or-without b 0 o.lists)
            ∙ entries-without ds b (get_or o.lists 0 []) ∙ ap (without_block b) k.ordered.entries ∙ sym (armed-without ds b s.lists)
            ∙ ap (armed_in ds) (sym in_lists);
      };
      spans = k.spans;
      whole_floor = subst H (sym in_lists) (floor-disarmed floor ds s.lists b k.whole_floor);
    }

-- Where the floor is raised to the first deadline, or beyond all where there is none.
pub wheel-raised : (ds latest : List ℕ) (s o : Lists) (floor low : ℕ) → IsWheel ds s o latest floor → IsFloor low ds s.lists → IsWheel ds s o latest low
wheel-raised ds latest s o floor low k more = record { placed = k.placed; ordered = k.ordered; spans = k.spans; whole_floor = more }

-- No block is armed

rings-none : (ds : List ℕ) (n : ℕ) → map (map (entry ds)) (replicate n []) ≡ replicate n []
rings-none ds zero = refl
rings-none ds (suc n) = ap (λ (r : List (List E)). [] ∷ r) (rings-none ds n)

list-none : (n h : ℕ) → (let e : List ℕ = [] in get_or (replicate n e) h e ≡ e)
list-none zero h = refl
list-none (suc n) zero = refl
list-none (suc n) (suc h) = list-none n h

pub shown-none : (blocks : ℕ) (ds : List ℕ) (s : Lists) → length ds ≡ blocks → s ≡ no_names blocks 64 → shown_due ds s ≡ none_armed blocks
shown-none blocks ds s l e =
    ap (shown_due ds) e ∙ ap (due_of (length ds)) (rings-none ds 64) ∙ ap (λ m. due_of m (replicate 64 [])) l

nowhere : (blocks : ℕ) (s : Lists) (h k x : ℕ) → s ≡ no_names blocks 64 → slice_get (get_or s.lists h []) k ≡ Some x → ⊥
nowhere blocks s h k x e t =
    let none : slice_get (get_or s.lists h []) k ≡ None = ap (λ (v : Lists). slice_get (get_or v.lists h []) k) e ∙ ap (λ (ys : List ℕ). slice_get ys k) (list-none 64 h) in cc

pub wheel-none : (blocks floor : ℕ) (ds latest : List ℕ) (s o : Lists) → length ds ≡ blocks → length latest ≡ blocks → s ≡ no_names blocks 64 → o ≡ no_names blocks 1 → IsWheel ds s o latest floor
wheel-none blocks floor ds latest s o l m e p = record {
  placed = record {
    names = ap (λ (v : Lists). v.names) e ∙ sym l;
    heads_len = ap (λ (v : Lists). length v.lists) e ∙ (let n : List ℕ = [] in length-replicate 64 n);
    within = λ h k x t. absurd (nowhere blocks s h k x e t);
    placed = λ h k x t. absurd (nowhere blocks s h k x e t);
  };
  ordered = record {
    names = ap (λ (v : Lists). v.names) p ∙ sym l;
    one = ap (λ (v : Lists). length v.lists) p;
    entries =
        ap (λ (v : Lists). map (entry ds) (get_or v.lists 0 [])) p
        ∙ sym (ap (λ (v : Lists). armed_in ds v.lists) e ∙ ap (put_rings []) (rings-none ds 64));
  };
  spans = m ∙ sym l;
  whole_floor = record { below = λ h k x t. absurd (nowhere blocks s h k x e t) };
}
