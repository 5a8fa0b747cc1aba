-- Ports that get further ends.
use Rattle.std.proofs.Common.{◌≡◌, ◌≢◌, ℕ, zero, suc, ◌+◌, ◌<◌, List, [], ◌∷◌, ◌++◌, length, map, set, get_or, subst, refl, sym, ap, ◌∙◌, arith, Option, Some, None, slice_get, ◌⊎◌, ⊎_elim, inl, inr, vec_len}
use Rattle.std.proofs.lemmas.Option.{none-some, slice_get_within}
use Rattle.std.proofs.lemmas.List.{length-map, length-set, length-append, map-append, get_or_append_left}
use Rattle.std.proofs.Math.Seq.{get_or-append_seam}
use Rattle.l4_mail.specs.declared.outlets.Outlet.{Outlet}
use Rattle.l4_mail.specs.declared.inlets.Inlet.{Inlet}
use Rattle.l4_mail.specs.declared.ports.Port.{Port}
use Rattle.l4_mail.specs.Ends.{RingId, ring_out, posted, ring_in, taken, kept}
use Rattle.l4_mail.specs.Ports.{Place, place, HasWayTo, IsWay, AreOneFabric}
use Rattle.l4_mail.specs.Inner.Fabrics.{HaveRooms, AreFresh, GainsOutlet, GainsInlet, IsMember, AreMembers, AreJoined}

pub some_within : {A : Type 0} (l : List (Option A)) (k : ℕ) (x : A) → get_or l k None ≡ Some x → k < length l
some_within [] k x e = absurd (none-some x e)
some_within (a ∷ l) zero x e = omega arith
some_within (a ∷ l) (suc k) x e = let lt = some_within l k x e in omega arith

some_longer : {A : Type 0} (l more : List (Option A)) (y : Option A) (k : ℕ) (x : A) → more ≡ l ++ y ∷ [] → get_or l k None ≡ Some x → get_or more k None ≡ Some x
some_longer l more y k x e h = ap (λ v. get_or v k None) e ∙ get_or_append_left l (y ∷ []) None k (some_within l k x h) ∙ h

some_last : {A : Type 0} (l more : List A) (y d : A) (k : ℕ) → more ≡ l ++ y ∷ [] → length l ≡ k → get_or more k d ≡ y
some_last l more y d k e len = ap (λ v. get_or v k d) e ∙ ap (λ j. get_or (l ++ y ∷ []) j d) (sym len) ∙ get_or-append_seam l y [] d

none_longer : {B : Type 0} (l more : List (List B)) → more ≡ l ++ [] ∷ [] → ((k : ℕ) → get_or l k [] ≡ []) → (k : ℕ) → get_or more k [] ≡ []
none_longer l more e h k = ap (λ v. get_or v k []) e ∙ walk l h k
  where
    walk : {B : Type 0} (l : List (List B)) → ((k : ℕ) → get_or l k [] ≡ []) → (k : ℕ) → get_or (l ++ [] ∷ []) k [] ≡ []
    walk [] h zero = refl
    walk [] h (suc k) = refl
    walk (x ∷ l) h zero = h zero
    walk (x ∷ l) h (suc k) = walk l (λ j. h (suc j)) k

from_some : {A : Type 0} → A → Option A → A
from_some a None = a
from_some a (Some x) = x

pub some_is : {A : Type 0} (a b : A) → Some a ≡ Some b → a ≡ b
unfolding from_some
some_is a b e = ap (from_some a) e

-- A ring that may be none has room for so many letters.
abbrev Fits : (room : ℕ) → Option RingId → Type 0
Fits room out = (ring : RingId) → out ≡ Some ring → ring.capacity ≡ room

none_fits : (room : ℕ) → Fits room None
none_fits room ring e = absurd (none-some ring e)

some_fits : (room : ℕ) (ring : RingId) → ring.capacity ≡ room → Fits room (Some ring)
some_fits room ring e other same = ap (λ (r : RingId). r.capacity) (sym (some_is ring other same)) ∙ e

rooms_longer : (room : ℕ) (l more : List (Option RingId)) (y : Option RingId) → more ≡ l ++ y ∷ [] → HaveRooms room l → Fits room y
    → HaveRooms room more
rooms_longer room l more y e h f k ring is = walk room l y h f k ring (ap (λ v. get_or v k None) (sym e) ∙ is)
  where
    walk : (room : ℕ) (l : List (Option RingId)) (y : Option RingId) → HaveRooms room l → Fits room y → HaveRooms room (l ++ y ∷ [])
    walk room [] y h f zero ring is = f ring is
    walk room [] y h f (suc k) ring is = absurd (none-some ring is)
    walk room (x ∷ l) y h f zero ring is = h zero ring is
    walk room (x ∷ l) y h f (suc k) ring is = walk room l y (λ j. h (suc j)) f k ring is

-- The port has got one end more of each kind.
pub record Grown (old new : Port) (out in_ : Option RingId) : Type 0 where
  pub cpu : new.cpu ≡ old.cpu
  pub outs : map ring_out new.outlets.items ≡ map ring_out old.outlets.items ++ out ∷ []
  pub ins : map ring_in new.inlets.items ≡ map ring_in old.inlets.items ++ in_ ∷ []
  pub posts : map posted new.outlets.items ≡ map posted old.outlets.items ++ [] ∷ []
  pub takes : map taken new.inlets.items ≡ map taken old.inlets.items ++ [] ∷ []
  pub keeps : map kept new.inlets.items ≡ map kept old.inlets.items ++ [] ∷ []

pub out_then_in : (old mid new : Port) (out in_ : Option RingId) → GainsOutlet old mid out → GainsInlet mid new in_ → Grown old new out in_
out_then_in old mid new out in_ a b = record {
  cpu = b.cpu ∙ a.cpu;
  outs = ap (λ v. map ring_out v.items) b.outlets ∙ a.rings;
  ins = b.rings ∙ ap (λ v. map ring_in v.items ++ in_ ∷ []) a.inlets;
  posts = ap (λ v. map posted v.items) b.outlets ∙ a.posted;
  takes = b.taken ∙ ap (λ v. map taken v.items ++ [] ∷ []) a.inlets;
  keeps = b.kept ∙ ap (λ v. map kept v.items ++ [] ∷ []) a.inlets;
}

pub in_then_out : (old mid new : Port) (out in_ : Option RingId) → GainsInlet old mid in_ → GainsOutlet mid new out → Grown old new out in_
in_then_out old mid new out in_ b a = record {
  cpu = a.cpu ∙ b.cpu;
  outs = a.rings ∙ ap (λ v. map ring_out v.items ++ out ∷ []) b.outlets;
  ins = ap (λ v. map ring_in v.items) a.inlets ∙ b.rings;
  posts = a.posted ∙ ap (λ v. map posted v.items ++ [] ∷ []) b.outlets;
  takes = ap (λ v. map taken v.items) a.inlets ∙ b.taken;
  keeps = ap (λ v. map kept v.items) a.inlets ∙ b.kept;
}

one_longer : {A B : Type 0} (f : A → B) (l more : List A) (y : B) (n : ℕ) → map f more ≡ map f l ++ y ∷ [] → length l ≡ n → length more ≡ n + 1
one_longer f l more y n e len =
    let a = length-map more f in let b = length-map l f in let c = length-append (map f l) (y ∷ []) in let d = ap length e in omega arith

none_there : {A : Type 0} (l : List (Option A)) (y : Option A) (i : ℕ) → (i ≡ length l → y ≡ None) → get_or l i None ≡ None → get_or (l ++ y ∷ []) i None ≡ None
none_there [] y zero here none = here refl
none_there [] y (suc i) here none = refl
none_there (x ∷ l) y zero here none = none
none_there (x ∷ l) y (suc i) here none = none_there l y i (λ same. here (ap suc same)) none

none_at : {A : Type 0} (l more : List (Option A)) (y : Option A) (i n : ℕ) → more ≡ l ++ y ∷ [] → length l ≡ n → (i ≡ n → y ≡ None) → get_or l i None ≡ None →
    get_or more i None ≡ None
none_at l more y i n e len here none = ap (λ v. get_or v i None) e ∙ none_there l y i (λ same. here (same ∙ len)) none

-- At its own place it has got no end.
member_grown : {room : ℕ} (n i : ℕ) (old new : Port) (out in_ : Option RingId) → (i ≡ n → (out ≡ None) × (in_ ≡ None)) → Fits room out → Grown old new out in_ → IsMember room n i old →
    IsMember room (n + 1) i new
member_grown n i old new out in_ own fits g m = record {
  cpu = g.cpu ∙ m.cpu;
  outlets = one_longer ring_out old.outlets.items new.outlets.items out n g.outs m.outlets;
  inlets = one_longer ring_in old.inlets.items new.inlets.items in_ n g.ins m.inlets;
  rooms = rooms_longer _ _ _ out g.outs m.rooms fits;
  out = none_at _ _ out i n g.outs (length-map old.outlets.items ring_out ∙ m.outlets) (λ same. (own same).0) m.out;
  in_ = none_at _ _ in_ i n g.ins (length-map old.inlets.items ring_in ∙ m.inlets) (λ same. (own same).1) m.in_;
  posted = none_longer _ _ g.posts m.posted;
  taken = none_longer _ _ g.takes m.taken;
  kept = none_longer _ _ g.keeps m.kept;
}

-- The port has all ways that it had.
record Longer (old new : Port) : Type 0 where
  pub cpu : new.cpu ≡ old.cpu
  pub outs : (k : ℕ) (ring : RingId) → get_or (map ring_out old.outlets.items) k None ≡ Some ring → get_or (map ring_out new.outlets.items) k None ≡ Some ring
  pub ins : (k : ℕ) (ring : RingId) → get_or (map ring_in old.inlets.items) k None ≡ Some ring → get_or (map ring_in new.inlets.items) k None ≡ Some ring

as_long : (p : Port) → Longer p p
as_long p = record { cpu = refl; outs = λ k ring e. e; ins = λ k ring e. e }

longer : (old new : Port) (out in_ : Option RingId) → Grown old new out in_ → Longer old new
longer old new out in_ g = record {
  cpu = g.cpu;
  outs = λ k ring e. some_longer _ _ out k ring g.outs e;
  ins = λ k ring e. some_longer _ _ in_ k ring g.ins e;
}

way_longer : (p p' q q' : Port) → Longer p p' → Longer q q' → IsWay (place p) (place q) → IsWay (place p') (place q')
way_longer p p' q q' a b w = (
  w.0,
  ap (λ j. get_or (map ring_out p'.outlets.items) j None) b.cpu ∙ a.outs q.cpu w.0 w.1,
  ap (λ j. get_or (map ring_in q'.inlets.items) j None) a.cpu ∙ b.ins p.cpu w.0 w.2,
)

-- The way that two ports have got between them.
new_way : (n k i j : ℕ) (p p' q q' : Port) (ring : RingId) (in_ out : Option RingId) → Grown p p' (Some ring) in_ → Grown q q' out (Some ring) → p.cpu ≡ i → q.cpu ≡ j → length p.outlets.items ≡ j → length q.inlets.items ≡ i → IsWay (place p') (place q')
new_way n k i j p p' q q' ring in_ out a b c d x y = (
  ring,
  some_last (map ring_out p.outlets.items) (map ring_out p'.outlets.items) (Some ring) None q'.cpu a.outs (length-map p.outlets.items ring_out ∙ x ∙ sym (b.cpu ∙ d)),
  some_last (map ring_in q.inlets.items) (map ring_in q'.inlets.items) (Some ring) None p'.cpu b.ins (length-map q.inlets.items ring_in ∙ y ∙ sym (a.cpu ∙ c)),
)

pub set_case : {A : Type 0} (l : List A) (k i : ℕ) (y s : A) → slice_get (set l k y) i ≡ Some s → ((i ≡ k) × (y ≡ s)) ⊎ ((i ≢ k) × (slice_get l i ≡ Some s))
set_case [] k i y s e = inr ((λ f. let lt = slice_get_within [] i s e in omega arith), e)
set_case (x ∷ l) zero zero y s e = inl (refl, some_is y s e)
set_case (x ∷ l) zero (suc i) y s e = inr ((λ f. omega arith), e)
set_case (x ∷ l) (suc k) zero y s e = inr ((λ f. omega arith), e)
set_case (x ∷ l) (suc k) (suc i) y s e = ⊎_elim (λ t. inl (ap suc t.0, t.1)) (λ t. let n = t.0 in inr ((λ f. n (omega arith)), t.1)) (set_case l k i y s e)

end_case : {A : Type 0} (l : List A) (y : A) (i : ℕ) (x : A) → slice_get (l ++ y ∷ []) i ≡ Some x → (slice_get l i ≡ Some x) ⊎ ((i ≡ length l) × (y ≡ x))
end_case [] y zero x e = inr (refl, some_is y x e)
end_case [] y (suc i) x e = inl e
end_case (a ∷ l) y zero x e = inl e
end_case (a ∷ l) y (suc i) x e = ⊎_elim inl (λ t. inr (ap suc t.0, t.1)) (end_case l y i x e)

-- One port more has ways to the next one and back.
pub joined_more : (room n k : ℕ) (ports : List Port) (p p' q q' : Port) (r s : RingId) → r.capacity ≡ room → s.capacity ≡ room → AreJoined room n k ports q → slice_get ports k ≡ Some p → Grown p p' (Some r) (Some s) → Grown q q' (Some s) (Some r) → AreJoined room n (k + 1) (set ports k p') q'
joined_more room n k ports p p' q q' r s fits_r fits_s h at a b =
    let m = h.later k p at (omega arith) in
    let below : k < n = (let lt = slice_get_within ports k p at in let c = h.count in omega arith) in
    let la = longer p p' (Some r) (Some s) a in let lb = longer q q' (Some s) (Some r) b in
    record {
      count = length-set ports k p' ∙ h.count;
      next = member_grown k n q q' (Some s) (Some r) (λ same. absurd (omega arith)) (some_fits _ s fits_s) b h.next;
      joined = λ i x e lt. ⊎_elim
          (λ (t : (i ≡ k) × (p' ≡ x)). subst (λ y. IsMember room (n + 1) i y × IsWay (place y) (place q') × IsWay (place q') (place y)) t.1 (
            subst (λ j. IsMember room (n + 1) j p') (sym t.0) (member_grown n k p p' (Some r) (Some s) (λ same. absurd (omega arith)) (some_fits _ r fits_r) a m),
            new_way n k k n p p' q q' r (Some s) (Some s) a b m.cpu h.next.cpu m.outlets h.next.inlets,
            new_way n k n k q q' p p' s (Some r) (Some r) b a h.next.cpu m.cpu h.next.outlets m.inlets,
          ))
          (λ (t : (i ≢ k) × (slice_get ports i ≡ Some x)). let ne = t.0 in let o = h.joined i x t.1 (omega arith) in (
            o.0,
            way_longer x x q q' (as_long x) lb o.1,
            way_longer q q' x x lb (as_long x) o.2,
          ))
          (set_case ports k i p' x e);
      later = λ i x e le. ⊎_elim
          (λ (t : (i ≡ k) × (p' ≡ x)). absurd (let f = t.0 in omega arith))
          (λ (t : (i ≢ k) × (slice_get ports i ≡ Some x)). h.later i x t.1 (omega arith))
          (set_case ports k i p' x e);
      ways = λ i j x y e f ne. ⊎_elim
          (λ (t : (i ≡ k) × (p' ≡ x)). ⊎_elim
          (λ (u : (j ≡ k) × (p' ≡ y)). absurd (ne (t.0 ∙ sym u.0)))
          (λ (u : (j ≢ k) × (slice_get ports j ≡ Some y)). subst (λ z. IsWay (place z) (place y)) t.1 (way_longer p p' y y la (as_long y) (h.ways k j p y at u.1 (λ g. u.0 (sym g)))))
          (set_case ports k j p' y f))
          (λ (t : (i ≢ k) × (slice_get ports i ≡ Some x)). ⊎_elim
          (λ (u : (j ≡ k) × (p' ≡ y)). subst (λ z. IsWay (place x) (place z)) u.1 (way_longer x x p p' (as_long x) la (h.ways i k x p t.1 at t.0)))
          (λ (u : (j ≢ k) × (slice_get ports j ≡ Some y)). h.ways i j x y t.1 u.1 ne)
          (set_case ports k j p' y f))
          (set_case ports k i p' x e);
    }

-- The next port stands behind those that it has ways to.
pub all_joined : (room n : ℕ) (ports : List Port) (q q' : Port) → AreJoined room n n ports q → Grown q q' None None → AreMembers room (n + 1) (ports ++ q' ∷ [])
all_joined room n ports q q' h b =
    let lb = longer q q' None None b in
    let first : (i : ℕ) (x : Port) → slice_get ports i ≡ Some x → i < n = (λ i x e. let lt = slice_get_within ports i x e in let c = h.count in omega arith) in
    record {
      count = (let a = h.count in let c = length-append ports (q' ∷ []) in omega arith);
      each = λ i x e. ⊎_elim
          (λ (t : slice_get ports i ≡ Some x). (h.joined i x t (first i x t)).0)
          (λ (t : (i ≡ length ports) × (q' ≡ x)). subst (λ y. IsMember room (n + 1) i y) t.1 (subst (λ j. IsMember room (n + 1) j q') (sym (t.0 ∙ h.count)) (member_grown n n q q' None None (λ same. (refl, refl)) (none_fits _) b h.next)))
          (end_case ports q' i x e);
      ways = λ i j x y e f ne. ⊎_elim
          (λ (t : slice_get ports i ≡ Some x). ⊎_elim
          (λ (u : slice_get ports j ≡ Some y). h.ways i j x y t u ne)
          (λ (u : (j ≡ length ports) × (q' ≡ y)). subst (λ z. IsWay (place x) (place z)) u.1 (way_longer x x q q' (as_long x) lb (h.joined i x t (first i x t)).1))
          (end_case ports q' j y f))
          (λ (t : (i ≡ length ports) × (q' ≡ x)). ⊎_elim
          (λ (u : slice_get ports j ≡ Some y). subst (λ z. IsWay (place z) (place y)) t.1 (way_longer q q' y y lb (as_long y) (h.joined j y u (first j y u)).2))
          (λ (u : (j ≡ length ports) × (q' ≡ y)). absurd (ne (t.0 ∙ sym u.0)))
          (end_case ports q' j y f))
          (end_case ports q' i x e);
    }

-- An element of a list to which a function was applied.
pub made_of : {A B : Type 0} (f : A → B) (l : List A) (i : ℕ) (b : B) → slice_get (map f l) i ≡ Some b → (a : A) × (slice_get l i ≡ Some a) × (f a ≡ b)
made_of f [] i b e = absurd (let lt = slice_get_within [] i b e in omega arith)
made_of f (x ∷ l) zero b e = (x, refl, some_is (f x) b e)
made_of f (x ∷ l) (suc i) b e = made_of f l i b e

all_linked : {room : ℕ} (n : ℕ) (ports : List Port) → AreMembers room n ports → AreOneFabric ports
unfolding made_of
all_linked n ports h i j a b e f ne =
    let p = made_of place ports i a e in
    let q = made_of place ports j b f in
    subst (λ (x : Place). (x.cpu ≢ b.cpu) × IsWay x b) p.2 (subst (λ (y : Place). ((place p.0).cpu ≢ y.cpu) × IsWay (place p.0) y) q.2 (
      (λ same. ne (sym (h.each i p.0 p.1).cpu ∙ same ∙ (h.each j q.0 q.1).cpu)),
      h.ways i j p.0 q.0 p.1 q.1 ne,
    ))

read : {A : Type 0} (l : List A) (i : ℕ) → i < length l → (x : A) × (slice_get l i ≡ Some x)
read [] i lt = absurd (omega arith)
read (a ∷ l) zero lt = (a, refl)
read (a ∷ l) (suc i) lt = read l i (omega arith)

way_to : (p q : Port) (to : ℕ) → q.cpu ≡ to → IsWay (place p) (place q) → HasWayTo p to
way_to p q to e w = (w.0, ap (λ j. get_or (map ring_out p.outlets.items) j None) (sym e) ∙ w.1)

pub fresh : {room : ℕ} (n : ℕ) (ports : List Port) → AreMembers room n ports → AreFresh room n ports
fresh n ports h = record {
  count = h.count;
  one = all_linked n ports h;
  cpu = λ i p e. (h.each i p e).cpu;
  size = λ i p e. (h.each i p e).outlets;
  ways = λ i p e to lt ne.
      let q = read ports to (let c = h.count in omega arith) in
      way_to p q.0 to (h.each to q.0 q.1).cpu (h.ways i to p q.0 e q.1 (λ f. ne (sym f)));
  apart = λ i p e.
      let m = h.each i p e in
      record {
        out = ap (λ k. get_or (map ring_out p.outlets.items) k None) m.cpu ∙ m.out;
        in_ = ap (λ k. get_or (map ring_in p.inlets.items) k None) m.cpu ∙ m.in_;
        size = length-map p.inlets.items ring_in ∙ m.inlets ∙ sym m.outlets ∙ sym (length-map p.outlets.items ring_out);
      };
  rooms = λ i p e. (h.each i p e).rooms;
  posted = λ i p e. (h.each i p e).posted;
  taken = λ i p e. (h.each i p e).taken;
  kept = λ i p e. (h.each i p e).kept;
}

pub outlet_gained : (old new : Port) (o : Option Outlet) (ring : Option RingId) → new.cpu ≡ old.cpu → new.inlets ≡ old.inlets → new.outlets.items ≡ old.outlets.items ++ o ∷ [] → ring_out o ≡ ring → posted o ≡ [] → GainsOutlet old new ring
outlet_gained old new o ring c i e r n = record {
  cpu = c;
  rings = ap (map ring_out) e ∙ map-append ring_out old.outlets.items (o ∷ []) ∙ ap (λ x. map ring_out old.outlets.items ++ x ∷ []) r;
  posted = ap (map posted) e ∙ map-append posted old.outlets.items (o ∷ []) ∙ ap (λ x. map posted old.outlets.items ++ x ∷ []) n;
  inlets = i;
}

pub inlet_gained : (old new : Port) (i : Option Inlet) (ring : Option RingId) → new.cpu ≡ old.cpu → new.outlets ≡ old.outlets → new.inlets.items ≡ old.inlets.items ++ i ∷ [] → ring_in i ≡ ring → taken i ≡ [] → kept i ≡ [] → GainsInlet old new ring
inlet_gained old new i ring c o e r t k = record {
  cpu = c;
  rings = ap (map ring_in) e ∙ map-append ring_in old.inlets.items (i ∷ []) ∙ ap (λ x. map ring_in old.inlets.items ++ x ∷ []) r;
  taken = ap (map taken) e ∙ map-append taken old.inlets.items (i ∷ []) ∙ ap (λ x. map taken old.inlets.items ++ x ∷ []) t;
  kept = ap (map kept) e ∙ map-append kept old.inlets.items (i ∷ []) ∙ ap (λ x. map kept old.inlets.items ++ x ∷ []) k;
  outlets = o;
}

pub stands_there : {A : Type 0} (l : List A) (i : ℕ) (d : A) → i < length l → slice_get l i ≡ Some (get_or l i d)
stands_there [] i d lt = absurd (omega arith)
stands_there (a ∷ l) zero d lt = refl
stands_there (a ∷ l) (suc i) d lt = stands_there l i d (omega arith)

-- The port has got its own place, at which it has no ends.
pub own_place : (old new : Port) → new.cpu ≡ old.cpu → new.outlets.items ≡ old.outlets.items ++ None ∷ [] → new.inlets.items ≡ old.inlets.items ++ None ∷ [] → Grown old new None None
own_place old new c o i = record {
  cpu = c;
  outs = ap (map ring_out) o ∙ map-append ring_out old.outlets.items (None ∷ []);
  ins = ap (map ring_in) i ∙ map-append ring_in old.inlets.items (None ∷ []);
  posts = ap (map posted) o ∙ map-append posted old.outlets.items (None ∷ []);
  takes = ap (map taken) i ∙ map-append taken old.inlets.items (None ∷ []);
  keeps = ap (map kept) i ∙ map-append kept old.inlets.items (None ∷ []);
}

-- The ends that two ports have got before there is a way between them are few enough.
pub few_ends : {room : ℕ} (n k : ℕ) (p q : Port) → IsMember room n k p → IsMember room k n q → k < n → n < 16 → (vec_len p.outlets < 16) × (vec_len q.inlets < 16)
few_ends n k p q m next lt few = (
  (let a = m.outlets in let b = p.outlets.ok.0 in omega arith),
  (let a = next.inlets in let b = q.inlets.ok.0 in omega arith),
)

-- So they are before there is a way back.
pub few_back : {room : ℕ} (n k : ℕ) (p p' q q' : Port) (out in_ : Option RingId) → IsMember room n k p → IsMember room k n q → k < n → n < 16 → GainsOutlet p p' out → GainsInlet q q' in_ →
    (vec_len q'.outlets < 16) × (vec_len p'.inlets < 16)
few_back n k p p' q q' out in_ m next lt few a b = (
  subst (λ v. vec_len v < 16) (sym b.outlets) (let d = next.outlets in let e = q.outlets.ok.0 in omega arith),
  subst (λ v. vec_len v < 16) (sym a.inlets) (let d = m.inlets in let e = p.inlets.ok.0 in omega arith),
)
