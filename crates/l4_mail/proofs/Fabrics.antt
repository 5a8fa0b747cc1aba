-- Ports of one fabric, of which the way between two comes to rest.
use Rattle.std.proofs.Common.{◌≡◌, ◌≢◌, true, false, ℕ, zero, suc, ◌<◌, ◌≤◌, List, [], ◌∷◌, ◌++◌, length, map, set, get_or, subst, refl, sym, ap, ap₂, ◌∙◌, ⊎_elim, arith, Option, Some, slice_get}
use Rattle.std.specs.Prelude.{Result, Ok, Err, OnOk}
use Rattle.std.specs.Vec.{with_item}
use Rattle.std.specs.Option.{option_map}
use Rattle.std.proofs.lemmas.Bool.Decides.{eqb_tells}
use Rattle.std.proofs.lemmas.Option.{slice_get-map, slice_get_within, get_or_from_slice_get}
use Rattle.std.proofs.lemmas.List.{length-map, map-append, map-set}
use Rattle.std.proofs.Math.Seq.{map-set_same}
use Rattle.l4_mail.specs.declared.outlets.Outlet.{Outlet}
use Rattle.l4_mail.specs.declared.inlets.Inlet.{Inlet}
use Rattle.l4_mail.specs.declared.ports.Port.{Port}
use Rattle.l4_mail.specs.Ends.{ring_out, posted, ring_in, taken, kept}
use Rattle.l4_mail.specs.Ports.{place, Account, account, Carried, carried, kept_from, IsWay, AreLinked, AreOneFabric, IsWhole, IsWholeAt}
use Rattle.l4_mail.specs.Rests.{IsRested}
use Rattle.l4_mail.proofs.Growing.{set_case, stands_there, some_within}
use Rattle.l4_mail.proofs.Rows.{set_here, set_elsewhere}

same_there : {B : Type 0} (l : List B) (i : ℕ) (a b : B) → slice_get l i ≡ Some a → slice_get l i ≡ Some b → a ≡ b
same_there l i a b e f = sym (get_or_from_slice_get l i a a e) ∙ get_or_from_slice_get l i b a f

accounted_places : (ports : List Port) → map place ports ≡ map (λ (c : Account). c.place) (map account ports)
accounted_places [] = refl
accounted_places (p ∷ ports) = ap (λ l. place p ∷ l) (accounted_places ports)

pub fabric_kept : (olds news : List Port) → map account news ≡ map account olds → AreOneFabric olds → AreOneFabric news
fabric_kept olds news e h = subst AreLinked (accounted_places olds ∙ ap (map (λ (c : Account). c.place)) (sym e) ∙ sym (accounted_places news)) h

carried_places : (ports : List Port) → map place ports ≡ map (λ (c : Carried). c.account.place) (map carried ports)
carried_places [] = refl
carried_places (p ∷ ports) = ap (λ l. place p ∷ l) (carried_places ports)

abbrev HaveNumbers : List Carried → Type 0
HaveNumbers cs = (i j : ℕ) (a b : Carried) → slice_get cs i ≡ Some a → slice_get cs j ≡ Some b → i ≢ j → a.account.place.cpu ≢ b.account.place.cpu

numbered : (ports : List Port) → AreOneFabric ports → HaveNumbers (map carried ports)
numbered ports h i j a b e f ne =
    let at : (k : ℕ) (c : Carried) → slice_get (map carried ports) k ≡ Some c → slice_get (map place ports) k ≡ Some c.account.place =
    (λ k c g. ap (λ l. slice_get l k) (carried_places ports) ∙ slice_get-map (λ (x : Carried). x.account.place) (map carried ports) k ∙ ap (option_map (λ (x : Carried). x.account.place)) g) in
    (h i j a.account.place b.account.place (at i a e) (at j b f) ne).0

-- One account is replaced by an equal one, which keeps more letters of one processor.
whole_from : (a b c : Carried) → c.account ≡ b.account → c.kept a.account.place.cpu ≡ b.kept a.account.place.cpu → IsWhole a b → IsWhole a c
whole_from a b c e k h = ap (λ (x : Account). a.account.posted x.place.cpu) e ∙ h ∙ ap₂ (λ u v. u ++ v) (ap (λ (x : Account). x.taken a.account.place.cpu) (sym e)) (sym k)

whole_to : (a b c : Carried) → c.account ≡ a.account → IsWhole a b → IsWhole c b
whole_to a b c e h = subst (λ (x : Account). x.posted b.account.place.cpu ≡ b.account.taken x.place.cpu ++ b.kept x.place.cpu) (sym e) h

one_stays : (cs : List Carried) (from to : ℕ) (a b c : Carried) → slice_get cs from ≡ Some a → slice_get cs to ≡ Some b → HaveNumbers cs → c.account ≡ b.account
    → ((k : ℕ) → k ≢ a.account.place.cpu → c.kept k ≡ b.kept k) → IsWhole a c → (i j : ℕ) → IsWholeAt cs i j → IsWholeAt (set cs to c) i j
one_stays cs from to a b c at_from at_to numbers acc others whole i j h ne x y e f = ⊎_elim
    (λ (t : (j ≡ to) × (c ≡ y)). subst (λ z. IsWhole x z) t.1 (⊎_elim
    (λ (u : (i ≡ to) × (c ≡ x)). absurd (ne (u.0 ∙ sym t.0)))
    (λ (u : (i ≢ to) × (slice_get cs i ≡ Some x)). ⊎_elim
    (λ v. subst (λ z. IsWhole z c) (same_there cs from a x at_from (ap (λ k. slice_get cs k) (sym v.1) ∙ u.1)) whole)
    (λ v. whole_from x b c acc (others x.account.place.cpu (numbers i from x a u.1 at_from v.1)) (h ne x b u.1 (ap (λ k. slice_get cs k) t.0 ∙ at_to)))
    (eqb_tells i from))
    (set_case cs to i c x e)))
    (λ (t : (j ≢ to) × (slice_get cs j ≡ Some y)). ⊎_elim
    (λ (u : (i ≡ to) × (c ≡ x)). subst (λ z. IsWhole z y) u.1 (whole_to b y c acc (h ne b y (ap (λ k. slice_get cs k) u.0 ∙ at_to) t.1)))
    (λ (u : (i ≢ to) × (slice_get cs i ≡ Some x)). h ne x y u.1 t.1)
    (set_case cs to i c x e))
    (set_case cs to j c y f)

one_whole : (cs : List Carried) (from to : ℕ) (a c : Carried) → slice_get cs from ≡ Some a → to < length cs → IsWhole a c → IsWholeAt (set cs to c) from to
one_whole cs from to a c at_from lt whole ne x y e f = ⊎_elim
    (λ (t : (to ≡ to) × (c ≡ y)). subst (λ z. IsWhole x z) t.1 (⊎_elim
    (λ (u : (from ≡ to) × (c ≡ x)). absurd (ne u.0))
    (λ (u : (from ≢ to) × (slice_get cs from ≡ Some x)). subst (λ z. IsWhole z c) (same_there cs from a x at_from u.1) whole)
    (set_case cs to from c x e)))
    (λ (t : (to ≢ to) × (slice_get cs to ≡ Some y)). absurd (t.0 refl))
    (set_case cs to to c y f)

-- A list in two parts, of which one element is replaced.
set_front : {A : Type 0} (l r : List A) (i : ℕ) (y : A) → i < length l → set l i y ++ r ≡ set (l ++ r) i y
set_front [] r i y lt = absurd (omega arith)
set_front (x ∷ l) r zero y lt = refl
set_front (x ∷ l) r (suc i) y lt = ap (λ v. x ∷ v) (set_front l r i y (omega arith))

set_back : {A : Type 0} (l r : List A) (j : ℕ) (y : A) → length l ≡ j → l ++ set r 0 y ≡ set (l ++ r) j y
set_back [] r zero y e = refl
set_back [] r (suc j) y e = absurd (omega arith)
set_back (x ∷ l) r zero y e = absurd (omega arith)
set_back (x ∷ l) r (suc j) y e = ap (λ v. x ∷ v) (set_back l r j y (omega arith))

pub at_front : {A : Type 0} (l r : List A) (i : ℕ) (d : A) → i < length l → get_or (l ++ r) i d ≡ get_or l i d
at_front [] r i d lt = absurd (omega arith)
at_front (x ∷ l) r zero d lt = refl
at_front (x ∷ l) r (suc i) d lt = at_front l r i d (omega arith)

pub at_back : {A : Type 0} (l r : List A) (j : ℕ) (d : A) → length l ≡ j → get_or (l ++ r) j d ≡ get_or r 0 d
at_back [] r zero d e = refl
at_back [] r (suc j) d e = absurd (omega arith)
at_back (x ∷ l) r zero d e = absurd (omega arith)
at_back (x ∷ l) r (suc j) d e = at_back l r j d (omega arith)

-- One port of each part, as elements of the whole list.
pub port_in_front : (l r all : List Port) (i : ℕ) (d : Port) → all ≡ l ++ r → i < length l → i < length all → slice_get all i ≡ Some (get_or l i d)
port_in_front l r all i d whole lt lt' = stands_there all i d lt' ∙ ap Some (ap (λ v. get_or v i d) whole ∙ at_front l r i d lt)

pub port_behind : (l r all : List Port) (j : ℕ) (d : Port) → all ≡ l ++ r → length l ≡ j → j < length all → slice_get all j ≡ Some (get_or r 0 d)
port_behind l r all j d whole len lt = stands_there all j d lt ∙ ap Some (ap (λ v. get_or v j d) whole ∙ at_back l r j d len)

pub way_at : (ports : List Port) (i j : ℕ) (p q : Port) → AreOneFabric ports → slice_get ports i ≡ Some p → slice_get ports j ≡ Some q → i ≢ j → IsWay (place p) (place q)
way_at ports i j p q h e f ne = (h i j (place p) (place q) (slice_get-map place ports i ∙ ap (option_map place) e) (slice_get-map place ports j ∙ ap (option_map place) f) ne).1

front_back : (l r all : List Port) (i j : ℕ) (x y d : Port) → all ≡ l ++ r → length l ≡ j → carried x ≡ carried (get_or l i d) → map carried (set l i x ++ set r 0 y) ≡ set (map carried all) j (carried y)
front_back l r all i j x y d whole len e =
    map-append carried (set l i x) (set r 0 y)
    ∙ ap₂ (λ u v. u ++ v) (map-set_same carried l i x d e) (map-set carried r 0 y)
    ∙ set_back (map carried l) (map carried r) j (carried y) (length-map l carried ∙ len)
    ∙ ap (λ v. set v j (carried y)) (sym (map-append carried l r) ∙ ap (map carried) (sym whole))

back_front : (l r all : List Port) (i j : ℕ) (x y d : Port) → all ≡ l ++ r → j < length l → carried x ≡ carried (get_or r 0 d) → map carried (set l j y ++ set r 0 x) ≡ set (map carried all) j (carried y)
back_front l r all i j x y d whole lt e =
    map-append carried (set l j y) (set r 0 x)
    ∙ ap₂ (λ u v. u ++ v) (map-set carried l j y) (map-set_same carried r 0 x d e)
    ∙ set_front (map carried l) (map carried r) j (carried y) (let n = length-map l carried in omega arith)
    ∙ ap (λ v. set v j (carried y)) (sym (map-append carried l r) ∙ ap (map carried) (sym whole))

rested : (olds news : List Port) (from to : ℕ) (p q x y : Port) → AreOneFabric olds → slice_get olds from ≡ Some p → slice_get olds to ≡ Some q → map carried news ≡ set (map carried olds) to (carried y)
    → carried x ≡ carried p → account y ≡ account q → ((k : ℕ) → k ≢ p.cpu → kept_from y k ≡ kept_from q k) → IsWhole (carried x) (carried y) → IsRested olds news from to
rested olds news from to p q x y h at_p at_q e ex ey others whole =
    let cs = map carried olds in
    let a : slice_get cs from ≡ Some (carried p) = slice_get-map carried olds from ∙ ap (option_map carried) at_p in
    let b : slice_get cs to ≡ Some (carried q) = slice_get-map carried olds to ∙ ap (option_map carried) at_q in
    let w : IsWhole (carried p) (carried y) = subst (λ c. IsWhole c (carried y)) ex whole in
    record {
      whole = subst (λ l. IsWholeAt l from to) (sym e) (one_whole cs from to (carried p) (carried y) a (slice_get_within cs to (carried q) b) w);
      stays = λ i j g. subst (λ l. IsWholeAt l i j) (sym e) (one_stays cs from to (carried p) (carried q) (carried y) a b (numbered olds h) ey others w i j g);
    }

pub front_rested : (l r all : List Port) (from to : ℕ) (x y d e : Port) → all ≡ l ++ r → length l ≡ to → from < length l → to < length all → AreOneFabric all
    → carried x ≡ carried (get_or l from d) → account y ≡ account (get_or r 0 e) → ((k : ℕ) → k ≢ (get_or l from d).cpu → kept_from y k ≡ kept_from (get_or r 0 e) k) → IsWhole (carried x) (carried y)
    → IsRested all (set l from x ++ set r 0 y) from to
front_rested l r all from to x y d e whole len lt lt' h ex ey others w =
    rested all (set l from x ++ set r 0 y) from to (get_or l from d) (get_or r 0 e) x y h
    (port_in_front l r all from d whole lt (let a = lt in let b = lt' in omega arith)) (port_behind l r all to e whole len lt')
    (front_back l r all from to x y d whole len ex) ex ey others w

pub back_rested : (l r all : List Port) (from to : ℕ) (x y d e : Port) → all ≡ l ++ r → length l ≡ from → to < length l → from < length all → AreOneFabric all
    → carried x ≡ carried (get_or r 0 d) → account y ≡ account (get_or l to e) → ((k : ℕ) → k ≢ (get_or r 0 d).cpu → kept_from y k ≡ kept_from (get_or l to e) k) → IsWhole (carried x) (carried y)
    → IsRested all (set l to y ++ set r 0 x) from to
back_rested l r all from to x y d e whole len lt lt' h ex ey others w =
    rested all (set l to y ++ set r 0 x) from to (get_or r 0 d) (get_or l to e) x y h
    (port_behind l r all from d whole len lt') (port_in_front l r all to e whole lt (let a = lt in let b = lt' in omega arith))
    (back_front l r all from to x y d whole lt ex) ex ey others w

-- A list of which one element of the front and one of the back were replaced by ones that f cannot tell from them.
pub map-two_same : {A B : Type 0} (f : A → B) (l r all : List A) (i j : ℕ) (x y d e : A) → all ≡ l ++ r → f x ≡ f (get_or l i d) → f y ≡ f (get_or r j e) → map f (set l i x ++ set r j y) ≡ map f all
map-two_same f l r all i j x y d e whole p q =
    map-append f (set l i x) (set r j y) ∙ ap₂ (λ u v. u ++ v) (map-set_same f l i x d p) (map-set_same f r j y e q) ∙ sym (map-append f l r) ∙ ap (map f) (sym whole)

pub whole_beyond : (ports : List Port) (n j : ℕ) → length ports ≤ n → ((i : ℕ) → i < n → IsWholeAt (map carried ports) i j) → (i : ℕ) → IsWholeAt (map carried ports) i j
whole_beyond ports n j le h i ne a b e f = h i (let lt = slice_get_within (map carried ports) i a e in let len = length-map ports carried in omega arith) ne a b e f

pub all_beyond : (ports : List Port) (n : ℕ) → length ports ≤ n → ((j : ℕ) → j < n → (i : ℕ) → IsWholeAt (map carried ports) i j) → (i j : ℕ) → IsWholeAt (map carried ports) i j
all_beyond ports n le h i j ne a b e f = h j (let lt = slice_get_within (map carried ports) j b f in let len = length-map ports carried in omega arith) i ne a b e f

pub on_ok : {T X : Type 0} (r : Result T X) (P Q : Type 0) → (P → Q) → OnOk r P → OnOk r Q
on_ok (Ok x) P Q f h = f h
on_ok (Err x) P Q f h = h

-- What a port has carried does not depend on what it notes of its ends.
pub vacuous : {A : Type 0} → true ≡ false → A
vacuous e = absurd cc

pub never : {A : Type 0} → false ≡ true → A
never e = absurd cc

abbrev pub with_outlet : Port → ℕ → Option Outlet → Port
with_outlet p i o = record { cpu = p.cpu; linked = true; ready = false; quiet = false; bell = p.bell; heard = p.heard; outlets = with_item p.outlets i o; inlets = p.inlets; few = p.few; ways = λ e. vacuous e; prepared = λ e. never e; silent = λ e. never e }

abbrev pub with_inlet : Port → ℕ → Option Inlet → Port
with_inlet p i n = record { cpu = p.cpu; linked = true; ready = false; quiet = false; bell = p.bell; heard = p.heard; outlets = p.outlets; inlets = with_item p.inlets i n; few = p.few; ways = λ e. vacuous e; prepared = λ e. never e; silent = λ e. never e }

pub out_rested : (p : Port) (i : ℕ) (o y : Option Outlet) → o ≡ get_or p.outlets.items i o → ring_out y ≡ ring_out o → posted y ≡ posted o → carried (with_outlet p i y) ≡ carried p
out_rested p i o y is r q =
    let rings = map-set_same ring_out p.outlets.items i y o (r ∙ ap ring_out is) in
    let posts = map-set_same posted p.outlets.items i y o (q ∙ ap posted is) in
    λ k. record {
      account = record {
        place = record { cpu = p.cpu; outs = rings k; ins = map ring_in p.inlets.items };
        posted = λ to. get_or (posts k) to [];
        taken = λ from. get_or (map taken p.inlets.items) from [];
      };
      kept = λ from. get_or (map kept p.inlets.items) from [];
    }

pub in_rested : (p : Port) (i : ℕ) (o y : Option Inlet) → o ≡ get_or p.inlets.items i o → ring_in y ≡ ring_in o → taken y ≡ taken o → account (with_inlet p i y) ≡ account p
in_rested p i o y is r t =
    let rings = map-set_same ring_in p.inlets.items i y o (r ∙ ap ring_in is) in
    let takes = map-set_same taken p.inlets.items i y o (t ∙ ap taken is) in
    λ k. record {
      place = record { cpu = p.cpu; outs = map ring_out p.outlets.items; ins = rings k };
      posted = λ to. get_or (map posted p.outlets.items) to [];
      taken = λ from. get_or (takes k) from [];
    }

pub kept_elsewhere : (p : Port) (i cpu : ℕ) (y : Option Inlet) → i ≡ cpu → (k : ℕ) → k ≢ cpu → kept_from (with_inlet p i y) k ≡ kept_from p k
kept_elsewhere p i cpu y e k ne = set_elsewhere kept p.inlets.items i y k [] (λ f. ne (f ∙ e))

pub way_rested : (f t : Port) (i j : ℕ) (o : Option Outlet) (n : Option Inlet) → j ≡ t.cpu → i ≡ f.cpu → IsWay (place f) (place t) → posted o ≡ taken n ++ kept n → IsWhole (carried (with_outlet f j o)) (carried (with_inlet t i n))
way_rested f t i j o n ej ei w h =
    let a : t.cpu < length (map ring_out f.outlets.items) = some_within (map ring_out f.outlets.items) t.cpu w.0 w.1 in
    let b : f.cpu < length (map ring_in t.inlets.items) = some_within (map ring_in t.inlets.items) f.cpu w.0 w.2 in
    let la = length-map f.outlets.items ring_out in let lb = length-map t.inlets.items ring_in in
    let ins = set t.inlets.items i n in
    ap (λ k. get_or (map posted (set f.outlets.items j o)) k []) (sym ej) ∙ set_here posted f.outlets.items j o [] (omega arith) ∙ h ∙ ap₂ (λ u v. u ++ v)
    (sym (ap (λ k. get_or (map taken ins) k []) (sym ei) ∙ set_here taken t.inlets.items i n [] (omega arith)))
    (sym (ap (λ k. get_or (map kept ins) k []) (sym ei) ∙ set_here kept t.inlets.items i n [] (omega arith)))

-- One port has carried more, and stands where it stood.
pub fabric_set : (ports : List Port) (i : ℕ) (y d : Port) → place y ≡ place (get_or ports i d) → AreOneFabric ports → AreOneFabric (set ports i y)
fabric_set ports i y d e h = subst AreLinked (sym (map-set_same place ports i y d e)) h
