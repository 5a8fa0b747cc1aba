-- Lists of ends, of which one has changed.
use Rattle.std.proofs.Common.{◌≡◌, ◌≢◌, ℕ, zero, suc, ◌+◌, ◌<◌, ◌≤◌, List, [], ◌∷◌, ◌++◌, length, map, set, get_or, refl, sym, ap, ◌∙◌, ⊎_elim, ◌⊎◌, inl, inr, arith, Option, Some, None}
use Rattle.std.proofs.lemmas.Bool.Decides.{eqb_tells}
use Rattle.std.proofs.lemmas.List.{append-nil, length-set}
use Rattle.std.proofs.lemmas.Option.{none-some}
use Rattle.std.proofs.Math.Seq.{map-set_same}
use Rattle.l4_core_model.specs.Letters.{Letter}
use Rattle.l4_mail.specs.declared.outlets.Outlet.{Outlet}
use Rattle.l4_mail.specs.Ends.{RingId, ring_out, posted, room}
use Rattle.l4_mail.specs.Ports.{only}

pub set_elsewhere : {A B : Type 0} (f : A → B) (l : List A) (i : ℕ) (y : A) (k : ℕ) (d : B) → k ≢ i → get_or (map f (set l i y)) k d ≡ get_or (map f l) k d
set_elsewhere f [] i y k d n = refl
set_elsewhere f (a ∷ l) zero y zero d n = absurd (n refl)
set_elsewhere f (a ∷ l) zero y (suc k) d n = refl
set_elsewhere f (a ∷ l) (suc i) y zero d n = refl
set_elsewhere f (a ∷ l) (suc i) y (suc k) d n = set_elsewhere f l i y k d (λ h. n (ap suc h))

pub set_here : {A B : Type 0} (f : A → B) (l : List A) (i : ℕ) (y : A) (d : B) → i < length l → get_or (map f (set l i y)) i d ≡ f y
set_here f [] i y d lt = absurd (omega arith)
set_here f (a ∷ l) zero y d lt = refl
set_here f (a ∷ l) (suc i) y d lt = set_here f l i y d (omega arith)

pub read_here : {A B : Type 0} (f : A → B) (l : List A) (i : ℕ) (x : A) (d : B) → i < length l → get_or (map f l) i d ≡ f (get_or l i x)
read_here f [] i x d lt = absurd (omega arith)
read_here f (a ∷ l) zero x d lt = refl
read_here f (a ∷ l) (suc i) x d lt = read_here f l i x d (omega arith)

pub read_beyond : {A B : Type 0} (f : A → B) (l : List A) (i : ℕ) (d : B) → length l ≤ i → get_or (map f l) i d ≡ d
read_beyond f [] i d le = refl
read_beyond f (a ∷ l) zero d le = absurd (omega arith)
read_beyond f (a ∷ l) (suc i) d le = read_beyond f l i d (omega arith)

-- One list goes on by a letter, the others stay.
pub grown_at : {A : Type 0} (f : A → List Letter) (l : List A) (i : ℕ) (y d : A) (letter : Letter) → i < length l → f y ≡ f (get_or l i d) ++ letter ∷ []
    → (k : ℕ) → get_or (map f (set l i y)) k [] ≡ get_or (map f l) k [] ++ only k i letter
grown_at f l i y d letter lt e k = ⊎_elim
    (λ h. rw h.0 (ap (λ j. get_or (map f (set l i y)) j []) (sym h.1) ∙ set_here f l i y [] lt ∙ e ∙ ap (λ u. u ++ letter ∷ []) (sym (read_here f l i d [] lt) ∙ ap (λ j. get_or (map f l) j []) h.1)))
    (λ h. let n = h.1 in rw h.0 (set_elsewhere f l i y k [] (λ e. n (sym e)) ∙ sym (append-nil _)))
    (eqb_tells i k)

-- One list loses its first letter, the others stay.
pub shrunk_at : {A : Type 0} (f : A → List Letter) (l : List A) (i : ℕ) (y d : A) (letter : Letter) → i < length l → f (get_or l i d) ≡ letter ∷ f y
    → (k : ℕ) → get_or (map f l) k [] ≡ only k i letter ++ get_or (map f (set l i y)) k []
shrunk_at f l i y d letter lt e k = ⊎_elim
    (λ h. rw h.0 (ap (λ j. get_or (map f l) j []) (sym h.1) ∙ read_here f l i d [] lt ∙ e ∙ ap (λ u. letter ∷ u) (sym (set_here f l i y [] lt) ∙ ap (λ j. get_or (map f (set l i y)) j []) h.1)))
    (λ h. let n = h.1 in rw h.0 (sym (set_elsewhere f l i y k [] (λ e. n (sym e)))))
    (eqb_tells i k)

pub below_or : (k n : ℕ) → (k < n) ⊎ (n ≤ k)
below_or k zero = inr (omega arith)
below_or zero (suc n) = inl (omega arith)
below_or (suc k) (suc n) = ⊎_elim (λ t. inl (omega arith)) (λ t. inr (omega arith)) (below_or k n)

pub room_within : (l : List (Option Outlet)) (i : ℕ) → 0 < get_or (map room l) i 0 → i < length l
room_within [] i h = absurd (omega arith)
room_within (a ∷ l) zero h = omega arith
room_within (a ∷ l) (suc i) h = let lt = room_within l i h in omega arith

-- There is as much room as there was, or more.
pub room_grown : (l : List (Option Outlet)) (i : ℕ) (y d : Option Outlet) → room (get_or l i d) ≤ room y → (k : ℕ) → get_or (map room l) k 0 ≤ get_or (map room (set l i y)) k 0
room_grown [] i y d h k = omega arith
room_grown (a ∷ l) zero y d h zero = h
room_grown (a ∷ l) zero y d h (suc k) = omega arith
room_grown (a ∷ l) (suc i) y d h zero = omega arith
room_grown (a ∷ l) (suc i) y d h (suc k) = room_grown l i y d h k

-- Outlets that have carried what they had carried.
pub record AreAsBefore (old new : List (Option Outlet)) : Type 0 where
  pub rings : map ring_out new ≡ map ring_out old
  pub posted : map posted new ≡ map posted old
  pub room : (k : ℕ) → get_or (map room old) k 0 ≤ get_or (map room new) k 0
  pub len : length new ≡ length old

pub set_as_before : (old l : List (Option Outlet)) (i : ℕ) (y d : Option Outlet) → ring_out y ≡ ring_out (get_or l i d) → posted y ≡ posted (get_or l i d) → room (get_or l i d) ≤ room y → AreAsBefore old l → AreAsBefore old (set l i y)
set_as_before old l i y d w p r h = record {
  rings = map-set_same ring_out l i y d w ∙ h.rings;
  posted = map-set_same posted l i y d p ∙ h.posted;
  room = λ k. let a = room_grown l i y d r k in let b = h.room k in omega arith;
  len = length-set l i y ∙ h.len;
}

-- The outlets before a place have room for some letters.
abbrev pub HaveRoom : List (Option Outlet) → (below n : ℕ) → Type 0
HaveRoom l below n = (k : ℕ) → k < below → (ring : RingId) → get_or (map ring_out l) k None ≡ Some ring → n ≤ get_or (map room l) k 0

pub room_before : (l : List (Option Outlet)) (i n : ℕ) (y d : Option Outlet) → ring_out y ≡ ring_out (get_or l i d) → room (get_or l i d) ≤ room y → (n ≤ room y) ⊎ (ring_out y ≡ None) → i < length l → HaveRoom l i n → HaveRoom (set l i y) (i + 1) n
room_before l i n y d w r here lt h k le ring e = ⊎_elim
    (λ t. ⊎_elim
    (λ much. let a = set_here room l i y 0 lt in let b = ap (λ j. get_or (map room (set l i y)) j 0) t.1 in omega arith)
    (λ none. absurd (none-some ring (sym none ∙ sym (set_here ring_out l i y None lt) ∙ ap (λ j. get_or (map ring_out (set l i y)) j None) (sym t.1) ∙ e)))
    here)
    (λ t. let ne = t.1 in let a = room_grown l i y d r k in let b = h k (omega arith) ring (sym (set_elsewhere ring_out l i y k None ne) ∙ e) in omega arith)
    (eqb_tells k i)
