-- Whether the numbers of ports are all.
use Rattle.std.proofs.Common.{◌≡◌, ◌≢◌, ℕ, zero, suc, ◌+◌, ◌<◌, ◌≤◌, Bool, true, false, ◌&&◌, ◌||◌, nat_eq, List, [], ◌∷◌, length, get_or, refl, sym, ap, ap₂, ◌∙◌, subst, arith, ⊎_elim, nat_lt, if◌then◌else◌, Vec, Global}
use Rattle.std.specs.Prelude.{Result, Ok, Err, IfOk}
use Rattle.l4_model.proofs.Places.{and_true}
use Rattle.std.proofs.lemmas.Bool.Decides.{eqb_tells}
use Rattle.l4_mail.specs.declared.ports.Port.{Port}
use Rattle.l4_mail.specs.Ports.{fabric_size, kept_from}
use Rattle.l4_mail.specs.Rests.{has_number, have_numbers, have_size, are_all, kept_between}

same_number : (i j : ℕ) → i ≡ j → nat_eq i j ≡ true
same_number i j e = ⊎_elim (λ t. t.0) (λ t. absurd (t.1 e)) (eqb_tells i j)

other_number : (i j : ℕ) → i ≢ j → nat_eq i j ≡ false
other_number i j n = ⊎_elim (λ t. absurd (n t.1)) (λ t. t.0) (eqb_tells i j)

or_true : (b : Bool) → (b || true) ≡ true
or_true true = refl
or_true false = refl

and_false : (b : Bool) → (b && false) ≡ false
and_false true = refl
and_false false = refl

pub has_here : (l : List Port) (i cpu : ℕ) (d : Port) → i < length l → (get_or l i d).cpu ≡ cpu → has_number cpu l ≡ true
has_here [] i cpu d lt e = absurd (omega arith)
has_here (p ∷ l) zero cpu d lt e = ap (λ b. b || has_number cpu l) (same_number p.cpu cpu e)
has_here (p ∷ l) (suc i) cpu d lt e = ap (λ b. nat_eq p.cpu cpu || b) (has_here l i cpu d (omega arith) e) ∙ or_true (nat_eq p.cpu cpu)

pub has_none : (l : List Port) (cpu : ℕ) → ((i : ℕ) → i < length l → (d : Port) → (get_or l i d).cpu ≢ cpu) → has_number cpu l ≡ false
has_none [] cpu h = refl
has_none (p ∷ l) cpu h = ap₂ (λ a b. a || b) (other_number p.cpu cpu (h zero (omega arith) p)) (has_none l cpu (λ i lt d. h (suc i) (omega arith) d))

pub size_fails : (l : List Port) (i n : ℕ) (d : Port) → i < length l → fabric_size (get_or l i d) ≢ n → have_size n l ≡ false
size_fails [] i n d lt e = absurd (omega arith)
size_fails (p ∷ l) zero n d lt e = ap (λ b. b && have_size n l) (other_number (fabric_size p) n e)
size_fails (p ∷ l) (suc i) n d lt e = ap (λ b. nat_eq (fabric_size p) n && b) (size_fails l i n d (omega arith) e) ∙ and_false (nat_eq (fabric_size p) n)

pub size_holds : (l : List Port) (n : ℕ) → ((i : ℕ) → i < length l → (d : Port) → fabric_size (get_or l i d) ≡ n) → have_size n l ≡ true
size_holds [] n h = refl
size_holds (p ∷ l) n h = ap₂ (λ a b. a && b) (same_number (fabric_size p) n (h zero (omega arith) p)) (size_holds l n (λ i lt d. h (suc i) (omega arith) d))

pub numbers_fail : (l : List Port) (n i : ℕ) → i < n → has_number i l ≡ false → have_numbers n l ≡ false
numbers_fail l zero i lt e = absurd (omega arith)
numbers_fail l (suc n) i lt e = ⊎_elim
    (λ t. ap (λ b. have_numbers n l && b) (ap (λ k. has_number k l) (sym t.1) ∙ e) ∙ and_false (have_numbers n l))
    (λ t. let ne = t.1 in ap (λ b. b && has_number n l) (numbers_fail l n i (omega arith) e))
    (eqb_tells i n)

pub numbers_more : (l : List Port) (n : ℕ) → have_numbers n l ≡ true → has_number n l ≡ true → have_numbers (n + 1) l ≡ true
numbers_more l n a b = let s : suc n ≡ n + 1 = omega arith in subst (λ k. have_numbers k l ≡ true) s (ap₂ (λ x y. x && y) a b)

is_true : Bool → Type 0
is_true true = Unit {0}
is_true false = ⊥

differ : true ≡ false → ⊥
unfolding is_true
differ e = subst is_true e tt

-- A fabric has at most 16 processors.
pub are_few : (l : List Port) → are_all l ≡ true → length l ≤ 16
are_few [] h = omega arith
are_few (p ∷ l) h =
    let size = (and_true (nat_eq (fabric_size p) (length (p ∷ l))) (have_size (length (p ∷ l)) l) (and_true (have_size (length (p ∷ l)) (p ∷ l)) (have_numbers (length (p ∷ l)) (p ∷ l)) (and_true (nat_lt 0 (length (p ∷ l))) _ h).1).0).0 in
    let same : fabric_size p ≡ length (p ∷ l) = ⊎_elim (λ t. t.1) (λ t. absurd (differ (sym size ∙ t.0))) (eqb_tells (fabric_size p) (length (p ∷ l))) in
    let few = p.few.0 in let len = p.outlets.ok.0 in omega arith

-- The port that keeps the letters is the first of that number.
pub kept_here : (l : List Port) (i from to : ℕ) (d : Port) → i < length l → ((k : ℕ) → k < i → (d : Port) → (get_or l k d).cpu ≢ to) → (get_or l i d).cpu ≡ to → kept_from (get_or l i d) from ≡ kept_between from to l
kept_here [] i from to d lt before e = absurd (omega arith)
kept_here (p ∷ l) zero from to d lt before e = sym (ap (λ b. if b then kept_from p from else kept_between from to l) (same_number p.cpu to e))
kept_here (p ∷ l) (suc i) from to d lt before e =
    kept_here l i from to d (omega arith) (λ k below. before (suc k) (omega arith)) e ∙ sym (ap (λ b. if b then kept_from p from else kept_between from to l) (other_number p.cpu to (before zero (omega arith) p)))

pub none_here : (l : List Port) (from to : ℕ) → ((k : ℕ) → k < length l → (d : Port) → (get_or l k d).cpu ≢ to) → kept_between from to l ≡ []
none_here [] from to h = refl
none_here (p ∷ l) from to h = ap (λ b. if b then kept_from p from else kept_between from to l) (other_number p.cpu to (h zero (omega arith) p)) ∙ none_here l from to (λ k lt. h (suc k) (omega arith))

pub items_are : {E X : Type 0} (r : Result (Vec X Global) E) (l k : List X) → l ≡ k → IfOk r (λ v. v.items ≡ l) → IfOk r (λ v. v.items ≡ k)
items_are (Ok v) l k e h = h ∙ e
items_are (Err v) l k e h = h
