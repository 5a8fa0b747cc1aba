-- What a rest lists of the letters under way, and what the ports keep.
use Rattle.std.proofs.Common.{◌≡◌, ℕ, zero, suc, ◌<◌, Bool, true, false, ◌&&◌, ◌||◌, Some, List, [], ◌∷◌, map, length, refl, ap, ap₂, sym, ◌∙◌, arith, ⊎_elim, nat_eq, nat_lt, if◌then◌else◌}
use Rattle.std.specs.Prelude.{◌≢◌, slice_get}
use Rattle.std.specs.List.{list_all}
use Rattle.std.proofs.lemmas.Bool.{eqb-true, eqb-false}
use Rattle.std.proofs.lemmas.Bool.Decides.{eqb_tells}
use Rattle.std.proofs.lemmas.List.{length-map}
use Rattle.std.proofs.lemmas.List.Folds.{list_all-append}
use Rattle.l4_model.proofs.Chains.{get-map, some_is}
use Rattle.l4_model.proofs.Places.{and_true}
use Rattle.l4_core_model.specs.Runs.{is_empty}
use Rattle.l4_core_model.specs.Letters.{Letter}
use Rattle.l4_mail.specs.Ends.{ring_out}
use Rattle.l4_mail.specs.Ports.{place, kept_from, fabric_size, IsWay, AreOneFabric}
use Rattle.l4_mail.specs.Rests.{has_number, have_numbers, have_size, are_all, kept_between, under_way_from, under_way_below, under_way}
use Rattle.l4_mail.specs.declared.ports.Port.{Port}
use Rattle.l4_mail.proofs.Growing.{some_within}

-- Nothing is under way by this entry of the list.
abbrev pub is_nothing : ℕ × ℕ × List Letter → Bool
is_nothing entry = is_empty entry.2

empty_is : {A : Type 0} (xs : List A) → is_empty xs ≡ true → xs ≡ []
empty_is [] is = refl
empty_is (x ∷ xs) is = absurd cc

pub same_number : (i j : ℕ) → i ≡ j → nat_eq i j ≡ true
same_number i j is = ⊎_elim (λ t. t.0) (λ t. absurd (t.1 is)) (eqb_tells i j)

other_number : (i j : ℕ) → i ≢ j → nat_eq i j ≡ false
other_number i j ne = ⊎_elim (λ t. absurd (ne t.1)) (λ t. t.0) (eqb_tells i j)

-- The entries of one processor

abbrev entry_of : List Port → (from to : ℕ) → Bool → List (ℕ × ℕ × List Letter)
entry_of ports from to own = if own then [] else (from, to, kept_between from to ports) ∷ []

entry_tells : (ports : List Port) (from to : ℕ) → list_all is_nothing (entry_of ports from to (nat_eq from to)) ≡ true → from ≢ to → kept_between from to ports ≡ []
entry_tells ports from to is ne = by (nat_eq from to) refl is
  where
    by : (own : Bool) → nat_eq from to ≡ own → list_all is_nothing (entry_of ports from to own) ≡ true → kept_between from to ports ≡ []
    by true own is = absurd (ne (eqb-true from to own))
    by false own is = empty_is (kept_between from to ports) (and_true _ true is).0

entry_told : (ports : List Port) (from to : ℕ) → (from ≢ to → kept_between from to ports ≡ []) → list_all is_nothing (entry_of ports from to (nat_eq from to)) ≡ true
entry_told ports from to none = by (nat_eq from to) refl
  where
    by : (own : Bool) → nat_eq from to ≡ own → list_all is_nothing (entry_of ports from to own) ≡ true
    by true own = refl
    by false own = ap (λ (ls : List Letter). is_empty ls && true) (none (eqb-false from to own))

entries_tell : (ports : List Port) (from below : ℕ) → list_all is_nothing (under_way_from ports from below) ≡ true →
    (to : ℕ) → to < below → from ≢ to → kept_between from to ports ≡ []
entries_tell ports from zero is to lt ne = absurd (omega arith)
entries_tell ports from (suc below) is to lt ne =
    let last = entry_of ports from below (nat_eq from below) in
    let both = and_true _ _ (sym (list_all-append is_nothing (under_way_from ports from below) last) ∙ is) in
    ⊎_elim
    (λ t. ap (λ (k : ℕ). kept_between from k ports) t.1 ∙ entry_tells ports from below both.1 (λ same. ne (same ∙ sym t.1)))
    (λ t. let other = t.1 in entries_tell ports from below both.0 to (omega arith) ne)
    (eqb_tells to below)

entries_told : (ports : List Port) (from below : ℕ) → ((to : ℕ) → to < below → from ≢ to → kept_between from to ports ≡ []) →
    list_all is_nothing (under_way_from ports from below) ≡ true
entries_told ports from zero none = refl
entries_told ports from (suc below) none =
    list_all-append is_nothing (under_way_from ports from below) (entry_of ports from below (nat_eq from below))
    ∙ ap₂ (λ a b. a && b) (entries_told ports from below (λ to lt. none to (omega arith))) (entry_told ports from below (none below (omega arith)))

-- The entries of all

all_tell : (ports : List Port) (below : ℕ) → list_all is_nothing (under_way_below ports below) ≡ true →
    (from : ℕ) → from < below → list_all is_nothing (under_way_from ports from (length ports)) ≡ true
all_tell ports zero is from lt = absurd (omega arith)
all_tell ports (suc below) is from lt =
    let both = and_true _ _ (sym (list_all-append is_nothing (under_way_below ports below) (under_way_from ports below (length ports))) ∙ is) in
    ⊎_elim
    (λ t. ap (λ (k : ℕ). list_all is_nothing (under_way_from ports k (length ports))) t.1 ∙ both.1)
    (λ t. let other = t.1 in all_tell ports below both.0 from (omega arith))
    (eqb_tells from below)

all_told : (ports : List Port) (below : ℕ) → ((from : ℕ) → from < below → list_all is_nothing (under_way_from ports from (length ports)) ≡ true) →
    list_all is_nothing (under_way_below ports below) ≡ true
all_told ports zero none = refl
all_told ports (suc below) none =
    list_all-append is_nothing (under_way_below ports below) (under_way_from ports below (length ports))
    ∙ ap₂ (λ a b. a && b) (all_told ports below (λ from lt. none from (omega arith))) (none below (omega arith))

-- The port of a number

kept_there : (ports : List Port) (j from : ℕ) (to : Port) → slice_get ports j ≡ Some to →
    ((k : ℕ) (q : Port) → slice_get ports k ≡ Some q → q.cpu ≡ to.cpu → k ≡ j) → kept_between from to.cpu ports ≡ kept_from to from
kept_there [] j from to at alone = absurd cc
kept_there (p ∷ ports) zero from to at alone =
    let is = some_is p to at in
    ap (λ b. if b then kept_from p from else kept_between from to.cpu ports) (same_number p.cpu to.cpu (ap (λ (q : Port). q.cpu) is))
    ∙ ap (λ (q : Port). kept_from q from) is
kept_there (p ∷ ports) (suc j) from to at alone =
    ap (λ b. if b then kept_from p from else kept_between from to.cpu ports)
    (other_number p.cpu to.cpu (λ same. absurd (let here = alone zero p refl same in omega arith)))
    ∙ kept_there ports j from to at (λ k q e same. let next = alone (suc k) q e same in omega arith)

none_there : (ports : List Port) (from to : ℕ) → ((j : ℕ) (q : Port) → slice_get ports j ≡ Some q → q.cpu ≡ to → kept_from q from ≡ []) →
    kept_between from to ports ≡ []
none_there [] from to none = refl
none_there (p ∷ ports) from to none = by (nat_eq p.cpu to) refl (none_there ports from to (λ j q e same. none (suc j) q e same))
  where
    by : (here : Bool) → nat_eq p.cpu to ≡ here → kept_between from to ports ≡ [] → (if here then kept_from p from else kept_between from to ports) ≡ []
    by true here rest = none zero p refl (eqb-true p.cpu to here)
    by false here rest = rest

-- All ports of a fabric

size_at : (n : ℕ) (ports : List Port) (j : ℕ) (q : Port) → have_size n ports ≡ true → slice_get ports j ≡ Some q → fabric_size q ≡ n
size_at n [] j q is at = absurd cc
size_at n (p ∷ ports) zero q is at =
    ap fabric_size (sym (some_is p q at)) ∙ eqb-true (fabric_size p) n (and_true _ _ is).0
size_at n (p ∷ ports) (suc j) q is at = size_at n ports j q (and_true (nat_eq (fabric_size p) n) (have_size n ports) is).1 at

number_below : (ports : List Port) (n k : ℕ) → have_numbers n ports ≡ true → k < n → has_number k ports ≡ true
number_below ports zero k is lt = absurd (omega arith)
number_below ports (suc n) k is lt =
    let both = and_true (have_numbers n ports) (has_number n ports) is in
    ⊎_elim (λ t. ap (λ (i : ℕ). has_number i ports) t.1 ∙ both.1) (λ t. let other = t.1 in number_below ports n k both.0 (omega arith)) (eqb_tells k n)

-- A port of this number.
pub record HasPort (ports : List Port) (cpu : ℕ) : Type 0 where
  pub at : ℕ
  pub port : Port
  pub is : slice_get ports at ≡ Some port
  pub number : port.cpu ≡ cpu

port_of : (ports : List Port) (cpu : ℕ) → has_number cpu ports ≡ true → HasPort ports cpu
port_of [] cpu is = absurd cc
port_of (p ∷ ports) cpu is = by (nat_eq p.cpu cpu) refl (λ later. port_of ports cpu later) is
  where
    by : (here : Bool) → nat_eq p.cpu cpu ≡ here → (has_number cpu ports ≡ true → HasPort ports cpu) → (here || has_number cpu ports) ≡ true →
        HasPort (p ∷ ports) cpu
    by true here rest is = record { at = zero; port = p; is = refl; number = eqb-true p.cpu cpu here }
    by false here rest is = let h = rest is in record { at = suc h.at; port = h.port; is = h.is; number = h.number }

between : (ports : List Port) → AreOneFabric ports → (i j : ℕ) (from to : Port) → i ≢ j → slice_get ports i ≡ Some from → slice_get ports j ≡ Some to →
    (from.cpu ≢ to.cpu) × IsWay (place from) (place to)
between ports one i j from to ne e f = one i j (place from) (place to) (get-map place ports i from e) (get-map place ports j to f) ne

size_of : (ports : List Port) → are_all ports ≡ true → have_size (length ports) ports ≡ true
size_of ports all = (and_true (have_size (length ports) ports) (have_numbers (length ports) ports) (and_true (nat_lt 0 (length ports)) _ all).1).0

numbers_of : (ports : List Port) → are_all ports ≡ true → have_numbers (length ports) ports ≡ true
numbers_of ports all = (and_true (have_size (length ports) ports) (have_numbers (length ports) ports) (and_true (nat_lt 0 (length ports)) _ all).1).1

-- Where another port has a way to it, a port's number is below that of all.
number_is_below : (ports : List Port) → AreOneFabric ports → are_all ports ≡ true →
    (i j : ℕ) (from to : Port) → i ≢ j → slice_get ports i ≡ Some from → slice_get ports j ≡ Some to → to.cpu < length ports
number_is_below ports one all i j from to ne e f =
    let way = (between ports one i j from to ne e f).1 in
    let within = some_within (map ring_out from.outlets.items) to.cpu way.0 way.1 in
    let size = size_at (length ports) ports i from (size_of ports all) e in
    let same = length-map from.outlets.items ring_out in
    omega arith

-- No port keeps a letter of another one.
abbrev pub KeepNone : List Port → Type 0
KeepNone ports = (i j : ℕ) (from to : Port) → i ≢ j → slice_get ports i ≡ Some from → slice_get ports j ≡ Some to → kept_from to from.cpu ≡ []

pub keep_none : (ports : List Port) → AreOneFabric ports → are_all ports ≡ true → list_all is_nothing (under_way ports) ≡ true → KeepNone ports
keep_none ports one all is i j from to ne e f =
    let alone : (k : ℕ) (q : Port) → slice_get ports k ≡ Some q → q.cpu ≡ to.cpu → k ≡ j = λ k q g same. ⊎_elim
    (λ t. t.1)
    (λ t. absurd ((between ports one k j q to t.1 g f).0 same))
    (eqb_tells k j) in
    let below = number_is_below ports one all i j from to ne e f in
    let other = number_is_below ports one all j i to from (λ same. ne (sym same)) f e in
    sym (kept_there ports j from.cpu to f alone)
    ∙ entries_tell ports from.cpu (length ports) (all_tell ports (length ports) is from.cpu other) to.cpu below (between ports one i j from to ne e f).0

pub none_listed : (ports : List Port) → AreOneFabric ports → are_all ports ≡ true → KeepNone ports → list_all is_nothing (under_way ports) ≡ true
none_listed ports one all none = all_told ports (length ports) (λ from lt. entries_told ports from (length ports) (λ to lt' ne.
    none_there ports from to (λ j q e number.
    let h = port_of ports from (number_below ports (length ports) from (numbers_of ports all) lt) in
    let apart : h.at ≢ j = λ same. ne (sym h.number ∙ ap (λ (p : Port). p.cpu) (some_is h.port q (sym h.is ∙ ap (λ (k : ℕ). slice_get ports k) same ∙ e)) ∙ number) in
    ap (λ (k : ℕ). kept_from q k) (sym h.number) ∙ none h.at j h.port q apart h.is e)))
