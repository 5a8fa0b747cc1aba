-- However the events of all processors are sorted by stamp and processor, they come out as merged.
use Rattle.std.proofs.Common.{◌≡◌, ℕ, suc, ◌<◌, ◌≤◌, Bool, true, false, cond, List, [], ◌∷◌, map, length, get_or, refl, ap, sym, ◌∙◌, subst, arith}
use Rattle.std.specs.List.{AllByRecursion}
use Rattle.std.specs.List.Sorted.{ties}
use Rattle.std.proofs.lemmas.List.Elements.{recursion_from_All}
use Rattle.std.proofs.lemmas.List.Sorted.{sorted_far}
use Rattle.l4_model.specs.Machine.{Machine}
use Rattle.l4_core_model.specs.Letters.{Letter}
use Rattle.l4_core_model.specs.Local.{Local}
use Rattle.l4_core_model.specs.Runs.{System, Event, is_earlier, put_event, merged}
use Rattle.l4_merge.specs.Transitions.{Transition, told_by}
use Rattle.l4_merge.specs.Merges.{SortAsMerged}
use Rattle.l4_merge.proofs.Lists.{all-of_map}
use Rattle.l4_merge.proofs.EventOrder.{earlier_is_order, ties_when, ties_means, ties_itself}
use Rattle.l4_merge.proofs.Own.{own}
use Rattle.l4_merge.proofs.Arranged.{AreArranged, arranged, told-arranged, are_arranged}
use Rattle.l4_merge.proofs.Ahead.{AreAhead}
use Rattle.l4_merge.proofs.AnyOrder.{own_lead, own_same}
use Rattle.l4_merge.proofs.Ties.{tying, same_passed, tying_own, one_ties}

-- How many events there are

length-put : (e : Event) (xs : List Event) → length (put_event e xs) ≡ suc (length xs)
length-put e [] = refl
length-put e (x ∷ xs) = by (is_earlier e x) (length-put e xs)
  where
    by : (b : Bool) → length (put_event e xs) ≡ suc (length xs) → length (cond b (e ∷ x ∷ xs) (x ∷ put_event e xs)) ≡ suc (suc (length xs))
    by true rest = refl
    by false rest = ap suc rest

pub length-merged : (es : List Event) → length (merged es) ≡ length es
length-merged [] = refl
length-merged (e ∷ es) = length-put e (merged es) ∙ ap suc (length-merged es)

-- Lists of which no event is earlier than one before it

abbrev InOrder : List Event → Type 0
InOrder [] = Unit {0}
InOrder (e ∷ es) = AllByRecursion (λ x. is_earlier x e ≡ false) es × InOrder es

in_order_of : (xs : List Event) → ((i j : ℕ) (d : Event) → i ≤ j → j < length xs → is_earlier (get_or xs j d) (get_or xs i d) ≡ false) → InOrder xs
in_order_of [] far = tt
in_order_of (x ∷ xs) far = (
  recursion_from_All (λ (y : Event). is_earlier y x ≡ false) xs (λ k d lt. far 0 (suc k) d (omega arith) (omega arith)),
  in_order_of xs (λ i j d le lt. far (suc i) (suc j) d (omega arith) (omega arith)),
)

told_in_order : (ds : List Transition) → AreArranged ds → InOrder (map told_by ds)
told_in_order [] a = tt
told_in_order (d ∷ ds) a = (all-of_map (λ x. is_earlier x (told_by d) ≡ false) told_by ds a.0, told_in_order ds a.1)

-- Two such lists are one where the same events tie with each event

-- Of events that all have a property, one that ties has it.
find_tie : (P : Event → Type 0) (e first : Event) (ws rest : List Event) → AllByRecursion P ws → tying e ws ≡ first ∷ rest →
    (w : Event) × P w × (ties is_earlier e w ≡ true)
find_tie P e first [] rest a is = absurd cc
find_tie P e first (w ∷ ws) rest a is = by (ties is_earlier e w) refl is (λ is. find_tie P e first ws rest a.1 is)
  where
    by : (b : Bool) → ties is_earlier e w ≡ b → cond b (w ∷ tying e ws) (tying e ws) ≡ first ∷ rest →
        (tying e ws ≡ first ∷ rest → (w : Event) × P w × (ties is_earlier e w ≡ true)) → (w : Event) × P w × (ties is_earlier e w ≡ true)
    by true h is more = (w, a.0, h)
    by false h is more = more is

-- An event that ties with some of a list in order is not earlier than its first.
not_before_first : (e x first : Event) (xs rest : List Event) → InOrder (x ∷ xs) → tying e (x ∷ xs) ≡ first ∷ rest → is_earlier e x ≡ false
not_before_first e x first xs rest order is =
    let itself = (ties_means x x (ties_itself x)).0 in
    let found = find_tie (λ w. is_earlier w x ≡ false) e first (x ∷ xs) rest (itself, order.0) is in
    earlier_is_order.chain e found.0 x (ties_means e found.0 found.2).0 found.1

tie_first : (e : Event) (xs : List Event) → tying e (e ∷ xs) ≡ e ∷ tying e xs
tie_first e xs = ap (λ b. cond b (e ∷ tying e xs) (tying e xs)) (ties_itself e)

cancel : (b : Bool) (x : Event) (xs ys : List Event) → cond b (x ∷ xs) xs ≡ cond b (x ∷ ys) ys → xs ≡ ys
cancel true x xs ys h = cc
cancel false x xs ys h = h

same_order : (xs ys : List Event) → InOrder xs → InOrder ys → ((e : Event) → tying e xs ≡ tying e ys) → xs ≡ ys
same_order [] [] a b same = refl
same_order [] (y ∷ ys) a b same = let none = same y ∙ tie_first y ys in absurd cc
same_order (x ∷ xs) [] a b same = let none = sym (same x) ∙ tie_first x xs in absurd cc
same_order (x ∷ xs) (y ∷ ys) a b same =
    let x_first = sym (same x) ∙ tie_first x xs in
    let y_first = same y ∙ tie_first y ys in
    let tie = ties_when x y (not_before_first x y x ys (tying x xs) b x_first) (not_before_first y x y xs (tying y ys) a y_first) in
    let both : y ∷ tying x ys ≡ x ∷ tying x xs = subst (λ b. cond b (y ∷ tying x ys) (tying x ys) ≡ x ∷ tying x xs) tie x_first in
    let first : y ≡ x = cc in
    let rest : (e : Event) → tying e xs ≡ tying e ys =
    λ e. cancel (ties is_earlier e x) x (tying e xs) (tying e ys) (same e ∙ ap (λ z. cond (ties is_earlier e z) (z ∷ tying e ys) (tying e ys)) first) in
    ap (λ z. z ∷ xs) (sym first) ∙ ap (λ zs. y ∷ zs) (same_order xs ys a.1 b.1 rest)

-- The events of transitions that are still to be done, in any order: those of one processor rise, so no two tie.
pub sort_as_merged : (m : Machine) (g : System) (ds : List Transition) (ends : List Local) (left : (from to : ℕ) → List Letter) → AreAhead m g ds ends left →
    SortAsMerged (map told_by ds)
sort_as_merged m g ds ends left ahead sorted moved is_sorted =
    same_order sorted (map told_by (arranged ds)) (in_order_of sorted (sorted_far is_earlier earlier_is_order sorted is_sorted))
    (told_in_order (arranged ds) (are_arranged ds)) same ∙ told-arranged ds
  where
    few : (e : Event) → length (tying e (map told_by ds)) ≤ 1
    few e =
        let o = own_lead m g ds ends left ahead e.cpu in
        subst (λ es. length es ≤ 1) (sym (tying_own e ds)) (one_ties m e.cpu e o.was o.now (own e.cpu ds) o.lead)

    same : (e : Event) → tying e sorted ≡ tying e (map told_by (arranged ds))
    same e =
        same_passed (ties is_earlier e) (map told_by ds) sorted moved (few e) ∙ tying_own e ds
        ∙ ap (λ ds. tying e (map told_by ds)) (sym (own_same m g ds ends left ahead e.cpu)) ∙ sym (tying_own e (arranged ds))
