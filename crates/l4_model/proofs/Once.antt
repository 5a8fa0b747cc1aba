-- No send is delivered twice: each delivery of it takes away the one that it had left.
use Rattle.std.proofs.Common.{subst, ◌≡◌, ℕ, ◌+◌, ◌≤◌, Bool, true, false, cond, Option, Some, None, List, [], ◌∷◌, refl, ap, sym, ◌∙◌, arith}
use Rattle.std.proofs.lemmas.Bool.{eqb-true}
use Rattle.std.proofs.lemmas.Bool.Decides.{nat_tests}
use Rattle.std.specs.Prelude.{slice_get, nat_lt, ◌==◌, is_some}
use Rattle.std.proofs.lemmas.List.Sums.{sum_by-cons}
use Rattle.std.specs.Option.{option_map}
use Rattle.l4_model.specs.Machine.{Machine, place_of}
use Rattle.l4_model.specs.World.{World, Send, changed, opening, Name}
use Rattle.l4_model.specs.Steps.{Step, Begin, Deliver, Drop, next, OfSend, Failed}
use Rattle.l4_model.specs.Conditions.{◌>>=◌}
use Rattle.l4_model.specs.History.{run, reached}
use Rattle.l4_model.specs.Laws.{same_name, names, delivered_name, deliveries_of}
use Rattle.l4_model.proofs.Chains.{bind_then, some_is, get-changed_same, get-changed_other}
use Rattle.l4_model.proofs.Sends.{Status, statuses, with_begun, with_decided, Begins, Decides, Keeps, Effect, effect}
use Rattle.l4_model.proofs.Places.{same_name_is}

-- how many deliveries the k-th send of a thread may still have: 1 until it is decided
abbrev left : ℕ → Option Status → ℕ
left k None = 0
left k (Some x) = cond (nat_lt x.begun k) 1 (cond (x.begun == k) (cond (is_some x.send) 1 0) 0)

abbrev left_of : Machine → World → Name → ℕ
left_of m w s = left s.k (place_of m s.thread >>= slice_get (statuses w))

left_one : (k : ℕ) (o : Option Status) → left k o ≤ 1
left_one k None = omega arith
left_one k (Some x) = small (nat_lt x.begun k) (x.begun == k) (is_some x.send)
  where
    small : (a b c : Bool) → cond a 1 (cond b (cond c 1 0) 0) ≤ 1
    small true b c = omega arith
    small false true true = omega arith
    small false true false = omega arith
    small false false c = omega arith

left-begun : (k : ℕ) (send : Send) (o : Option Status) → left k (option_map (with_begun send) o) ≤ left k o
left-begun k send None = omega arith
left-begun k send (Some x) = grind (arith, nat_tests)

left-decided : (k : ℕ) (o : Option Status) → left k (option_map with_decided o) ≤ left k o
left-decided k None = omega arith
left-decided k (Some x) = grind (arith, nat_tests)

-- a change at one place that leaves the k-th send no more than it had
left_at : (k : ℕ) (f : Status → Status) → ((o : Option Status) → left k (option_map f o) ≤ left k o) →
    (xs ys : List Status) (i j : ℕ) → ys ≡ changed f xs i → left k (slice_get ys j) ≤ left k (slice_get xs j)
left_at k f h xs ys i j e = at_place (i == j) refl
  where
    at_place : (b : Bool) → (i == j) ≡ b → left k (slice_get ys j) ≤ left k (slice_get xs j)
    at_place true same =
        let same' : i ≡ j = eqb-true i j same in
        rw (e, ← same', get-changed_same f xs i) (h (slice_get xs i))
    at_place false other =
        let other' : i ≡ j → ⊥ = λ same. grind (arith, nat_tests) in
        rw (e, get-changed_other f xs i j other') (omega arith)

-- a change at one place, seen by a name
left_of_at : (m : Machine) (w v : World) (s : Name) (f : Status → Status) (i : ℕ) → ((o : Option Status) → left s.k (option_map f o) ≤ left s.k o) →
    statuses v ≡ changed f (statuses w) i → left_of m v s ≤ left_of m w s
left_of_at m w v s f i h e = named (place_of m s.thread)
  where
    named : (o : Option ℕ) → left s.k (o >>= slice_get (statuses v)) ≤ left s.k (o >>= slice_get (statuses w))
    named None = omega arith
    named (Some j) = left_at s.k f h (statuses w) (statuses v) i j e

kept_left : (m : Machine) (w v : World) (s : Name) → Keeps w v → left_of m v s ≤ left_of m w s
kept_left m w v s e = let same : left_of m v s ≡ left_of m w s = ap (λ xs. left s.k (place_of m s.thread >>= slice_get xs)) e in omega arith

begun_left : (m : Machine) (w v : World) (s t : Name) → Begins m w v t → left_of m v s ≤ left_of m w s
begun_left m w v s t b = left_of_at m w v s (with_begun b.send) b.place (left-begun s.k b.send) b.now

decided_left : (m : Machine) (w v : World) (s t : Name) → Decides m w v t → left_of m v s ≤ left_of m w s
decided_left m w v s t d = left_of_at m w v s with_decided d.place (left-decided s.k) d.now

-- what was undecided had one left, and has none
taken : (m : Machine) (w v : World) (s : Name) → Decides m w v s → 1 + left_of m v s ≤ left_of m w s
taken m w v s d =
    let before : left_of m w s ≡ 1 =
    ap (λ o. left s.k (o >>= slice_get (statuses w))) d.named ∙ ap (left s.k) d.was ∙ one d.old d.last d.undecided in
    let after : left_of m v s ≡ 0 =
    ap (λ o. left s.k (o >>= slice_get (statuses v))) d.named ∙ ap (λ xs. left s.k (slice_get xs d.place)) d.now
    ∙ ap (left s.k) (get-changed_same with_decided (statuses w) d.place ∙ ap (option_map with_decided) d.was) ∙ none d.old d.last in
    omega arith
  where
    one : (x : Status) → x.begun ≡ s.k → x.send ≡ Some d.send → left s.k (Some x) ≡ 1
    one x last has = rw has (grind (arith, nat_tests))

    none : (x : Status) → x.begun ≡ s.k → left s.k (Some (with_decided x)) ≡ 0
    none x last = grind (arith, nat_tests)

delivered_left : (m : Machine) (w v : World) (s t : Name) → Decides m w v t → cond (same_name s t) 1 0 + left_of m v s ≤ left_of m w s
delivered_left m w v s t d = by (same_name s t) refl
  where
    by : (b : Bool) → same_name s t ≡ b → cond b 1 0 + left_of m v s ≤ left_of m w s
    by true same = let same' = same_name_is s t same in taken m w v s (subst (Decides m w v) (sym same') d)
    by false actual = let h = decided_left m w v s t d in omega arith

step_left : (m : Machine) (w v : World) (s : Name) (step : Step) → Effect m w v step → cond (names s (delivered_name step)) 1 0 + left_of m v s ≤ left_of m w s
step_left m w v s (Begin t) e = let h = begun_left m w v s t e in omega arith
step_left m w v s (Deliver t receiver shown actual tag words) e = delivered_left m w v s t e
step_left m w v s (OfSend (Failed why) t) e = let h = decided_left m w v s t e in omega arith
step_left m w v s (Drop t) e = let h = decided_left m w v s t e in omega arith
step_left m w v s _ e = let h = kept_left m w v s e in omega arith

-- over a whole run
run_left : (m : Machine) (s : Name) (h : List Step) (w v : World) → run m w h ≡ Some v → deliveries_of s h + left_of m v s ≤ left_of m w s
run_left m s [] w v r = let e = kept_left m w v s (ap statuses (sym (some_is w v r))) in omega arith
run_left m s (step ∷ h) w v r =
    bind_then (next m w step) (λ u. run m u h) v r λ u is rest.
    let first = step_left m w u s step (effect m w u step is) in
    let others = run_left m s h u v rest in
    let both : deliveries_of s (step ∷ h) ≡ cond (names s (delivered_name step)) 1 0 + deliveries_of s h =
    sum_by-cons (λ x. cond (names s (delivered_name x)) 1 0) step h in
    omega arith

pub at_most_once : (m : Machine) (h : List Step) (w : World) → reached m h ≡ Some w → (s : Name) → deliveries_of s h ≤ 1
at_most_once m h w r s =
    let all = run_left m s h (opening m) w r in
    let one = left_one s.k (place_of m s.thread >>= slice_get (statuses (opening m))) in
    omega arith
