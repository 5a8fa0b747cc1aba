-- What one thread sends arrives in order: the number of a send that may yet be delivered only grows.
use Rattle.std.proofs.Common.{subst, ◌≡◌, ℕ, ◌+◌, ◌<◌, ◌≤◌, Bool, true, false, cond, Option, Some, None, List, [], ◌∷◌, refl, ap, sym, ◌∙◌, arith}
use Rattle.std.proofs.lemmas.Bool.{eqb-true}
use Rattle.std.proofs.lemmas.Bool.Decides.{nat_tests}
use Rattle.std.specs.Prelude.{slice_get, ◌==◌, ◌&&◌, is_some, filter_map}
use Rattle.std.specs.List.{AllByRecursion, cons_option}
use Rattle.std.specs.Option.{option_map}
use Rattle.l4_model.specs.Words.{GlobalId, same_id}
use Rattle.l4_model.specs.Machine.{Machine, place_of}
use Rattle.l4_model.specs.World.{World, Send, changed, opening, Name}
use Rattle.l4_model.specs.Steps.{Step, Begin, Deliver, Drop, next, OfSend, Failed}
use Rattle.l4_model.specs.Conditions.{◌>>=◌}
use Rattle.l4_model.specs.History.{run, reached}
use Rattle.l4_model.specs.Laws.{number_between, IsRising}
use Rattle.l4_model.proofs.Chains.{bind_then, get-changed_same, get-changed_other}
use Rattle.l4_model.proofs.Sends.{Status, statuses, with_begun, with_decided, Begins, Decides, Keeps, Effect, effect}
use Rattle.l4_model.proofs.Places.{and_true, same_id_is}

-- the least number of a send of this thread that may yet be delivered
abbrev least : Option Status → ℕ
least None = 0
least (Some x) = cond (is_some x.send) x.begun (x.begun + 1)

abbrev least_of : Machine → World → GlobalId → ℕ
least_of m w t = least (place_of m t >>= slice_get (statuses w))

least-begun : (send : Send) (o : Option Status) → least o ≤ least (option_map (with_begun send) o)
least-begun send None = omega arith
least-begun send (Some x) = grind (arith, nat_tests)

least-decided : (o : Option Status) → least o ≤ least (option_map with_decided o)
least-decided None = omega arith
least-decided (Some x) = grind (arith, nat_tests)

grows_at : (f : Status → Status) → ((o : Option Status) → least o ≤ least (option_map f o)) →
    (xs ys : List Status) (i j : ℕ) → ys ≡ changed f xs i → least (slice_get xs j) ≤ least (slice_get ys j)
grows_at f h xs ys i j e = at_place (i == j) refl
  where
    at_place : (b : Bool) → (i == j) ≡ b → least (slice_get xs j) ≤ least (slice_get ys j)
    at_place true same =
        let same' : i ≡ j = eqb-true i j same in
        rw (e, ← same', get-changed_same f xs i) (h (slice_get xs i))
    at_place false other =
        let other' : i ≡ j → ⊥ = λ same. grind (arith, nat_tests) in
        rw (e, get-changed_other f xs i j other') (omega arith)

grows : (m : Machine) (w v : World) (t : GlobalId) (f : Status → Status) (i : ℕ) → ((o : Option Status) → least o ≤ least (option_map f o)) →
    statuses v ≡ changed f (statuses w) i → least_of m w t ≤ least_of m v t
grows m w v t f i h e = named (place_of m t)
  where
    named : (o : Option ℕ) → least (o >>= slice_get (statuses w)) ≤ least (o >>= slice_get (statuses v))
    named None = omega arith
    named (Some j) = grows_at f h (statuses w) (statuses v) i j e

-- What a step may deliver, between what was least before and what is least after it.
abbrev Between : (before after : ℕ) → Option ℕ → Type 0
Between before after None = before ≤ after
Between before after (Some k) = (before ≤ k) × (k < after)

kept_between : (m : Machine) (w v : World) (t : GlobalId) → Keeps w v → least_of m w t ≤ least_of m v t
kept_between m w v t e = let same : least_of m v t ≡ least_of m w t = ap (λ xs. least (place_of m t >>= slice_get xs)) e in omega arith

begun_between : (m : Machine) (w v : World) (t : GlobalId) (s : Name) → Begins m w v s → least_of m w t ≤ least_of m v t
begun_between m w v t s b = grows m w v t (with_begun b.send) b.place (least-begun b.send) b.now

decided_between : (m : Machine) (w v : World) (t : GlobalId) (s : Name) → Decides m w v s → least_of m w t ≤ least_of m v t
decided_between m w v t s d = grows m w v t with_decided d.place least-decided d.now

taken_between : (m : Machine) (w v : World) (s : Name) → Decides m w v s → (least_of m w s.thread ≤ s.k) × (s.k < least_of m v s.thread)
taken_between m w v s d =
    let before : least_of m w s.thread ≡ s.k =
    ap (λ o. least (o >>= slice_get (statuses w))) d.named ∙ ap least d.was ∙ one d.old d.last d.undecided in
    let after : least_of m v s.thread ≡ s.k + 1 =
    ap (λ o. least (o >>= slice_get (statuses v))) d.named ∙ ap (λ xs. least (slice_get xs d.place)) d.now
    ∙ ap least (get-changed_same with_decided (statuses w) d.place ∙ ap (option_map with_decided) d.was) ∙ ap (λ n. n + 1) d.last in
    (omega arith, omega arith)
  where
    one : (x : Status) → x.begun ≡ s.k → x.send ≡ Some d.send → least (Some x) ≡ s.k
    one x last has = rw has last

delivered_between : (m : Machine) (w v : World) (from to receiver : GlobalId) (s : Name) → Decides m w v s →
    Between (least_of m w from) (least_of m v from) (cond (same_id from s.thread && same_id to receiver) (Some s.k) None)
delivered_between m w v from to receiver s d = by (same_id from s.thread && same_id to receiver) refl
  where
    by : (b : Bool) → (same_id from s.thread && same_id to receiver) ≡ b → Between (least_of m w from) (least_of m v from) (cond b (Some s.k) None)
    by true both =
        let same = same_id_is from s.thread (and_true (same_id from s.thread) (same_id to receiver) both).0 in
        subst (λ t. (least_of m w t ≤ s.k) × (s.k < least_of m v t)) (sym same) (taken_between m w v s d)
    by false actual = decided_between m w v from s d

step_between : (m : Machine) (w v : World) (from to : GlobalId) (step : Step) → Effect m w v step →
    Between (least_of m w from) (least_of m v from) (number_between from to step)
step_between m w v from to (Begin s) e = begun_between m w v from s e
step_between m w v from to (Deliver s receiver shown actual tag words) e = delivered_between m w v from to receiver s e
step_between m w v from to (OfSend (Failed why) s) e = decided_between m w v from s e
step_between m w v from to (Drop s) e = decided_between m w v from s e
step_between m w v from to _ e = kept_between m w v from e

-- numbers that rise, from a least one on
record RisesFrom (a : ℕ) (xs : List ℕ) : Type 0 where
  above : AllByRecursion (λ k. a ≤ k) xs
  rising : IsRising xs

weaker : (a b : ℕ) (xs : List ℕ) → a ≤ b → AllByRecursion (λ k. b ≤ k) xs → AllByRecursion (λ k. a ≤ k) xs
weaker a b [] le h = tt
weaker a b (x ∷ xs) le h = (omega (arith, h.0), weaker a b xs le h.1)

above : (k b : ℕ) (xs : List ℕ) → k < b → AllByRecursion (λ x. b ≤ x) xs → AllByRecursion (λ x. k < x) xs
above k b [] lt h = tt
above k b (x ∷ xs) lt h = (omega (arith, h.0), above k b xs lt h.1)

rises_on : (a b : ℕ) (o : Option ℕ) (xs : List ℕ) → Between a b o → RisesFrom b xs → RisesFrom a (cons_option o xs)
rises_on a b None xs le h = record { above = weaker a b xs le h.above; rising = h.rising }
rises_on a b (Some k) xs both h =
    record {
      above = (both.0, weaker a b xs (omega (arith, both.0, both.1)) h.above);
      rising = (above k b xs both.1 h.above, h.rising);
    }

run_rises : (m : Machine) (from to : GlobalId) (h : List Step) (w v : World) → run m w h ≡ Some v →
    RisesFrom (least_of m w from) (filter_map (number_between from to) h)
run_rises m from to [] w v r = record { above = tt; rising = tt }
run_rises m from to (step ∷ h) w v r =
    bind_then (next m w step) (λ u. run m u h) v r λ u is rest.
    rises_on _ _ (number_between from to step) _ (step_between m w u from to step (effect m w u step is)) (run_rises m from to h u v rest)

pub in_order : (m : Machine) (h : List Step) (w : World) → reached m h ≡ Some w → (from to : GlobalId) → IsRising (filter_map (number_between from to) h)
in_order m h w r from to = (run_rises m from to h (opening m) w r).rising
