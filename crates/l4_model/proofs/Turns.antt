-- A receiver takes the first waiting sender that it accepts.
use Rattle.std.proofs.Common.{subst, ◌≡◌, ℕ, suc, ◌+◌, Bool, true, false, cond, Option, Some, None, List, [], ◌∷◌, refl, ap, sym, ◌∙◌, arith}
use Rattle.std.proofs.lemmas.Bool.{eqb-true}
use Rattle.std.proofs.lemmas.Bool.Decides.{nat_tests}
use Rattle.std.specs.Prelude.{slice_get, ◌==◌, ◌&&◌, is_some, find, filter_map}
use Rattle.std.specs.List.{AllByRecursion, before_first, position_or_len, cons_option}
use Rattle.l4_model.specs.Words.{GlobalId, Id, NilThread, AnyThread, AnyLocalThread, LocalThread, GlobalThread, same_id}
use Rattle.l4_model.specs.Machine.{Machine, place_of}
use Rattle.l4_model.specs.World.{World, Receive, opening, receive_now, Name}
use Rattle.l4_model.specs.Rules.{accepts}
use Rattle.l4_model.specs.Steps.{Step, Deliver, next}
use Rattle.l4_model.specs.Conditions.{Found, Pending, found, found_by, undecided, receiver_of, shows_accepted, ◌>>◌}
use Rattle.l4_model.specs.History.{run, reached}
use Rattle.l4_model.specs.Laws.{same_name, queued_name, queued_before, is_awaited, TakesTurns}
use Rattle.l4_model.proofs.Chains.{bind_then, guard_then, some_is, get-map}
use Rattle.l4_model.proofs.Sends.{Status, status, statuses}
use Rattle.l4_model.proofs.Sound.{opening_sound}
use Rattle.l4_model.proofs.Deleted.{parted}
use Rattle.l4_model.proofs.Inversions.{DeliverTaken, deliver_taken}
use Rattle.l4_model.proofs.Sizes.{opening_sized}
use Rattle.l4_model.proofs.Queues.{goes, listed_at, listed, begun_at, MakeLists, listed_is, run_makes, opening_makes}
use Rattle.l4_model.proofs.Places.{and_true, same_id_is, same_name_refl, known_send, one_place, id_of, found_place}
use Rattle.l4_model.specs.Reached.{place_to}

-- What is known of a send that the receiver awaits.
record Awaited (m : Machine) (w : World) (receiver : GlobalId) (s : Name) : Type 0 where
  p : Pending
  is_undecided : undecided m w s ≡ Some p
  r : Found
  to : receiver_of m w p ≡ Some r
  same : same_id receiver r.declared.id ≡ true
  receive : Receive
  receiving : receive_now r.now.phase ≡ Some receive
  accepted : accepts m receive.from p.send.message.shown receiver ≡ true

some_of : {A P : Type 0} (o : Option A) → is_some o ≡ true → ((x : A) → o ≡ Some x → P) → P
some_of None h then = cc
some_of (Some x) h then = then x refl

awaited : (m : Machine) (w : World) (receiver : GlobalId) (s : Name) → is_awaited m w receiver s ≡ true → Awaited m w receiver s
awaited m w receiver s h =
    some_of _ h λ y chain.
    bind_then (undecided m w s) _ y chain λ p is rest.
    bind_then (receiver_of m w p) _ y rest λ r to rest.
    guard_then (same_id receiver r.declared.id) _ y rest λ same rest.
    bind_then (receive_now r.now.phase) _ y rest λ receive receiving rest.
    guard_then (accepts m receive.from p.send.message.shown receiver) _ y rest λ accepted rest.
    record { p = p; is_undecided = is; r = r; to = to; same = same; receive = receive; receiving = receiving; accepted = accepted }

-- two ids that name threads of one id name one thread
one_receiver : (m : Machine) (w : World) (a b : Id) (r x : Found) → found_by m w a ≡ Some r → found_by m w b ≡ Some x → r.declared.id ≡ x.declared.id → r ≡ x
one_receiver m w NilThread b r x ra xb same = cc
one_receiver m w AnyThread b r x ra xb same = cc
one_receiver m w AnyLocalThread b r x ra xb same = cc
one_receiver m w (LocalThread word) b r x ra xb same = cc
one_receiver m w (GlobalThread s) NilThread r x ra xb same = cc
one_receiver m w (GlobalThread s) AnyThread r x ra xb same = cc
one_receiver m w (GlobalThread s) AnyLocalThread r x ra xb same = cc
one_receiver m w (GlobalThread s) (LocalThread word) r x ra xb same = cc
one_receiver m w (GlobalThread s) (GlobalThread t) r x ra xb same =
    let one : s ≡ t = sym (id_of m w s r ra).0 ∙ same ∙ (id_of m w t x xb).0 in
    some_is r x (sym ra ∙ ap (found m w) one ∙ xb)

-- What the list of a receiver says of a name: that it is accepted.
abbrev shows : Machine → World → GlobalId → Id → ℕ → Bool
shows m w receiver from i = shows_accepted m from receiver (slice_get w.threads i)

record IsShown (m : Machine) (w : World) (r : Found) (from : Id) (s : Name) : Type 0 where
  place : ℕ
  stands : listed m (statuses w) r.at s ≡ Some place
  passes : shows m w r.declared.id from place ≡ true

awaited_shown : (m : Machine) (w : World) (v : World) (s t : Name) (receiver shown actual : GlobalId) (tag : ℕ) (words : List ℕ) (k : DeliverTaken m w v s receiver shown actual tag words) →
    is_awaited m w receiver t ≡ true → IsShown m w k.r k.receive.from t
awaited_shown m w v s t receiver shown actual tag words k h =
    let a = awaited m w receiver t h in
    let known = known_send m w t a.p a.is_undecided in
    let id : receiver ≡ k.r.declared.id = same_id_is receiver k.r.declared.id k.same_receiver in
    let one : k.r ≡ a.r = one_receiver m w k.p.send.to a.p.send.to k.r a.r k.to a.to (sym id ∙ same_id_is receiver a.r.declared.id a.same) in
    let receive : a.receive ≡ k.receive = some_is a.receive k.receive (sym a.receiving ∙ ap (λ (x : Found). receive_now x.now.phase) (sym one) ∙ k.receiving) in
    let at : place_to m a.p.send.to ≡ Some k.r.at = found_place m w a.p.send.to a.r a.to ∙ ap (λ (x : Found). Some x.at) (sym one) in
    let same : (k.r.at == k.r.at) ≡ true = grind (arith, nat_tests) in
    let stands : listed m (statuses w) k.r.at t ≡ (k.r.at == k.r.at) >> Some a.p.sender.at = listed_is m w t a.p k.r.at k.r.at a.is_undecided at in
    let passes : accepts m k.receive.from a.p.send.message.shown k.r.declared.id ≡ true =
    ap (λ (x : Receive). accepts m x.from a.p.send.message.shown k.r.declared.id) (sym receive) ∙ ap (accepts m a.receive.from a.p.send.message.shown) (sym id) ∙ a.accepted in
    record { place = a.p.sender.at; stands = stands ∙ ap (λ b. b >> Some a.p.sender.at) same; passes = rw (known.sender.now, known.send) passes }

unless : (b : Bool) → ((b ≡ true) → ⊥) → b ≡ false
unless true no_way = absurd (no_way refl)
unless false no_way = refl

-- the name that a place stands for
listed_name : (m : Machine) (all : List Status) (j i : ℕ) (s : Name) → listed m all j s ≡ Some i → (place_of m s.thread ≡ Some i) × (begun_at (slice_get all i) ≡ s.k)
listed_name m all j i s h =
    bind_then (place_of m s.thread) _ i h λ x at rest.
    let here : x ≡ i = of x (slice_get all x) rest in
    (at ∙ ap Some here, subst (λ y. begun_at (slice_get all y) ≡ s.k) here (last x (slice_get all x) rest))
  where
    of : (x : ℕ) (o : Option Status) → listed_at m j s.k x o ≡ Some i → x ≡ i
    of x None h = cc
    of x (Some y) h = guard_then ((y.begun == s.k) && goes m j y.send) (Some x) i h λ test rest. some_is x i rest

    last : (x : ℕ) (o : Option Status) → listed_at m j s.k x o ≡ Some i → begun_at o ≡ s.k
    last x None h = cc
    last x (Some y) h = guard_then ((y.begun == s.k) && goes m j y.send) (Some x) i h λ test rest. eqb-true y.begun s.k (and_true (y.begun == s.k) (goes m j y.send) test).0

same_name_from : (s t : Name) → s.thread ≡ t.thread → s.k ≡ t.k → same_name s t ≡ true
same_name_from s t thread k = ap (λ (x : GlobalId). same_id s.thread x && (s.k == t.k)) (sym thread) ∙ ap (λ n. same_id s.thread s.thread && (s.k == n)) (sym k) ∙ same_name_refl s

-- what stands before the first that passes
before_first-here : (p : Name → Bool) (x : Name) (xs : List Name) → p x ≡ true → before_first p (x ∷ xs) ≡ []
before_first-here p x xs h = rw h

before_first-later : (p : Name → Bool) (x : Name) (xs : List Name) → p x ≡ false → before_first p (x ∷ xs) ≡ x ∷ before_first p xs
before_first-later p x xs h = let more : 1 + position_or_len p xs ≡ suc (position_or_len p xs) = omega arith in rw (h, more)

-- Before the first listed name that passes there is none that is awaited.
first_passes : (s : Name) (f : Name → Option ℕ) (P : ℕ → Bool) (awaits : Name → Bool) (i : ℕ) → ((t : Name) → f t ≡ Some i → same_name s t ≡ true) →
    ((t : Name) → awaits t ≡ true → (x : ℕ) × (f t ≡ Some x) × (P x ≡ true)) →
    (names : List Name) → find P (filter_map f names) ≡ Some i → AllByRecursion (λ t. awaits t ≡ false) (before_first (same_name s) names)
first_passes s f P awaits i name shown [] first = tt
first_passes s f P awaits i name shown (t ∷ names) first = by (same_name s t) refl (first_passes s f P awaits i name shown names)
  where
    on : (o : Option ℕ) → f t ≡ o → same_name s t ≡ false → find P (cons_option o (filter_map f names)) ≡ Some i → (awaits t ≡ false) × (find P (filter_map f names) ≡ Some i)
    on None e other first = (unless (awaits t) (λ h. let x = shown t h in cc), first)
    on (Some x) e other first = passed (P x) refl first
      where
        passed : (b : Bool) → P x ≡ b → cond b (Some x) (find P (filter_map f names)) ≡ Some i → (awaits t ≡ false) × (find P (filter_map f names) ≡ Some i)
        passed true passes first = let is = name t (e ∙ first) in cc
        passed false out first = (unless (awaits t) (λ h. let x = shown t h in cc), first)

    by : (b : Bool) → same_name s t ≡ b → (find P (filter_map f names) ≡ Some i → AllByRecursion (λ t. awaits t ≡ false) (before_first (same_name s) names)) →
        AllByRecursion (λ t. awaits t ≡ false) (before_first (same_name s) (t ∷ names))
    by true same rest = subst (AllByRecursion (λ t. awaits t ≡ false)) (sym (before_first-here (same_name s) t names same)) tt
    by false other rest =
        let both = on (f t) refl other first in
        subst (AllByRecursion (λ t. awaits t ≡ false)) (sym (before_first-later (same_name s) t names other)) (both.0, rest both.1)

delivery_takes_turn : (m : Machine) (w v : World) (s : Name) (receiver shown actual : GlobalId) (tag : ℕ) (words : List ℕ) (h : List Step) →
    DeliverTaken m w v s receiver shown actual tag words → MakeLists m (statuses w) w.waiting (filter_map queued_name h) → AllByRecursion (λ t. is_awaited m w receiver t ≡ false) (queued_before s h)
delivery_takes_turn m w v s receiver shown actual tag words h k makes =
    first_passes s (listed m (statuses w) k.r.at) (shows m w k.r.declared.id k.receive.from) (is_awaited m w receiver) k.first name
    (λ t awaits. let x = awaited_shown m w v s t receiver shown actual tag words k awaits in (x.place, x.stands, x.passes))
    (filter_map queued_name h)
    (ap (find (shows m w k.r.declared.id k.receive.from)) (sym (makes.lists_are k.r.at)) ∙ k.first_is)
  where
    name : (t : Name) → listed m (statuses w) k.r.at t ≡ Some k.first → same_name s t ≡ true
    name t stands =
        let it = listed_name m (statuses w) k.r.at k.first t stands in
        let known = known_send m w s k.p k.is_undecided in
        let first : k.first ≡ k.p.sender.at = eqb-true k.first k.p.sender.at k.is_first in
        let now : slice_get (statuses w) k.p.sender.at ≡ Some (status k.p.sender.now) = get-map status w.threads k.p.sender.at k.p.sender.now known.sender.now in
        let number : k.p.sender.now.context.begun ≡ t.k = ap begun_at (sym now) ∙ ap (λ i. begun_at (slice_get (statuses w) i)) (sym first) ∙ it.1 in
        same_name_from s t (one_place m s.thread t.thread k.p.sender.at known.sender.place (it.0 ∙ ap Some first)) (sym known.last ∙ number)

pub takes_turns : (m : Machine) (h : List Step) (v : World) → reached m h ≡ Some v → TakesTurns m h
takes_turns m h v r before after s receiver shown actual tag words w split first =
    let step : Step = Deliver s receiver shown actual tag words in
    let p = parted m before (step ∷ after) (opening m) v (ap (reached m) (sym split) ∙ r) in
    let same : p.between ≡ w = some_is p.between w (sym p.first ∙ first) in
    bind_then (next m p.between step) (λ x. run m x after) v p.second λ x is rest.
    subst (λ u. AllByRecursion (λ t. is_awaited m u receiver t ≡ false) (queued_before s before)) same
    (delivery_takes_turn m p.between x s receiver shown actual tag words before (deliver_taken m p.between x s receiver shown actual tag words is)
    (run_makes m before (opening m) p.between [] p.first (opening_sized m) (opening_sound m) (opening_makes m)))
