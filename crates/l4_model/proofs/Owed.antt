-- What each step does to the owed retargets, and what is true of them.
use Rattle.std.proofs.Common.{subst, ◌≡◌, ℕ, ◌+◌, ◌≤◌, Bool, true, false, cond, Option, Some, None, List, [], ◌∷◌, ◌++◌, map, refl, ap, sym, ◌∙◌, arith, ⊎_elim, append_assoc, append-nil}
use Rattle.std.proofs.Math.ListN.{get_or-map}
use Rattle.std.proofs.lemmas.List.Sums.{sum_by-append, sum_by-cons}
use Rattle.std.specs.Prelude.{slice_get, ◌&&◌, ◌||◌, not, is_some, IfSome, filter, slice_index}
use Rattle.std.specs.List.{AllByRecursion}
use Rattle.l4_model.specs.Words.{GlobalId, Id, NilThread, AnyThread, AnyLocalThread, LocalThread, GlobalThread, same_id, is_id_of}
use Rattle.l4_model.specs.Machine.{Machine, place_of, is_declared}
use Rattle.l4_model.specs.World.{World, Message, Owed, Name, same_name, opening, is_in, list_at, changed, others_owed, one_more, must_wait}
use Rattle.l4_model.specs.Rules.{owed_by}
use Rattle.l4_model.specs.Conditions.{Found, found_by}
use Rattle.l4_model.specs.Steps.{Step, OfThread, OfSend, Begun, Queued, Failed, Dropped, Retargeted, Deliver, Order, Tick, Retarget, next}
use Rattle.l4_model.specs.History.{run, reached}
use Rattle.l4_model.specs.Laws.{names, delivered_name, deliveries_of}
use Rattle.l4_model.specs.Reached.{IsOwedAmong, AreNamedOnce, IsOwedApart, ThreadFacts, IsSendOf}
use Rattle.l4_model.proofs.Chains.{bind_then, some_is, get-map}
use Rattle.l4_model.proofs.Inversions.{begin_taken, QueueTaken, queue_taken, DeliverTaken, deliver_taken, send_failed, drop_taken, order_taken, tick_taken, retarget_taken, thread_alone}
use Rattle.l4_model.proofs.Places.{same_id_is, same_name_is, same_name_refl, known, known_send, sender_found, one_place, eqb_same, receiver_place, receiver_there, id_of}
use Rattle.l4_model.proofs.Once.{at_most_once}
use Rattle.l4_model.proofs.Sends.{status, statuses}
use Rattle.l4_model.proofs.Sound.{AreSound, receiving_has_none}
use Rattle.l4_model.proofs.Lists.{GoesTo, Listed, Unlists, ListEffect, list_effect, without, in_append, changed_cases, not_in_filter}
use Rattle.std.proofs.lemmas.Bool.{not-true}

-- all of them
all_filter : (P : Owed → Type 0) (p : Owed → Bool) (os : List Owed) → AllByRecursion P os → AllByRecursion P (filter p os)
all_filter P p [] h = tt
all_filter P p (o ∷ os) h = by (p o) (all_filter P p os h.1)
  where
    by : (b : Bool) → AllByRecursion P (filter p os) → AllByRecursion P (cond b (o ∷ filter p os) (filter p os))
    by true rest = (h.0, rest)
    by false rest = rest

all_one_more : (P : Owed → Type 0) (o : Option Owed) (os : List Owed) → AllByRecursion P os → IfSome o P → AllByRecursion P (one_more o os)
all_one_more P None os h new = h
all_one_more P (Some o) [] h new = (new, tt)
all_one_more P (Some o) (x ∷ os) h new = (h.0, all_one_more P (Some o) os h.1 new)

all_as : (P Q : Owed → Type 0) (os : List Owed) → ((o : Owed) → P o → Q o) → AllByRecursion P os → AllByRecursion Q os
all_as P Q [] f h = tt
all_as P Q (o ∷ os) f h = (f o h.0, all_as P Q os f h.1)

-- what a delivery leaves owed
pub owed_by_is : (P : Owed → Type 0) (m : Machine) (s : Name) (message : Message) (receiver : GlobalId) →
    P (record { send = s; originator = message.shown; old_partner = message.actual; new_partner = receiver }) → IfSome (owed_by m s message receiver) P
owed_by_is P m s message receiver h = by (m.retargeting && message.propagated)
  where
    by : (b : Bool) → IfSome (cond b (Some (record { send = s; originator = message.shown; old_partner = message.actual; new_partner = receiver })) None) P
    by true = h
    by false = tt

-- in profile 2
owed_by_in : (P : Owed → Type 0) (m : Machine) (s : Name) (message : Message) (receiver : GlobalId) →
    (m.retargeting ≡ true → P (record { send = s; originator = message.shown; old_partner = message.actual; new_partner = receiver })) →
    IfSome (owed_by m s message receiver) P
owed_by_in P m s message receiver h = by m.retargeting refl message.propagated
  where
    by : (a : Bool) → m.retargeting ≡ a → (b : Bool) →
        IfSome (cond (a && b) (Some (record { send = s; originator = message.shown; old_partner = message.actual; new_partner = receiver })) None) P
    by true is true = h is
    by true is false = tt
    by false is b = tt

-- what a step does to them
abbrev pub OwedEffect : Machine → World → World → Step → Type 0
OwedEffect m w v (Deliver s receiver shown actual tag words) = DeliverTaken m w v s receiver shown actual tag words
OwedEffect m w v (Retarget s) = v.owed ≡ others_owed w.owed s
OwedEffect m w v _ = v.owed ≡ w.owed

abbrev owed_in : World → List Owed
owed_in w = w.owed

pub owed_effect : (m : Machine) (w v : World) (step : Step) → next m w step ≡ Some v → OwedEffect m w v step
owed_effect m w v (OfThread kind id) h = (thread_alone m w v kind id h).owed
owed_effect m w v (OfSend Begun s) h = ap owed_in (sym (begin_taken m w v s h).leads_to)
owed_effect m w v (OfSend Queued s) h = ap owed_in (sym (queue_taken m w v s h).leads_to)
owed_effect m w v (OfSend (Failed why) s) h = ap owed_in (sym (send_failed m w v s why h).leads_to)
owed_effect m w v (OfSend Dropped s) h = ap owed_in (sym (drop_taken m w v s h).leads_to)
owed_effect m w v (OfSend Retargeted s) h = ap owed_in (sym (retarget_taken m w v s h).leads_to)
owed_effect m w v (Deliver s receiver shown actual tag words) h = deliver_taken m w v s receiver shown actual tag words h
owed_effect m w v (Order caller target what) h = ap owed_in (sym (order_taken m w v caller target what h).leads_to)
owed_effect m w v (Tick cpu clock) h = ap owed_in (sym (tick_taken m w v cpu clock h).leads_to)

delivered_owed : (m : Machine) (w v : World) (s : Name) (receiver shown actual : GlobalId) (tag : ℕ) (words : List ℕ) →
    (k : DeliverTaken m w v s receiver shown actual tag words) → v.owed ≡ one_more (owed_by m s k.p.send.message receiver) w.owed
delivered_owed m w v s receiver shown actual tag words k = ap owed_in (sym k.leads_to)

-- Each is named once

-- Its send was delivered.
record AreDelivered (h : List Step) (os : List Owed) : Type 0 where
  delivered : AllByRecursion (λ o. 1 ≤ deliveries_of o.send h) os
  once : AreNamedOnce os

deliveries_last : (s : Name) (h : List Step) (step : Step) → deliveries_of s (h ++ step ∷ []) ≡ deliveries_of s h + cond (names s (delivered_name step)) 1 0
deliveries_last s h step =
    let one : deliveries_of s (step ∷ []) ≡ cond (names s (delivered_name step)) 1 0 + deliveries_of s [] = sum_by-cons (λ x. cond (names s (delivered_name x)) 1 0) step [] in
    let none : deliveries_of s [] ≡ 0 = refl in
    let all : deliveries_of s (h ++ step ∷ []) ≡ deliveries_of s h + deliveries_of s (step ∷ []) = sum_by-append (λ x. cond (names s (delivered_name x)) 1 0) h (step ∷ []) in
    omega arith

once_filter : (p : Owed → Bool) (os : List Owed) → AreNamedOnce os → AreNamedOnce (filter p os)
once_filter p [] h = tt
once_filter p (o ∷ os) h = by (p o) (all_filter (λ x. same_name o.send x.send ≡ false) p os h.0) (once_filter p os h.1)
  where
    by : (b : Bool) → AllByRecursion (λ x. same_name o.send x.send ≡ false) (filter p os) → AreNamedOnce (filter p os) → AreNamedOnce (cond b (o ∷ filter p os) (filter p os))
    by true apart rest = (apart, rest)
    by false apart rest = rest

once_one_more : (o : Option Owed) (os : List Owed) → AreNamedOnce os → IfSome o (λ n. AllByRecursion (λ x. same_name x.send n.send ≡ false) os) → AreNamedOnce (one_more o os)
once_one_more None os h new = h
once_one_more (Some n) [] h new = (tt, tt)
once_one_more (Some n) (x ∷ os) h new = (all_one_more (λ y. same_name x.send y.send ≡ false) (Some n) os h.0 new.0, once_one_more (Some n) os h.1 new.1)

-- a name that was delivered is not delivered again
fresh : (m : Machine) (h : List Step) (v : World) (s : Name) (step : Step) → delivered_name step ≡ Some s → reached m (h ++ step ∷ []) ≡ Some v →
    (x : Owed) → 1 ≤ deliveries_of x.send h → same_name x.send s ≡ false
fresh m h v s step names_it r x before = by (same_name x.send s) refl
  where
    by : (b : Bool) → same_name x.send s ≡ b → b ≡ false
    by false is = refl
    by true is =
        let one : x.send ≡ s = same_name_is x.send s is in
        let once : deliveries_of s (h ++ step ∷ []) ≤ 1 = at_most_once m (h ++ step ∷ []) v r s in
        let all : deliveries_of s (h ++ step ∷ []) ≡ deliveries_of s h + cond (names s (delivered_name step)) 1 0 = deliveries_last s h step in
        let here : ◌≡◌ {A = ℕ} (cond (names s (delivered_name step)) 1 0) 1 = ap (λ o. cond (names s o) 1 0) names_it ∙ ap (λ b. cond b 1 0) (same_name_refl s) in
        let earlier : 1 ≤ deliveries_of s h = subst (λ n. 1 ≤ deliveries_of n h) one before in
        absurd (omega arith)

later_delivered : (h : List Step) (step : Step) (os : List Owed) → AreDelivered h os → AreDelivered (h ++ step ∷ []) os
later_delivered h step os d = record {
  delivered = all_as (λ o. 1 ≤ deliveries_of o.send h) (λ o. 1 ≤ deliveries_of o.send (h ++ step ∷ [])) os
      (λ o le. let all = deliveries_last o.send h step in omega arith) d.delivered;
  once = d.once;
}

step_delivered : (m : Machine) (h : List Step) (w v : World) (step : Step) → OwedEffect m w v step → reached m (h ++ step ∷ []) ≡ Some v →
    AreDelivered h w.owed → AreDelivered (h ++ step ∷ []) v.owed
step_delivered m h w v (Deliver s receiver shown actual tag words) e r d =
    let step : Step = Deliver s receiver shown actual tag words in
    let later = later_delivered h step w.owed d in
    let all : deliveries_of s (h ++ step ∷ []) ≡ deliveries_of s h + cond (names s (delivered_name step)) 1 0 = deliveries_last s h step in
    let here : ◌≡◌ {A = ℕ} (cond (names s (delivered_name step)) 1 0) 1 = ap (λ b. cond b 1 0) (same_name_refl s) in
    let now : 1 ≤ deliveries_of s (h ++ step ∷ []) = omega arith in
    subst (AreDelivered (h ++ step ∷ [])) (sym (delivered_owed m w v s receiver shown actual tag words e)) (record {
      delivered = all_one_more (λ o. 1 ≤ deliveries_of o.send (h ++ step ∷ [])) (owed_by m s e.p.send.message receiver) w.owed later.delivered
          (owed_by_is (λ o. 1 ≤ deliveries_of o.send (h ++ step ∷ [])) m s e.p.send.message receiver now);
      once = once_one_more (owed_by m s e.p.send.message receiver) w.owed d.once
          (owed_by_is (λ n. AllByRecursion (λ x. same_name x.send n.send ≡ false) w.owed) m s e.p.send.message receiver
          (all_as (λ o. 1 ≤ deliveries_of o.send h) (λ x. same_name x.send s ≡ false) w.owed (fresh m h v s step refl r) d.delivered));
    })
step_delivered m h w v (Retarget s) e r d =
    let later = later_delivered h (Retarget s) w.owed d in
    subst (AreDelivered (h ++ Retarget s ∷ [])) (sym e) (record {
      delivered = all_filter (λ o. 1 ≤ deliveries_of o.send (h ++ Retarget s ∷ [])) (λ o. not (same_name s o.send)) w.owed later.delivered;
      once = once_filter (λ o. not (same_name s o.send)) w.owed d.once;
    })
step_delivered m h w v step e r d = subst (AreDelivered (h ++ step ∷ [])) (sym e) (later_delivered h step w.owed d)

run_then : (m : Machine) (h : List Step) (w u v : World) (step : Step) → run m w h ≡ Some u → next m u step ≡ Some v → run m w (h ++ step ∷ []) ≡ Some v
run_then m [] w u v step r is = let same = some_is w u r in rw (same, is) refl
run_then m (x ∷ h) w u v step r is =
    bind_then (next m w x) (λ z. run m z h) u r λ z at rest.
    rw at (run_then m h z u v step rest is)

run_delivered : (m : Machine) (before h : List Step) (w v : World) → reached m before ≡ Some w → run m w h ≡ Some v → AreDelivered before w.owed →
    AreDelivered (before ++ h) v.owed
run_delivered m before [] w v b r d = subst (λ u. AreDelivered (before ++ []) u.owed) (some_is w v r) (subst (λ xs. AreDelivered xs w.owed) (sym (append-nil before)) d)
run_delivered m before (step ∷ h) w v b r d =
    bind_then (next m w step) (λ u. run m u h) v r λ u is rest.
    let now : reached m (before ++ step ∷ []) ≡ Some u = run_then m before (opening m) w u step b is in
    subst (λ xs. AreDelivered xs v.owed) (append_assoc before (step ∷ []) h)
    (run_delivered m (before ++ step ∷ []) h u v now rest (step_delivered m before w u step (owed_effect m w u step is) now d))

pub owed_once : (m : Machine) (h : List Step) (w : World) → reached m h ≡ Some w → AreNamedOnce w.owed
owed_once m h w r = (run_delivered m [] h (opening m) w refl r (record { delivered = tt; once = tt })).once

-- Who is named in it is declared

declared_at : (m : Machine) (id : GlobalId) (i : ℕ) → place_of m id ≡ Some i → is_declared m id ≡ true
declared_at m id i at = ap is_some at

pub step_among : (m : Machine) (w v : World) (step : Step) → next m w step ≡ Some v → AreSound m w → AllByRecursion (IsOwedAmong m) w.owed →
    AllByRecursion (IsOwedAmong m) v.owed
step_among m w v step h sound all = by step (owed_effect m w v step h)
  where
    by : (step : Step) → OwedEffect m w v step → AllByRecursion (IsOwedAmong m) v.owed
    by (Deliver s receiver shown actual tag words) k =
        let sender = known_send m w s k.p k.is_undecided in
        let facts : ThreadFacts m k.p.sender.declared (slice_index w.clocks k.p.sender.declared.cpu) k.p.sender.now =
        sound k.p.sender.at k.p.sender.declared k.p.sender.now sender.sender.declared sender.sender.now in
        let its : IsSendOf m k.p.sender.declared.id (slice_index w.clocks k.p.sender.declared.cpu) k.p.send = rw sender.send at facts.send in
        let id = id_of m w s.thread k.p.sender (sender_found m w s k.p k.is_undecided) in
        let receiver_is : receiver ≡ k.r.declared.id = same_id_is receiver k.r.declared.id k.same_receiver in
        subst (AllByRecursion (IsOwedAmong m)) (sym (delivered_owed m w v s receiver shown actual tag words k))
        (all_one_more (IsOwedAmong m) (owed_by m s k.p.send.message receiver) w.owed all
        (owed_by_in (IsOwedAmong m) m s k.p.send.message receiver (λ profile. record {
          profile = profile;
          originator = its.shown;
          old_partner = declared_at m k.p.send.message.actual k.p.sender.at (ap (place_of m) its.actual ∙ ap (place_of m) id.0 ∙ id.1);
          new_partner = declared_at m receiver k.r.at (ap (place_of m) receiver_is ∙ receiver_place m w k.p.send.to k.r k.to);
        })))
    by (Retarget s) e = subst (AllByRecursion (IsOwedAmong m)) (sym e) (all_filter (IsOwedAmong m) (λ o. not (same_name s o.send)) w.owed all)
    by _ e = subst (AllByRecursion (IsOwedAmong m)) (sym e) all

-- No send of its new partner stands in its originator's list

or_false : (a b : Bool) → (a || b) ≡ false → (a ≡ false) × (b ≡ false)
or_false true b h = cc
or_false false b h = (refl, h)

same_id_refl : (a : GlobalId) → same_id a a ≡ true
same_id_refl a = rw (eqb_same a.number, eqb_same a.version)

-- the destination of a send that may be queued is that of its receiver
is_id_place : (m : Machine) (w : World) (to : Id) (r : Found) (id : GlobalId) → found_by m w to ≡ Some r → place_of m id ≡ Some r.at → is_id_of to id ≡ true
is_id_place m w NilThread r id is at = cc
is_id_place m w AnyThread r id is at = cc
is_id_place m w AnyLocalThread r id is at = cc
is_id_place m w (LocalThread word) r id is at = cc
is_id_place m w (GlobalThread t) r id is at =
    let one : t ≡ id = one_place m t id r.at (known m w t r is).place at in
    ap (λ x. same_id x id) one ∙ same_id_refl id

unless : (b : Bool) → ((b ≡ true) → ⊥) → b ≡ false
unless true no_way = absurd (no_way refl)
unless false no_way = refl

queued_apart : (m : Machine) (w : World) (v : World) (s : Name) (k : QueueTaken m w v s) (os : List Owed) → must_wait os s.thread k.p.send.to ≡ false →
    AllByRecursion (IsOwedApart m w.waiting) os → AllByRecursion (IsOwedApart m (changed (λ xs. xs ++ k.p.sender.at ∷ []) w.waiting k.r.at)) os
queued_apart m w v s k [] free h = tt
queued_apart m w v s k (o ∷ os) free h =
    let parts = or_false (same_id s.thread o.new_partner && is_id_of k.p.send.to o.originator) (must_wait os s.thread k.p.send.to) free in
    (one parts.0, queued_apart m w v s k os parts.1 h.1)
  where
    one : (same_id s.thread o.new_partner && is_id_of k.p.send.to o.originator) ≡ false → IsOwedApart m (changed (λ xs. xs ++ k.p.sender.at ∷ []) w.waiting k.r.at) o
    one apart originator new_partner at_o at_n = unless _ λ stands.
        ⊎_elim
        (λ same. let out = h.0 originator new_partner at_o at_n in let was : is_in new_partner (list_at w.waiting originator) ≡ true = ap (is_in new_partner) (sym same) ∙ stands in cc)
        (λ both.
        ⊎_elim
        (λ was. let out = h.0 originator new_partner at_o at_n in cc)
        (λ is.
        let sender : s.thread ≡ o.new_partner = one_place m s.thread o.new_partner k.p.sender.at (known_send m w s k.p k.is_undecided).sender.place (at_n ∙ ap Some is) in
        let first : same_id s.thread o.new_partner ≡ true = ap (λ x. same_id x o.new_partner) sender ∙ same_id_refl o.new_partner in
        let second : is_id_of k.p.send.to o.originator ≡ true = is_id_place m w k.p.send.to k.r o.originator k.to (at_o ∙ ap Some (sym both.0)) in
        let bad : (same_id s.thread o.new_partner && is_id_of k.p.send.to o.originator) ≡ true = rw (first, second) refl in
        cc)
        (in_append new_partner k.p.sender.at (list_at w.waiting originator) (ap (is_in new_partner) (sym both.1) ∙ stands)))
        (changed_cases (λ xs. xs ++ k.p.sender.at ∷ []) w.waiting k.r.at originator)

-- a sender that leaves its list
without_apart : (m : Machine) (lists : List (List ℕ)) (place : ℕ) (o : Owed) → IsOwedApart m lists o → IsOwedApart m (map (without place) lists) o
without_apart m lists place o h originator new_partner at_o at_n =
    ap (is_in new_partner) (get_or-map (without place) lists originator []) ∙ not_in_filter new_partner place (list_at lists originator) (h originator new_partner at_o at_n)

-- a receiver has no send
receiver_apart : (m : Machine) (w v : World) (s : Name) (receiver shown actual : GlobalId) (tag : ℕ) (words : List ℕ) → (k : DeliverTaken m w v s receiver shown actual tag words) →
    AreSound m w → Listed m w → (j : ℕ) → is_in k.r.at (list_at w.waiting j) ≡ false
receiver_apart m w v s receiver shown actual tag words k sound listed j = unless _ λ stands.
    let at = receiver_there m w k.p.send.to k.r k.to in
    let now : slice_get (statuses w) k.r.at ≡ Some (status k.r.now) = get-map status w.threads k.r.at k.r.now at in
    let declared = receiver_declared m w k.p.send.to k.r k.to in
    let none : k.r.now.send ≡ None = (receiving_has_none k.r.now.phase k.r.now.send k.r.now.order k.receive k.receiving (sound k.r.at k.r.declared k.r.now declared at).suits).0 in
    let goes : GoesTo m j (slice_get (statuses w) k.r.at) = listed.goes_to j k.r.at stands in
    rw (now, none) at goes
  where
    receiver_declared : (m : Machine) (w : World) (to : Id) (r : Found) → found_by m w to ≡ Some r → slice_get m.threads r.at ≡ Some r.declared
    receiver_declared m w NilThread r is = cc
    receiver_declared m w AnyThread r is = cc
    receiver_declared m w AnyLocalThread r is = cc
    receiver_declared m w (LocalThread word) r is = cc
    receiver_declared m w (GlobalThread t) r is = (known m w t r is).declared

pub step_apart : (m : Machine) (w v : World) (step : Step) → next m w step ≡ Some v → AreSound m w → Listed m w → AllByRecursion (IsOwedApart m w.waiting) w.owed →
    AllByRecursion (IsOwedApart m v.waiting) v.owed
step_apart m w v step h sound listed all = by step (owed_effect m w v step h) (list_effect m w v step h)
  where
    same : v.owed ≡ w.owed → v.waiting ≡ w.waiting → AllByRecursion (IsOwedApart m v.waiting) v.owed
    same e l = subst (λ os. AllByRecursion (IsOwedApart m v.waiting) os) (sym e) (subst (λ ls. AllByRecursion (IsOwedApart m ls) w.owed) (sym l) all)

    left : (place : ℕ) → AllByRecursion (IsOwedApart m (map (without place) w.waiting)) w.owed
    left place = all_as (IsOwedApart m w.waiting) (IsOwedApart m (map (without place) w.waiting)) w.owed (without_apart m w.waiting place) all

    unlisted : (s : Name) → v.owed ≡ w.owed → Unlists m w v s → AllByRecursion (IsOwedApart m v.waiting) v.owed
    unlisted s e u = subst (λ os. AllByRecursion (IsOwedApart m v.waiting) os) (sym e) (subst (λ ls. AllByRecursion (IsOwedApart m ls) w.owed) (sym u.now) (left u.place))

    by : (step : Step) → OwedEffect m w v step → ListEffect m w v step → AllByRecursion (IsOwedApart m v.waiting) v.owed
    by (OfSend Queued s) e k = subst (λ os. AllByRecursion (IsOwedApart m v.waiting) os) (sym e)
        (subst (λ (u : World). AllByRecursion (IsOwedApart m u.waiting) w.owed) k.leads_to
        (queued_apart m w v s k w.owed (not-true (must_wait w.owed s.thread k.p.send.to) k.free) all))
    by (Deliver s receiver shown actual tag words) k u =
        subst (λ os. AllByRecursion (IsOwedApart m v.waiting) os) (sym (delivered_owed m w v s receiver shown actual tag words k))
        (subst (λ ls. AllByRecursion (IsOwedApart m ls) (one_more (owed_by m s k.p.send.message receiver) w.owed)) (sym u.now)
        (all_one_more (IsOwedApart m (map (without u.place) w.waiting)) (owed_by m s k.p.send.message receiver) w.owed (left u.place)
        (owed_by_is (IsOwedApart m (map (without u.place) w.waiting)) m s k.p.send.message receiver
        (without_apart m w.waiting u.place (record { send = s; originator = k.p.send.message.shown; old_partner = k.p.send.message.actual; new_partner = receiver }) (λ originator new_partner at_o at_n.
        let receiver_is : receiver ≡ k.r.declared.id = same_id_is receiver k.r.declared.id k.same_receiver in
        let place : k.r.at ≡ new_partner = some_is _ _ (sym (receiver_place m w k.p.send.to k.r k.to) ∙ ap (place_of m) (sym receiver_is) ∙ at_n) in
        ap (λ i. is_in i (list_at w.waiting originator)) (sym place) ∙ receiver_apart m w v s receiver shown actual tag words k sound listed originator)))))
    by (OfSend (Failed why) s) e u = unlisted s e u
    by (OfSend Dropped s) e u = unlisted s e u
    by (OfSend Retargeted s) e l = subst (λ os. AllByRecursion (IsOwedApart m v.waiting) os) (sym e)
        (subst (λ ls. AllByRecursion (IsOwedApart m ls) (others_owed w.owed s)) (sym l) (all_filter (IsOwedApart m w.waiting) (λ o. not (same_name s o.send)) w.owed all))
    by _ e l = same e l
