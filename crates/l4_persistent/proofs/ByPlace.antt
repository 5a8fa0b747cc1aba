-- A fact of each thread, by its place, is true of a world after a step if each change of a thread keeps it.
use Rattle.std.proofs.Common.{subst, ◌≡◌, ℕ, zero, suc, ◌<◌, Bool, true, false, Option, Some, None, List, [], ◌∷◌, length, refl, ap, sym, ◌∙◌, ◌⊎◌, inl, inr, ⊎_elim}
use Rattle.std.specs.Prelude.{slice_get}
use Rattle.std.proofs.lemmas.Bool.{eqb-true}
use Rattle.std.proofs.lemmas.Option.{slice_get_within, slice_get-get_or}
use Rattle.l4_model.specs.Words.{GlobalId, Id, NilThread, AnyThread, AnyLocalThread, LocalThread, GlobalThread}
use Rattle.l4_model.specs.Machine.{Machine, Declaration, Instr, place_of, instruction_at}
use Rattle.l4_model.specs.World.{World, Thread, Send, Receive, PendingOrder, Owed, Name, Phase, Ready, Sending, Receiving, Ordering, Ended, Deleted, changed, change, unqueued, others_owed, is_alive, is_ready, receive_now}
use Rattle.l4_model.specs.Rules.{act, received_tag, is_cross, receive_code, send_code}
use Rattle.l4_model.specs.Effects.{runs, begins, waits, fails, decided, refused, receives, goes_on, delivered, asked, orders, obeyed, turns}
use Rattle.l4_model.specs.Conditions.{Found, found, found_by, instruction}
use Rattle.l4_model.specs.Steps.{Step, ThreadStep, OfThread, Runs, Waits, Fails, Obeys, OfSend, Begun, Queued, Failed, Dropped, Retargeted, Deliver, Order, Tick, send_of, receive_of, order_of, next}
use Rattle.l4_model.proofs.Chains.{some_is, cond_keeps, part-changed}
use Rattle.l4_model.proofs.Keeping.{order-asked}
use Rattle.l4_model.proofs.Places.{known, known_send, receiver_there}
use Rattle.l4_model.proofs.Inversions.{local_taken, begin_taken, queue_taken, DeliverTaken, deliver_taken, wait_taken, drop_taken, order_taken, ObeyTaken, obey_taken, tick_taken, retarget_taken, send_failed, receive_failed}
use Rattle.l4_model.proofs.Sound.{AreSound, ready_has_none}
use Rattle.l4_core_model.specs.Local.{declared, undeclared, destination_place}
use Rattle.l4_persistent.specs.Inner.Posts.{instruction_of}

abbrev pub Fact : Type 1
Fact = (place : ℕ) → Thread → Type 0

abbrev pub All : Fact → World → Type 0
All P w = (i : ℕ) (t : Thread) → slice_get w.threads i ≡ Some t → P i t

-- The instruction that a thread is at.
abbrev pub at_hand : Machine → ℕ → Thread → Instr
at_hand m i t = instruction_of m i t.context.place

-- Each change of a thread keeps the fact, if only these begin sends.
pub record Keeps (m : Machine) (begin : ℕ → Type 0) (P : Fact) : Type 0 where
  pub at_run : (i : ℕ) (t : Thread) → is_ready t.phase ≡ true → t.order ≡ None → P i t → P i (runs (at_hand m i t) t)
  pub at_begin : (i now : ℕ) (t : Thread) (send : Send) → begin i → is_ready t.phase ≡ true → t.order ≡ None →
      send_of (act m (declared m i).id now t.context (at_hand m i t)) ≡ Some send → P i t → P i (begins send t)
  pub at_wait : (i now : ℕ) (t : Thread) (receive : Receive) → is_ready t.phase ≡ true → t.order ≡ None →
      receive_of (act m (declared m i).id now t.context (at_hand m i t)) ≡ Some receive → P i t →
      P i (waits receive now t)
  pub at_order : (i now : ℕ) (t : Thread) (order : PendingOrder) → is_ready t.phase ≡ true → t.order ≡ None →
      order_of (act m (declared m i).id now t.context (at_hand m i t)) ≡ Some order → P i t → P i (orders order t)
  pub at_failure : (i code : ℕ) (t : Thread) → is_alive t.phase ≡ true → P i t → P i (fails code t)
  pub at_decision : (i : ℕ) (t : Thread) → P i t → P i (decided t)
  pub at_receipt : (i j : ℕ) (t sender : Thread) (send : Send) (cross : Bool) → is_alive t.phase ≡ true →
      j < length m.threads → sender.send ≡ Some send →
      destination_place m send.to ≡ Some i → P j sender → P i t →
      P i (receives send.message (received_tag cross send.message) t)
  pub at_delivery : (i now : ℕ) (t : Thread) (receive : Option Receive) → is_alive t.phase ≡ true → P i t →
      P i (goes_on receive now t)
  pub at_asked : (i j : ℕ) (t caller : Thread) (order : PendingOrder) → caller.order ≡ Some order →
      place_of m order.target ≡ Some i →
      P j caller → P i t → P i (asked order.what t)
  pub at_obedience : (i : ℕ) (t : Thread) (order : PendingOrder) → t.order ≡ Some order → P i t → P i (obeyed t)
  pub at_turn : (i : ℕ) (t : Thread) (o : Owed) → P i t → P i (turns o t)

-- Who begins a send by a step is one of these.
abbrev pub Begins : Machine → (ℕ → Type 0) → Step → Type 0
Begins m begin (OfSend Begun s) = (i : ℕ) → place_of m s.thread ≡ Some i → begin i
Begins m begin step = Unit {0}

-- The threads of a changed list

changed_get : {A : Type 0} (f : A → A) (xs : List A) (i j : ℕ) (y : A) → slice_get (changed f xs i) j ≡ Some y →
    (slice_get xs j ≡ Some y) ⊎ ((i ≡ j) × ((x : A) × (slice_get xs j ≡ Some x) × (f x ≡ y)))
changed_get f [] i j y h = inl h
changed_get f (x ∷ xs) zero zero y h = inr (refl, (x, refl, some_is (f x) y h))
changed_get f (x ∷ xs) zero (suc j) y h = inl h
changed_get f (x ∷ xs) (suc i) zero y h = inl h
changed_get f (x ∷ xs) (suc i) (suc j) y h = ⊎_elim (λ same. inl same) (λ both. inr (ap suc both.0, both.1))
    (changed_get f xs i j y h)

change_all : (P : Fact) (w : World) (i : ℕ) (f : Thread → Thread) → All P w →
    ((t : Thread) → slice_get w.threads i ≡ Some t → P i t → P i (f t)) →
    All P (change w i f)
change_all P w i f all keep j t now =
    ⊎_elim
    (λ same. all j t same)
    (λ both.
    let at : i ≡ j = both.0 in
    let was : slice_get w.threads j ≡ Some both.1.0 = both.1.1 in
    subst (P j) both.1.2
    (subst (λ k. P k (f both.1.0)) at
    (keep both.1.0 (ap (slice_get w.threads) at ∙ was) (subst (λ k. P k both.1.0) (sym at) (all j both.1.0 was)))))
    (changed_get f w.threads i j t now)

-- One that was found

here_only : (P : Fact) (w : World) (i : ℕ) (x : Thread) (f : Thread → Thread) → slice_get w.threads i ≡ Some x →
    All P w → (P i x → P i (f x)) →
    All P (change w i f)
here_only P w i x f at all keep =
    change_all P w i f all (λ t now h.
    let same : x ≡ t = some_is x t (sym at ∙ now) in
    subst (λ y. P i (f y)) same (keep (subst (P i) (sym same) h)))

pub declared_at : (m : Machine) (i : ℕ) (d : Declaration) → slice_get m.threads i ≡ Some d → d ≡ declared m i
declared_at m i d at = some_is d (declared m i) (sym at ∙ slice_get-get_or m.threads i undeclared
    (slice_get_within m.threads i d at))

pub same_goal : (m : Machine) (w : World) (to : Id) (r : Found) → found_by m w to ≡ Some r →
    destination_place m to ≡ Some r.at
same_goal m w NilThread r is = cc
same_goal m w AnyThread r is = cc
same_goal m w AnyLocalThread r is = cc
same_goal m w (LocalThread word) r is = cc
same_goal m w (GlobalThread t) r is = (known m w t r is).place

-- A ready thread has no undone order.
no_order : (m : Machine) (w : World) (id : GlobalId) (t : Found) → found m w id ≡ Some t → is_ready t.now.phase ≡ true →
    AreSound m w → t.now.order ≡ None
no_order m w id t is ready sound =
    let k = known m w id t is in
    (ready_has_none t.now.phase t.now.send t.now.order ready (sound t.at t.declared t.now k.declared k.now).suits).1

failed_keeps : {m : Machine} {begin : ℕ → Type 0} {P : Fact} → Keeps m begin P → (i code : ℕ) (t : Thread) → P i t →
    P i (fails code t)
failed_keeps {P = P} keeps i code t h = by (is_alive t.phase) refl
  where
    by : (b : Bool) → is_alive t.phase ≡ b → P i (fails code t)
    by true is = keeps.at_failure i code t is h
    by false is = rw is h

delivered_keeps : {m : Machine} {begin : ℕ → Type 0} {P : Fact} → Keeps m begin P →
    (i now : ℕ) (t : Thread) (send : Send) → P i t → P i (delivered send now t)
delivered_keeps {P = P} keeps i now t send h =
    cond_keeps (P i) (is_alive t.phase) _ (decided t) (λ alive. keeps.at_delivery i now t send.receive alive h)
    (λ gone. keeps.at_decision i t h)

receiving_alive : (p : Phase) (receive : Receive) → receive_now p ≡ Some receive → is_alive p ≡ true
receiving_alive Ready receive h = refl
receiving_alive Sending receive h = refl
receiving_alive (Receiving r since) receive h = refl
receiving_alive Ordering receive h = refl
receiving_alive Ended receive h = refl
receiving_alive Deleted receive h = cc

deliver_all : (m : Machine) (begin : ℕ → Type 0) (P : Fact) (w v : World) (s : Name) (receiver shown actual : GlobalId)
    (tag : ℕ) (words : List ℕ) →
    Keeps m begin P → DeliverTaken m w v s receiver shown actual tag words → All P w → All P v
deliver_all m begin P w v s receiver shown actual tag words keeps k all =
    let g : Thread → Thread = receives k.p.send.message tag in
    let u : World = change (unqueued w k.p.sender.at) k.r.at g in
    let sender = known_send m w s k.p k.is_undecided in
    let cross = is_cross m receiver k.p.send.message in
    let tag_is : tag ≡ received_tag cross k.p.send.message =
    eqb-true tag (received_tag cross k.p.send.message) k.same_tag in
    let within = slice_get_within m.threads k.p.sender.at k.p.sender.declared sender.sender.declared in
    let received : All P u =
    change_all P (unqueued w k.p.sender.at) k.r.at g all (λ t now h.
    let same : k.r.now ≡ t = some_is k.r.now t (sym (receiver_there m w k.p.send.to k.r k.to) ∙ now) in
    let alive : is_alive t.phase ≡ true =
    ap (λ (x : Thread). is_alive x.phase) (sym same) ∙ receiving_alive k.r.now.phase k.receive k.receiving in
    subst (λ x. P k.r.at (receives k.p.send.message x t)) (sym tag_is)
    (keeps.at_receipt k.r.at k.p.sender.at t k.p.sender.now k.p.send cross alive within sender.send
    (same_goal m w k.p.send.to k.r k.to)
    (all k.p.sender.at k.p.sender.now sender.sender.now) h)) in
    subst (All P) k.leads_to
    (change_all P u k.p.sender.at (delivered k.p.send k.p.sender.clock) received
    (λ t now h. delivered_keeps keeps k.p.sender.at k.p.sender.clock t k.p.send h))

obey_all : (m : Machine) (begin : ℕ → Type 0) (P : Fact) (w v : World) (caller : GlobalId) → Keeps m begin P →
    ObeyTaken m w v caller → All P w → All P v
obey_all m begin P w v caller keeps k all =
    let g : Thread → Thread = asked k.order.what in
    let u : World = change w k.target g in
    let now = (known m w caller k.t k.found).now in
    let after : All P u =
    change_all P w k.target g all (λ t at h. keeps.at_asked k.target k.t.at t k.t.now k.order k.ordered k.target_is
    (all k.t.at k.t.now now) h) in
    subst (All P) k.leads_to
    (change_all P u k.t.at obeyed after (λ t at h.
    let has : t.order ≡ Some k.order =
    part-changed (λ (y : Thread). y.order) g (order-asked k.order.what) w.threads k.target k.t.at k.t.now t now at
    ∙ k.ordered in
    keeps.at_obedience k.t.at t k.order has h))

module _ (m : Machine) (begin : ℕ → Type 0) (P : Fact) (keeps : Keeps m begin P) (w v : World) (sound : AreSound m w)
    (all : All P w) where
  -- What is declared of one that was found.
  seen : (id : GlobalId) (t : Found) → found m w id ≡ Some t → t.declared ≡ declared m t.at
  seen id t is = declared_at m t.at t.declared (known m w id t is).declared

  thread_all : (kind : ThreadStep) (id : GlobalId) → next m w (OfThread kind id) ≡ Some v → All P v
  thread_all Runs id h =
      let k = local_taken m w v id h in
      let d = seen id k.t k.found in
      subst (All P) k.leads_to
      (here_only P w k.t.at k.t.now (runs (instruction k.t)) (known m w id k.t k.found).now all (λ h.
      subst (λ (x : Declaration). P k.t.at (runs (instruction_at x.script k.t.now.context.place) k.t.now)) (sym d)
      (keeps.at_run k.t.at k.t.now k.ready (no_order m w id k.t k.found k.ready sound) h)))
  thread_all Waits id h =
      let k = wait_taken m w v id h in
      let d = seen id k.t k.found in
      subst (All P) k.leads_to
      (here_only P w k.t.at k.t.now (waits k.receive k.t.clock) (known m w id k.t k.found).now all
      (keeps.at_wait k.t.at k.t.clock k.t.now k.receive k.ready (no_order m w id k.t k.found k.ready sound)
      (subst (λ (x : Declaration). receive_of (act m x.id k.t.clock k.t.now.context
      (instruction_at x.script k.t.now.context.place)) ≡ Some k.receive) d
      k.receiving)))
  thread_all (Fails why) id h =
      let k = receive_failed m w v id why h in
      subst (All P) k.leads_to
      (here_only P w k.t.at k.t.now (fails (receive_code why)) (known m w id k.t k.found).now all
      (failed_keeps keeps k.t.at (receive_code why) k.t.now))
  thread_all Obeys id h = obey_all m begin P w v id keeps (obey_taken m w v id h) all

  -- Each step keeps the fact.
  pub step_all : (step : Step) → Begins m begin step → next m w step ≡ Some v → All P v
  step_all (OfThread kind id) may h = thread_all kind id h
  step_all (OfSend Begun s) may h =
      let k = begin_taken m w v s h in
      let d = seen s.thread k.t k.found in
      let at = known m w s.thread k.t k.found in
      subst (All P) k.leads_to
      (here_only P w k.t.at k.t.now (begins k.send) at.now all
      (keeps.at_begin k.t.at k.t.clock k.t.now k.send (may k.t.at at.place) k.ready
      (no_order m w s.thread k.t k.found k.ready sound)
      (subst (λ (x : Declaration). send_of (act m x.id k.t.clock k.t.now.context
      (instruction_at x.script k.t.now.context.place)) ≡ Some k.send) d
      k.sends)))
  step_all (OfSend Queued s) may h = subst (All P) (queue_taken m w v s h).leads_to all
  step_all (OfSend (Failed why) s) may h =
      let k = send_failed m w v s why h in
      subst (All P) k.leads_to
      (change_all P (unqueued w k.p.sender.at) k.p.sender.at (refused (send_code why)) all (λ t now h.
      failed_keeps keeps k.p.sender.at (send_code why) (decided t) (keeps.at_decision k.p.sender.at t h)))
  step_all (OfSend Dropped s) may h =
      let k = drop_taken m w v s h in
      subst (All P) k.leads_to
      (change_all P (unqueued w k.p.sender.at) k.p.sender.at decided all
      (λ t now h. keeps.at_decision k.p.sender.at t h))
  step_all (OfSend Retargeted s) may h =
      let k = retarget_taken m w v s h in
      subst (All P) k.leads_to
      (change_all P (record w { owed = others_owed w.owed s }) k.t.at (turns k.o) all
      (λ t now h. keeps.at_turn k.t.at t k.o h))
  step_all (Deliver s receiver shown actual tag words) may h =
      deliver_all m begin P w v s receiver shown actual tag words keeps
      (deliver_taken m w v s receiver shown actual tag words h) all
  step_all (Order caller target what) may h =
      let k = order_taken m w v caller target what h in
      let d = seen caller k.t k.found in
      subst (All P) k.leads_to
      (here_only P w k.t.at k.t.now (orders k.order) (known m w caller k.t k.found).now all
      (keeps.at_order k.t.at k.t.clock k.t.now k.order k.ready (no_order m w caller k.t k.found k.ready sound)
      (subst (λ (x : Declaration). order_of (act m x.id k.t.clock k.t.now.context
      (instruction_at x.script k.t.now.context.place)) ≡ Some k.order) d
      k.ordered)))
  step_all (Tick cpu clock) may h = subst (All P) (tick_taken m w v cpu clock h).leads_to all
