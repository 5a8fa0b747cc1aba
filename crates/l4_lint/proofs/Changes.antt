-- A fact of each thread is true of every world that a history reaches, where each change of a
-- thread keeps it. A receive phase begins only where the instruction at hand asks for one.
use Rattle.std.proofs.Common.{subst, ◌≡◌, ℕ, zero, suc, Some, List, [], ◌∷◌, refl, ap, sym, ◌∙◌, inl, inr, ⊎_elim}
use Rattle.std.specs.Prelude.{slice_get, ◌⊎◌}
use Rattle.l4_model.specs.Words.{GlobalId, Id, NilThread, AnyThread, AnyLocalThread, LocalThread, GlobalThread}
use Rattle.l4_model.specs.Machine.{Machine, Declaration, OrderKind, instruction_at}
use Rattle.l4_model.specs.World.{World, Thread, Send, Receive, PendingOrder, Message, changed, change, receive_now, unqueued, others_owed, Owed, Name}
use Rattle.l4_model.specs.Rules.{receive_code, send_code, act}
use Rattle.l4_model.specs.Conditions.{Found, found, found_by, Pending, undecided, instruction}
use Rattle.l4_model.specs.Steps.{Step, Deliver, Order, Tick, send_of, receive_of, without_send, next, OfThread, OfSend, Runs, Waits, Fails, Obeys, Begun, Queued, Failed, Dropped, Retargeted}
use Rattle.l4_model.specs.Effects.{runs, begins, waits, fails, decided, refused, receives, delivered, asked, orders, obeyed, turns}
use Rattle.l4_model.proofs.Chains.{some_is, part-changed}
use Rattle.l4_model.proofs.Places.{known, known_send, sender_found}
use Rattle.l4_model.proofs.Inversions.{local_taken, begin_taken, queue_taken, DeliverTaken, deliver_taken, wait_taken, drop_taken, order_taken, ObeyTaken, obey_taken, tick_taken, retarget_taken, send_failed, receive_failed}

-- A fact of a thread, with what is declared of it.
abbrev pub Fact : Type 1
Fact = Declaration → Thread → Type 0

abbrev pub Each : Machine → Fact → World → Type 0
Each m P w = (i : ℕ) (d : Declaration) (t : Thread) → slice_get m.threads i ≡ Some d → slice_get w.threads i ≡ Some t → P d t

-- Each change of a thread keeps the fact.
pub record IsKept (m : Machine) (P : Fact) : Type 0 where
  pub at_run : (d : Declaration) (t : Thread) → P d t → P d (runs (instruction_at d.script t.context.place) t)
  pub at_begin : (d : Declaration) (now : ℕ) (t : Thread) (send : Send) → send_of (act m d.id now t.context (instruction_at d.script t.context.place)) ≡ Some send →
      P d t → P d (begins send t)
  pub at_wait : (d : Declaration) (now : ℕ) (t : Thread) (receive : Receive) →
      receive_of (act m d.id now t.context (instruction_at d.script t.context.place)) ≡ Some receive → P d t → P d (waits receive now t)
  pub at_order : (d : Declaration) (t : Thread) (order : PendingOrder) → P d t → P d (orders order t)
  pub at_failure : (d : Declaration) (t : Thread) (code : ℕ) → P d t → P d (fails code t)
  pub at_decision : (d : Declaration) (t : Thread) → P d t → P d (decided t)
  pub at_receipt : (d : Declaration) (t : Thread) (receive : Receive) (message : Message) (tag : ℕ) → receive_now t.phase ≡ Some receive →
      P d t → P d (receives message tag t)
  pub at_delivery : (d : Declaration) (now : ℕ) (t : Thread) (send : Send) → t.send ≡ Some send → P d t → P d (delivered send now t)
  pub at_asked : (d : Declaration) (t : Thread) (what : OrderKind) → P d t → P d (asked what t)
  pub at_obedience : (d : Declaration) (t : Thread) → P d t → P d (obeyed t)
  pub at_turn : (d : Declaration) (t : Thread) (o : Owed) → P d t → P d (turns o t)

-- The threads of a changed list.
changed_get : {A : Type 0} (f : A → A) (xs : List A) (i j : ℕ) (y : A) → slice_get (changed f xs i) j ≡ Some y →
    (slice_get xs j ≡ Some y) ⊎ ((i ≡ j) × ((x : A) × (slice_get xs j ≡ Some x) × (f x ≡ y)))
changed_get f [] i j y h = inl h
changed_get f (x ∷ xs) zero zero y h = inr (refl, (x, refl, some_is (f x) y h))
changed_get f (x ∷ xs) zero (suc j) y h = inl h
changed_get f (x ∷ xs) (suc i) zero y h = inl h
changed_get f (x ∷ xs) (suc i) (suc j) y h = ⊎_elim (λ same. inl same) (λ both. inr (ap suc both.0, both.1)) (changed_get f xs i j y h)

-- A change of the thread at a place.
change_each : (m : Machine) (P : Fact) (w : World) (i : ℕ) (f : Thread → Thread) → Each m P w →
    ((d : Declaration) (t : Thread) → slice_get m.threads i ≡ Some d → slice_get w.threads i ≡ Some t → P d t → P d (f t)) → Each m P (change w i f)
change_each m P w i f each keep j d t declared now =
    ⊎_elim
    (λ same. each j d t declared same)
    (λ both.
    let at : i ≡ j = both.0 in
    let was : slice_get w.threads j ≡ Some both.1.0 = both.1.1 in
    subst (P d) both.1.2
    (keep d both.1.0 (ap (slice_get m.threads) at ∙ declared) (ap (slice_get w.threads) at ∙ was) (each j d both.1.0 declared was)))
    (changed_get f w.threads i j t now)

-- A change of a thread that was found.
found_each : (m : Machine) (P : Fact) (w : World) (id : GlobalId) (t : Found) (f : Thread → Thread) → found m w id ≡ Some t → Each m P w →
    (P t.declared t.now → P t.declared (f t.now)) → Each m P (change w t.at f)
found_each m P w id t f is each keep =
    let k = known m w id t is in
    change_each m P w t.at f each (λ d x declared now h.
    let same_d : t.declared ≡ d = some_is _ _ (sym k.declared ∙ declared) in
    let same_t : t.now ≡ x = some_is _ _ (sym k.now ∙ now) in
    let here : P t.declared t.now = subst (λ y. P t.declared y) (sym same_t) (subst (λ y. P y x) (sym same_d) h) in
    subst (λ y. P d (f y)) same_t (subst (λ y. P y (f t.now)) same_d (keep here)))

-- A change of the sender of an undecided send.
sender_each : (m : Machine) (P : Fact) (w : World) (s : Name) (p : Pending) (f : Thread → Thread) → undecided m w s ≡ Some p → Each m P w →
    (P p.sender.declared p.sender.now → P p.sender.declared (f p.sender.now)) → Each m P (without_send w p f)
sender_each m P w s p f is each keep = found_each m P (unqueued w p.sender.at) s.thread p.sender f (sender_found m w s p is) each keep

-- What is so of the sender of an undecided send.
pub sender_fact : (m : Machine) (P : Fact) (w : World) (s : Name) (p : Pending) → undecided m w s ≡ Some p → Each m P w → P p.sender.declared p.sender.now
sender_fact m P w s p is each =
    let k = known_send m w s p is in
    each p.sender.at p.sender.declared p.sender.now k.sender.declared k.sender.now

-- A change of a receiver.
receiver_each : (m : Machine) (P : Fact) (w : World) (to : Id) (r : Found) (f : Thread → Thread) → found_by m w to ≡ Some r → Each m P w →
    (P r.declared r.now → P r.declared (f r.now)) → Each m P (change w r.at f)
receiver_each m P w NilThread r f is each keep = cc
receiver_each m P w AnyThread r f is each keep = cc
receiver_each m P w AnyLocalThread r f is each keep = cc
receiver_each m P w (LocalThread word) r f is each keep = cc
receiver_each m P w (GlobalThread t) r f is each keep = found_each m P w t r f is each keep

deliver_each : (m : Machine) (P : Fact) (w v : World) (s : Name) (receiver shown actual : GlobalId) (tag : ℕ) (words : List ℕ) → IsKept m P →
    DeliverTaken m w v s receiver shown actual tag words → Each m P w → Each m P v
deliver_each m P w v s receiver shown actual tag words kept k each =
    let g : Thread → Thread = receives k.p.send.message tag in
    let u : World = change (unqueued w k.p.sender.at) k.r.at g in
    let sender = known_send m w s k.p k.is_undecided in
    let received : Each m P u =
    receiver_each m P (unqueued w k.p.sender.at) k.p.send.to k.r g k.to each
    (kept.at_receipt k.r.declared k.r.now k.receive k.p.send.message tag k.receiving) in
    subst (Each m P) k.leads_to (change_each m P u k.p.sender.at (delivered k.p.send k.p.sender.clock) received (λ d x declared now h.
    let has : x.send ≡ Some k.p.send = part-changed (λ (y : Thread). y.send) g (λ y. refl) w.threads k.r.at k.p.sender.at k.p.sender.now x sender.sender.now now ∙ sender.send in
    kept.at_delivery d k.p.sender.clock x k.p.send has h))

obey_each : (m : Machine) (P : Fact) (w v : World) (caller : GlobalId) → IsKept m P → ObeyTaken m w v caller → Each m P w → Each m P v
obey_each m P w v caller kept k each =
    let u : World = change w k.target (asked k.order.what) in
    let after : Each m P u = change_each m P w k.target (asked k.order.what) each (λ d x declared now h. kept.at_asked d x k.order.what h) in
    subst (Each m P) k.leads_to (change_each m P u k.t.at obeyed after (λ d x declared now h. kept.at_obedience d x h))

-- Each step keeps the fact.
pub step_each : (m : Machine) (P : Fact) (w v : World) (step : Step) → IsKept m P → next m w step ≡ Some v → Each m P w → Each m P v
step_each m P w v (OfThread Runs id) kept h each =
    let k = local_taken m w v id h in
    subst (Each m P) k.leads_to
    (found_each m P w id k.t (runs (instruction k.t)) k.found each (kept.at_run k.t.declared k.t.now))
step_each m P w v (OfThread Waits id) kept h each =
    let k = wait_taken m w v id h in
    subst (Each m P) k.leads_to
    (found_each m P w id k.t (waits k.receive k.t.clock) k.found each
    (kept.at_wait k.t.declared k.t.clock k.t.now k.receive k.receiving))
step_each m P w v (OfThread (Fails why) id) kept h each =
    let k = receive_failed m w v id why h in
    let code = receive_code why in
    subst (Each m P) k.leads_to
    (found_each m P w id k.t (fails code) k.found each (kept.at_failure k.t.declared k.t.now code))
step_each m P w v (OfThread Obeys id) kept h each = obey_each m P w v id kept (obey_taken m w v id h) each
step_each m P w v (OfSend Begun s) kept h each =
    let k = begin_taken m w v s h in
    subst (Each m P) k.leads_to
    (found_each m P w s.thread k.t (begins k.send) k.found each
    (kept.at_begin k.t.declared k.t.clock k.t.now k.send k.sends))
step_each m P w v (OfSend Queued s) kept h each = subst (Each m P) (queue_taken m w v s h).leads_to each
step_each m P w v (OfSend (Failed why) s) kept h each =
    let k = send_failed m w v s why h in
    let code = send_code why in
    let from : Found = k.p.sender in
    subst (Each m P) k.leads_to
    (sender_each m P w s k.p (refused code) k.is_undecided each
    (λ x. kept.at_failure from.declared (decided from.now) code (kept.at_decision from.declared from.now x)))
step_each m P w v (OfSend Dropped s) kept h each =
    let k = drop_taken m w v s h in
    subst (Each m P) k.leads_to
    (sender_each m P w s k.p decided k.is_undecided each (kept.at_decision k.p.sender.declared k.p.sender.now))
step_each m P w v (OfSend Retargeted s) kept h each =
    let k = retarget_taken m w v s h in
    let u : World = record w { owed = others_owed w.owed s } in
    subst (Each m P) k.leads_to
    (found_each m P u k.o.originator k.t (turns k.o) k.found each (kept.at_turn k.t.declared k.t.now k.o))
step_each m P w v (Deliver s receiver shown actual tag words) kept h each =
    let k = deliver_taken m w v s receiver shown actual tag words h in
    deliver_each m P w v s receiver shown actual tag words kept k each
step_each m P w v (Order caller target what) kept h each =
    let k = order_taken m w v caller target what h in
    subst (Each m P) k.leads_to
    (found_each m P w caller k.t (orders k.order) k.found each (kept.at_order k.t.declared k.t.now k.order))
step_each m P w v (Tick cpu clock) kept h each = subst (Each m P) (tick_taken m w v cpu clock h).leads_to each
