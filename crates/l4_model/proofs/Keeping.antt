-- A fact of each thread is true of every world that a history reaches, where it is true at the opening and each change of a
-- thread keeps it.
use Rattle.std.proofs.Common.{subst, ◌≡◌, ℕ, zero, suc, ◌≤◌, true, Some, List, [], ◌∷◌, map, ◌<◌, refl, ap, sym, ◌∙◌, arith, inl, inr, ⊎_elim}
use Rattle.std.proofs.lemmas.Bool.{ltb-true, eqb-true}
use Rattle.std.specs.Prelude.{slice_get, slice_set, slice_index, nat_lt, ◌⊎◌, Bool, is_some, ◌^◌}
use Rattle.l4_model.specs.Words.{GlobalId, Id, NilThread, AnyThread, AnyLocalThread, LocalThread, GlobalThread}
use Rattle.l4_model.specs.Machine.{Machine, Declaration, OrderKind, CancelSend, CancelReceive, CancelBoth, Delete, place_of, is_declared, instruction_at}
use Rattle.l4_model.specs.World.{World, Thread, Send, Receive, PendingOrder, changed, change, opening, opening_thread, is_ready, is_deleted, receive_now, unqueued, others_owed, Owed, Name}
use Rattle.l4_model.specs.Rules.{receive_code, send_code, act, received_tag, is_cross}
use Rattle.l4_model.specs.Conditions.{Found, found, found_by, Pending, undecided, instruction}
use Rattle.l4_model.specs.Steps.{ThreadStep, Step, Deliver, Order, Tick, send_of, without_send, after_thread, next, OfThread, OfSend, Runs, Waits, Fails, Obeys, Begun, Queued, Failed, Dropped, Retargeted}
use Rattle.l4_model.specs.Effects.{runs, begins, waits, fails, decided, refused, receives, delivered, asked, orders, obeyed, turns}
use Rattle.l4_model.proofs.Chains.{some_is, part-changed}
use Rattle.l4_model.proofs.Places.{and_true, known, known_send, sender_found, id_of}
use Rattle.l4_model.proofs.Inversions.{local_taken, begin_taken, queue_taken, DeliverTaken, deliver_taken, wait_taken, drop_taken, order_taken, ObeyTaken, obey_taken, TickTaken, tick_taken, retarget_taken, send_failed, receive_failed}

-- A fact of a thread, with what is declared of it and the clock of its processor.
abbrev pub Fact : Type 1
Fact = Declaration → ℕ → Thread → Type 0

abbrev pub Each : Machine → Fact → World → Type 0
Each m P w = (i : ℕ) (d : Declaration) (t : Thread) → slice_get m.threads i ≡ Some d → slice_get w.threads i ≡ Some t → P d (slice_index w.clocks d.cpu) t

-- Each change of a thread keeps the fact.
pub record Maintained (m : Machine) (P : Fact) : Type 0 where
  pub at_run : (d : Declaration) (now : ℕ) (t : Thread) → is_ready t.phase ≡ true → P d now t → P d now (runs (instruction_at d.script t.context.place) t)
  pub at_begin : (d : Declaration) (now : ℕ) (t : Thread) (send : Send) → is_declared m d.id ≡ true → is_ready t.phase ≡ true →
      send_of (act m d.id now t.context (instruction_at d.script t.context.place)) ≡ Some send → P d now t → P d now (begins send t)
  pub at_wait : (d : Declaration) (now : ℕ) (t : Thread) (receive : Receive) → is_ready t.phase ≡ true → P d now t → P d now (waits receive now t)
  pub at_order : (d : Declaration) (now : ℕ) (t : Thread) (order : PendingOrder) → is_ready t.phase ≡ true → P d now t → P d now (orders order t)
  pub at_failure : (d : Declaration) (now : ℕ) (t : Thread) (code : ℕ) (receive : Receive) → receive_now t.phase ≡ Some receive → P d now t → P d now (fails code t)
  pub at_refusal : (d : Declaration) (now : ℕ) (t : Thread) (code : ℕ) (send : Send) → t.send ≡ Some send → P d now t → P d now (refused code t)
  pub at_drop : (d : Declaration) (now : ℕ) (t : Thread) → is_deleted t.phase ≡ true → P d now t → P d now (decided t)
  pub at_receipt : (d sd : Declaration) (now sender_now : ℕ) (t sender : Thread) (receive : Receive) (send : Send) (cross : Bool) → receive_now t.phase ≡ Some receive →
      sender.send ≡ Some send → P sd sender_now sender → P d now t → P d now (receives send.message (received_tag cross send.message) t)
  pub at_delivery : (d : Declaration) (now : ℕ) (t : Thread) (send : Send) → t.send ≡ Some send → P d now t → P d now (delivered send now t)
  pub at_asked : (d : Declaration) (now : ℕ) (t : Thread) (what : OrderKind) → P d now t → P d now (asked what t)
  pub at_obedience : (d : Declaration) (now : ℕ) (t : Thread) (order : PendingOrder) → t.order ≡ Some order → P d now t → P d now (obeyed t)
  pub at_turn : (d : Declaration) (now : ℕ) (t : Thread) (o : Owed) → P d now t → P d now (turns o t)
  pub at_tick : (d : Declaration) (now later : ℕ) (t : Thread) → now ≤ later → P d now t → P d later t

pub order-asked : (what : OrderKind) (t : Thread) → (asked what t).order ≡ t.order
order-asked CancelSend t = refl
order-asked CancelReceive t = refl
order-asked CancelBoth t = refl
order-asked Delete t = refl

-- the threads of a changed list
changed_get : {A : Type 0} (f : A → A) (xs : List A) (i j : ℕ) (y : A) → slice_get (changed f xs i) j ≡ Some y → (slice_get xs j ≡ Some y) ⊎ ((i ≡ j) × ((x : A) × (slice_get xs j ≡ Some x) × (f x ≡ y)))
changed_get f [] i j y h = inl h
changed_get f (x ∷ xs) zero zero y h = inr (refl, (x, refl, some_is (f x) y h))
changed_get f (x ∷ xs) zero (suc j) y h = inl h
changed_get f (x ∷ xs) (suc i) zero y h = inl h
changed_get f (x ∷ xs) (suc i) (suc j) y h = ⊎_elim (λ same. inl same) (λ both. inr (ap suc both.0, both.1)) (changed_get f xs i j y h)

-- a change of the thread at a place
change_each : (m : Machine) (P : Fact) (w : World) (i : ℕ) (f : Thread → Thread) → Each m P w →
    ((d : Declaration) (t : Thread) → slice_get m.threads i ≡ Some d → slice_get w.threads i ≡ Some t → P d (slice_index w.clocks d.cpu) t → P d (slice_index w.clocks d.cpu) (f t)) → Each m P (change w i f)
change_each m P w i f each keep j d t declared now =
    ⊎_elim
    (λ same. each j d t declared same)
    (λ both.
    let at : i ≡ j = both.0 in
    let was : slice_get w.threads j ≡ Some both.1.0 = both.1.1 in
    subst (P d (slice_index w.clocks d.cpu)) both.1.2
    (keep d both.1.0 (ap (slice_get m.threads) at ∙ declared) (ap (slice_get w.threads) at ∙ was) (each j d both.1.0 declared was)))
    (changed_get f w.threads i j t now)

-- a change of a thread that was found
found_each : (m : Machine) (P : Fact) (w : World) (id : GlobalId) (t : Found) (f : Thread → Thread) → found m w id ≡ Some t → Each m P w →
    (P t.declared t.clock t.now → P t.declared t.clock (f t.now)) → Each m P (change w t.at f)
found_each m P w id t f is each keep =
    let k = known m w id t is in
    change_each m P w t.at f each (λ d x declared now h.
    let same_d : t.declared ≡ d = some_is _ _ (sym k.declared ∙ declared) in
    let same_t : t.now ≡ x = some_is _ _ (sym k.now ∙ now) in
    let clock : t.clock ≡ slice_index w.clocks d.cpu = k.clock ∙ ap (λ (y : Declaration). slice_index w.clocks y.cpu) same_d in
    let here : P t.declared t.clock t.now = subst (λ y. P t.declared t.clock y) (sym same_t) (subst (λ n. P t.declared n x) (sym clock) (subst (λ y. P y (slice_index w.clocks d.cpu) x) (sym same_d) h)) in
    subst (λ y. P d (slice_index w.clocks d.cpu) (f y)) same_t (subst (λ n. P d n (f t.now)) clock (subst (λ y. P y t.clock (f t.now)) same_d (keep here))))

-- a change of the sender of an undecided send
sender_each : (m : Machine) (P : Fact) (w : World) (s : Name) (p : Pending) (f : Thread → Thread) → undecided m w s ≡ Some p → Each m P w →
    (P p.sender.declared p.sender.clock p.sender.now → P p.sender.declared p.sender.clock (f p.sender.now)) → Each m P (without_send w p f)
sender_each m P w s p f is each keep = found_each m P (unqueued w p.sender.at) s.thread p.sender f (sender_found m w s p is) each keep

-- what is so of a thread that was found
found_fact : (m : Machine) (P : Fact) (w : World) (id : GlobalId) (t : Found) → found m w id ≡ Some t → Each m P w → P t.declared t.clock t.now
found_fact m P w id t is each =
    let k = known m w id t is in
    subst (λ n. P t.declared n t.now) (sym k.clock) (each t.at t.declared t.now k.declared k.now)

-- and of the sender of an undecided send
pub sender_fact : (m : Machine) (P : Fact) (w : World) (s : Name) (p : Pending) → undecided m w s ≡ Some p → Each m P w → P p.sender.declared p.sender.clock p.sender.now
sender_fact m P w s p is each = found_fact m P w s.thread p.sender (sender_found m w s p is) each

-- a change of a receiver
receiver_each : (m : Machine) (P : Fact) (w : World) (to : Id) (r : Found) (f : Thread → Thread) → found_by m w to ≡ Some r → Each m P w →
    (P r.declared r.clock r.now → P r.declared r.clock (f r.now)) → Each m P (change w r.at f)
receiver_each m P w NilThread r f is each keep = cc
receiver_each m P w AnyThread r f is each keep = cc
receiver_each m P w AnyLocalThread r f is each keep = cc
receiver_each m P w (LocalThread word) r f is each keep = cc
receiver_each m P w (GlobalThread t) r f is each keep = found_each m P w t r f is each keep

-- a declared thread
declared_is : (m : Machine) (w : World) (id : GlobalId) (t : Found) → found m w id ≡ Some t → is_declared m t.declared.id ≡ true
declared_is m w id t is = let k = id_of m w id t is in ap is_some (ap (place_of m) k.0 ∙ k.1)

deliver_each : (m : Machine) (P : Fact) (w v : World) (s : Name) (receiver shown actual : GlobalId) (tag : ℕ) (words : List ℕ) → Maintained m P → DeliverTaken m w v s receiver shown actual tag words → Each m P w → Each m P v
deliver_each m P w v s receiver shown actual tag words keeps k each =
    let g : Thread → Thread = receives k.p.send.message tag in
    let u : World = change (unqueued w k.p.sender.at) k.r.at g in
    let known = known_send m w s k.p k.is_undecided in
    let sender : P k.p.sender.declared k.p.sender.clock k.p.sender.now = found_fact m P w s.thread k.p.sender (sender_found m w s k.p k.is_undecided) each in
    let cross = is_cross m receiver k.p.send.message in
    let tag_is : tag ≡ received_tag cross k.p.send.message = eqb-true tag (received_tag cross k.p.send.message) k.same_tag in
    let received : Each m P u =
    receiver_each m P (unqueued w k.p.sender.at) k.p.send.to k.r g k.to each
    (subst (λ x. P k.r.declared k.r.clock k.r.now → P k.r.declared k.r.clock (receives k.p.send.message x k.r.now)) (sym tag_is)
    (keeps.at_receipt k.r.declared k.p.sender.declared k.r.clock k.p.sender.clock k.r.now k.p.sender.now k.receive k.p.send cross k.receiving known.send sender)) in
    subst (Each m P) k.leads_to (change_each m P u k.p.sender.at (delivered k.p.send k.p.sender.clock) received (λ d x declared now h.
    let has : x.send ≡ Some k.p.send = part-changed (λ (y : Thread). y.send) g (λ y. refl) w.threads k.r.at k.p.sender.at k.p.sender.now x known.sender.now now ∙ known.send in
    let same_d : k.p.sender.declared ≡ d = some_is _ _ (sym known.sender.declared ∙ declared) in
    let clock : k.p.sender.clock ≡ slice_index w.clocks d.cpu = known.sender.clock ∙ ap (λ (y : Declaration). slice_index w.clocks y.cpu) same_d in
    subst (λ n. P d (slice_index w.clocks d.cpu) (delivered k.p.send n x)) (sym clock) (keeps.at_delivery d (slice_index w.clocks d.cpu) x k.p.send has h)))

obey_each : (m : Machine) (P : Fact) (w v : World) (caller : GlobalId) → Maintained m P → ObeyTaken m w v caller → Each m P w → Each m P v
obey_each m P w v caller keeps k each =
    let g : Thread → Thread = asked k.order.what in
    let u : World = change w k.target g in
    let now = (known m w caller k.t k.found).now in
    let after : Each m P u = change_each m P w k.target g each (λ d x declared at h. keeps.at_asked d (slice_index w.clocks d.cpu) x k.order.what h) in
    subst (Each m P) k.leads_to (change_each m P u k.t.at obeyed after (λ d x declared at h.
    let has : x.order ≡ Some k.order = part-changed (λ (y : Thread). y.order) g (order-asked k.order.what) w.threads k.target k.t.at k.t.now x now at ∙ k.ordered in
    keeps.at_obedience d (slice_index w.clocks d.cpu) x k.order has h))

-- a clock that goes on
clock_grows : (clocks : List ℕ) (cpu now clock i : ℕ) → slice_get clocks cpu ≡ Some now → now ≤ clock → slice_index clocks i ≤ slice_index (slice_set clocks cpu clock) i
clock_grows [] cpu now clock i h le = omega arith
clock_grows (x ∷ clocks) zero now clock zero h le = let same : x ≡ now = some_is x now h in omega arith
clock_grows (x ∷ clocks) zero now clock (suc i) h le = omega arith
clock_grows (x ∷ clocks) (suc cpu) now clock zero h le = omega arith
clock_grows (x ∷ clocks) (suc cpu) now clock (suc i) h le = clock_grows clocks cpu now clock i h le

tick_each : (m : Machine) (P : Fact) (w v : World) (cpu clock : ℕ) → Maintained m P → TickTaken m w v cpu clock → Each m P w → Each m P v
tick_each m P w v cpu clock keeps k each =
    subst (Each m P) k.leads_to (λ i d t declared now.
    let later : k.now < clock = ltb-true k.now clock (and_true (nat_lt k.now clock) (nat_lt clock (2 ^ 62)) k.later).0 in
    keeps.at_tick d (slice_index w.clocks d.cpu) (slice_index (slice_set w.clocks cpu clock) d.cpu) t (clock_grows w.clocks cpu k.now clock d.cpu k.clock_is (omega (arith, later))) (each i d t declared now))

thread_each : (m : Machine) (P : Fact) (w v : World) (kind : ThreadStep) (id : GlobalId) → Maintained m P →
    after_thread m w id kind ≡ Some v → Each m P w → Each m P v
thread_each m P w v Runs id keeps h each =
    let k = local_taken m w v id h in
    subst (Each m P) k.leads_to (found_each m P w id k.t (runs (instruction k.t)) k.found each
    (keeps.at_run k.t.declared k.t.clock k.t.now k.ready))
thread_each m P w v Waits id keeps h each =
    let k = wait_taken m w v id h in
    subst (Each m P) k.leads_to (found_each m P w id k.t (waits k.receive k.t.clock) k.found each
    (keeps.at_wait k.t.declared k.t.clock k.t.now k.receive k.ready))
thread_each m P w v (Fails why) id keeps h each =
    let k = receive_failed m w v id why h in
    subst (Each m P) k.leads_to (found_each m P w id k.t (fails (receive_code why)) k.found each
    (keeps.at_failure k.t.declared k.t.clock k.t.now (receive_code why) k.receive k.receiving))
thread_each m P w v Obeys id keeps h each = obey_each m P w v id keeps (obey_taken m w v id h) each

-- Each step keeps the fact.
pub step_each : (m : Machine) (P : Fact) (w v : World) (step : Step) → Maintained m P → next m w step ≡ Some v → Each m P w → Each m P v
step_each m P w v (OfThread kind id) keeps h each = thread_each m P w v kind id keeps h each
step_each m P w v (OfSend Begun s) keeps h each =
    let k = begin_taken m w v s h in
    subst (Each m P) k.leads_to (found_each m P w s.thread k.t (begins k.send) k.found each
    (keeps.at_begin k.t.declared k.t.clock k.t.now k.send (declared_is m w s.thread k.t k.found) k.ready k.sends))
step_each m P w v (OfSend Queued s) keeps h each = subst (Each m P) (queue_taken m w v s h).leads_to each
step_each m P w v (OfSend (Failed why) s) keeps h each =
    let k = send_failed m w v s why h in
    let from : Found = k.p.sender in
    subst (Each m P) k.leads_to (sender_each m P w s k.p (refused (send_code why)) k.is_undecided each
    (keeps.at_refusal from.declared from.clock from.now (send_code why) k.p.send
    (known_send m w s k.p k.is_undecided).send))
step_each m P w v (OfSend Dropped s) keeps h each =
    let k = drop_taken m w v s h in
    let from : Found = k.p.sender in
    subst (Each m P) k.leads_to
    (sender_each m P w s k.p decided k.is_undecided each (keeps.at_drop from.declared from.clock from.now k.gone))
step_each m P w v (OfSend Retargeted s) keeps h each =
    let k = retarget_taken m w v s h in
    let u : World = record w { owed = others_owed w.owed s } in
    subst (Each m P) k.leads_to (found_each m P u k.o.originator k.t (turns k.o) k.found each
    (keeps.at_turn k.t.declared k.t.clock k.t.now k.o))
step_each m P w v (Deliver s receiver shown actual tag words) keeps h each =
    let k = deliver_taken m w v s receiver shown actual tag words h in
    deliver_each m P w v s receiver shown actual tag words keeps k each
step_each m P w v (Order caller target what) keeps h each =
    let k = order_taken m w v caller target what h in
    subst (Each m P) k.leads_to (found_each m P w caller k.t (orders k.order) k.found each
    (keeps.at_order k.t.declared k.t.clock k.t.now k.order k.ready))
step_each m P w v (Tick cpu clock) keeps h each = tick_each m P w v cpu clock keeps (tick_taken m w v cpu clock h) each

-- Each thread at the opening is a fresh one.
pub opening_is : (m : Machine) (i : ℕ) (t : Thread) → slice_get (opening m).threads i ≡ Some t → opening_thread ≡ t
opening_is m i t now = one m.threads i now
  where
    one : (ds : List Declaration) (i : ℕ) → slice_get (map (λ d. opening_thread) ds) i ≡ Some t → opening_thread ≡ t
    one [] i h = cc
    one (x ∷ ds) zero h = some_is opening_thread t h
    one (x ∷ ds) (suc i) h = one ds i h

-- What is so of a fresh thread is so of each at the opening.
pub opening_each : (m : Machine) (P : Fact) → ((d : Declaration) (now : ℕ) → P d now opening_thread) → Each m P (opening m)
opening_each m P fresh i d t declared now = subst (P d (slice_index (opening m).clocks d.cpu)) (opening_is m i t now) (fresh d (slice_index (opening m).clocks d.cpu))
