-- What each step does to the numbers of begun sends and to the undecided sends.
use Rattle.std.proofs.Common.{subst, ◌≡◌, ℕ, ◌+◌, true, Option, Some, None, List, map, refl, ap, sym, ◌∙◌}
use Rattle.std.proofs.lemmas.Bool.{eqb-true}
use Rattle.std.specs.Prelude.{slice_get}
use Rattle.std.specs.Option.{option_map}
use Rattle.l4_model.specs.Words.{GlobalId}
use Rattle.l4_model.specs.Machine.{Machine, Instr, Run, Ipc, Ask, End, OrderKind, CancelSend, CancelReceive, CancelBoth, Delete, place_of}
use Rattle.l4_model.specs.World.{Context, Thread, World, Send, Receive, Owed, Phase, Ready, Sending, Receiving, Ordering, Ended, Deleted, changed, change, is_alive, is_ready, unqueued, others_owed, Name}
use Rattle.l4_model.specs.Rules.{receive_code, send_code, ran}
use Rattle.l4_model.specs.Steps.{Step, ThreadStep, OfThread, Runs, Waits, Fails, Obeys, OfSend, Begun, Queued, Failed, Dropped, Retargeted, Deliver, Order, Tick, after_thread, without_send, next}
use Rattle.l4_model.specs.Conditions.{Found, Pending, undecided, instruction}
use Rattle.l4_model.specs.Effects.{runs, begins, waits, fails, decided, refused, receives, goes_on, delivered, asked, orders, obeyed, turned_send, turns_in, turns}
use Rattle.l4_model.proofs.Chains.{map-changed_same, map-changed, get-map, cond_both}
use Rattle.l4_model.proofs.Inversions.{local_taken, BeginTaken, begin_taken, queue_taken, DeliverTaken, deliver_taken, wait_taken, send_failed, drop_taken, receive_failed, order_taken, ObeyTaken, obey_taken, tick_taken, RetargetTaken, retarget_taken}
use Rattle.l4_model.proofs.Places.{Known, known, known_send}

-- What stays of a send while it is undecided: all but its receive phase, which a retarget may change.
abbrev pub lasting : Send → Send
lasting send = record send { receive = None }

-- How many sends a thread began, and what stays of the undecided one.
pub record Status : Type 0 where
  pub begun : ℕ
  pub send : Option Send

abbrev pub status : Thread → Status
status t = record { begun = t.context.begun; send = option_map lasting t.send }

abbrev pub statuses : World → List Status
statuses w = map status w.threads

abbrev pub with_begun : Send → Status → Status
with_begun send x = record { begun = x.begun + 1; send = Some send }

abbrev pub with_decided : Status → Status
with_decided x = record { begun = x.begun; send = None }

-- what each change of one thread does to its status
pub status-fails : (code : ℕ) (t : Thread) → status (fails code t) ≡ status t
status-fails code t = cond_both status (status t) (is_alive t.phase) _ t refl refl

pub status-goes_on : (receive : Option Receive) (now : ℕ) (t : Thread) → status (goes_on receive now t) ≡ with_decided (status t)
status-goes_on None now t = refl
status-goes_on (Some receive) now t = refl

pub status-delivered : (send : Send) (now : ℕ) (t : Thread) → status (delivered send now t) ≡ with_decided (status t)
status-delivered send now t = cond_both status (with_decided (status t)) (is_alive t.phase) _ _ (status-goes_on send.receive now t) refl

pub status-refused : (code : ℕ) (t : Thread) → status (refused code t) ≡ with_decided (status t)
status-refused code t = status-fails code (decided t)

pub status-obeyed : (t : Thread) → status (obeyed t) ≡ status t
status-obeyed t = cond_both status (status t) (is_alive t.phase) _ _ refl refl

turned_lasting : (o : Owed) (send : Option Send) → option_map lasting (option_map (turned_send o) send) ≡ option_map lasting send
turned_lasting o None = refl
turned_lasting o (Some send) = refl

pub status-turns : (o : Owed) (t : Thread) → status (turns o t) ≡ status t
status-turns o t = by t.phase
  where
    by : (p : Phase) → status (turns_in p o t) ≡ status t
    by Ready = refl
    by Sending = ap (λ (x : Option Send). record { begun = t.context.begun; send = x }) (turned_lasting o t.send)
    by (Receiving receive since) = refl
    by Ordering = refl
    by Ended = refl
    by Deleted = refl

pub status-asked : (what : OrderKind) (t : Thread) → status (asked what t) ≡ status t
status-asked CancelSend t = refl
status-asked CancelReceive t = refl
status-asked CancelBoth t = refl
status-asked Delete t = refl

pub begun-ran : (i : Instr) (c : Context) → (ran i c).begun ≡ c.begun
begun-ran (Run own) c = refl
begun-ran (Ipc to from send_period receive_period) c = refl
begun-ran (Ask target what) c = refl
begun-ran End c = refl

-- What a step does to the statuses: it begins this send, it decides this send, or it keeps them.
pub record Begins (m : Machine) (w v : World) (s : Name) : Type 0 where
  pub place : ℕ
  pub old : Status
  pub send : Send
  pub sender : Found
  pub named : place_of m s.thread ≡ Some place
  pub was : slice_get (statuses w) place ≡ Some old
  pub known : Known m w s.thread sender
  pub ready : is_ready sender.now.phase ≡ true
  pub old_is : old ≡ status sender.now
  pub next_k : s.k ≡ old.begun + 1
  pub now : statuses v ≡ changed (with_begun send) (statuses w) place

pub record Decides (m : Machine) (w v : World) (s : Name) : Type 0 where
  pub place : ℕ
  pub old : Status
  pub send : Send
  pub named : place_of m s.thread ≡ Some place
  pub was : slice_get (statuses w) place ≡ Some old
  pub last : old.begun ≡ s.k
  pub undecided : old.send ≡ Some send
  pub now : statuses v ≡ changed with_decided (statuses w) place

abbrev pub Keeps : World → World → Type 0
Keeps w v = statuses v ≡ statuses w

abbrev pub Effect : Machine → World → World → Step → Type 0
Effect m w v (OfSend Begun s) = Begins m w v s
Effect m w v (OfSend (Failed why) s) = Decides m w v s
Effect m w v (OfSend Dropped s) = Decides m w v s
Effect m w v (Deliver s receiver shown actual tag words) = Decides m w v s
Effect m w v _ = Keeps w v

-- one thread changed, and its status kept
pub kept : (w : World) (i : ℕ) (f : Thread → Thread) → ((t : Thread) → status (f t) ≡ status t) → Keeps w (change w i f)
kept w i f e = map-changed_same status f e w.threads i

-- a send decided at place i, after some other change that keeps the statuses
pub decides : (m : Machine) (w u : World) (s : Name) (p : Pending) (f : Thread → Thread) →
    undecided m w s ≡ Some p → Keeps w u → ((t : Thread) → status (f t) ≡ with_decided (status t)) →
    Decides m w (change u p.sender.at f) s
decides m w u s p f h keeps e =
    let k = known_send m w s p h in
    record {
      place = p.sender.at;
      old = status p.sender.now;
      send = lasting p.send;
      named = k.sender.place;
      was = get-map status w.threads p.sender.at p.sender.now k.sender.now;
      last = k.last;
      undecided = ap (option_map lasting) k.send;
      now = map-changed status f with_decided e u.threads p.sender.at ∙ ap (λ xs. changed with_decided xs p.sender.at) keeps;
    }

-- Nothing else of the world counts.
decided_so : (m : Machine) (w u v : World) (s : Name) → statuses v ≡ statuses u → Decides m w u s → Decides m w v s
decided_so m w u v s e d = record { place = d.place; old = d.old; send = d.send; named = d.named; was = d.was; last = d.last; undecided = d.undecided; now = e ∙ d.now }

-- A send that is decided without a delivery: it leaves its list, and its sender goes on.
refuses : (m : Machine) (w : World) (s : Name) (p : Pending) (f : Thread → Thread) →
    undecided m w s ≡ Some p → ((t : Thread) → status (f t) ≡ with_decided (status t)) → Decides m w (without_send w p f) s
refuses m w s p f h e = decides m w (unqueued w p.sender.at) s p f h refl e

begin_effect : (m : Machine) (w v : World) (s : Name) → BeginTaken m w v s → Begins m w v s
begin_effect m w v s k =
    let is = known m w s.thread k.t k.found in
    subst (λ u. Begins m w u s) k.leads_to (record {
      place = k.t.at;
      old = status k.t.now;
      send = lasting k.send;
      sender = k.t;
      known = is;
      ready = k.ready;
      old_is = refl;
      named = is.place;
      was = get-map status w.threads k.t.at k.t.now is.now;
      next_k = eqb-true _ _ k.next_k;
      now = map-changed status (begins k.send) (with_begun (lasting k.send)) (λ x. refl) w.threads k.t.at;
    })

deliver_effect : (m : Machine) (w v : World) (s : Name) (receiver shown actual : GlobalId) (tag : ℕ) (words : List ℕ) → DeliverTaken m w v s receiver shown actual tag words → Decides m w v s
deliver_effect m w v s receiver shown actual tag words k =
    let u : World = change (unqueued w k.p.sender.at) k.r.at (receives k.p.send.message tag) in
    decided_so m w _ v s (ap statuses (sym k.leads_to))
    (decides m w u s k.p (delivered k.p.send k.p.sender.clock) k.is_undecided (kept (unqueued w k.p.sender.at) k.r.at _ (λ t. refl)) (status-delivered k.p.send k.p.sender.clock))

obey_effect : (m : Machine) (w v : World) (caller : GlobalId) → ObeyTaken m w v caller → Keeps w v
obey_effect m w v caller k =
    subst (Keeps w) k.leads_to (kept (change w k.target (asked k.order.what)) k.t.at obeyed status-obeyed ∙ kept w k.target (asked k.order.what) (status-asked k.order.what))

retarget_effect : (m : Machine) (w v : World) (s : Name) → RetargetTaken m w v s → Keeps w v
retarget_effect m w v s k = subst (Keeps w) k.leads_to (kept (record w { owed = others_owed w.owed s }) k.t.at (turns k.o) (status-turns k.o))

thread_effect : (m : Machine) (w v : World) (kind : ThreadStep) (id : GlobalId) → after_thread m w id kind ≡ Some v → Keeps w v
thread_effect m w v Runs id h =
    let k = local_taken m w v id h in
    let i = instruction k.t in
    subst (Keeps w) k.leads_to (kept w k.t.at (runs i)
    (λ x. ap (λ n. record { begun = n; send = option_map lasting x.send }) (begun-ran i x.context)))
thread_effect m w v Waits id h =
    let k = wait_taken m w v id h in
    subst (Keeps w) k.leads_to (kept w k.t.at (waits k.receive k.t.clock) (λ x. refl))
thread_effect m w v (Fails why) id h =
    let k = receive_failed m w v id why h in
    subst (Keeps w) k.leads_to (kept w k.t.at (fails (receive_code why)) (status-fails (receive_code why)))
thread_effect m w v Obeys id h = obey_effect m w v id (obey_taken m w v id h)

pub effect : (m : Machine) (w v : World) (step : Step) → next m w step ≡ Some v → Effect m w v step
effect m w v (OfThread kind id) h = thread_effect m w v kind id h
effect m w v (OfSend Begun s) h = begin_effect m w v s (begin_taken m w v s h)
effect m w v (OfSend Queued s) h = subst (Keeps w) (queue_taken m w v s h).leads_to refl
effect m w v (OfSend (Failed why) s) h =
    let k = send_failed m w v s why h in
    subst (λ u. Decides m w u s) k.leads_to
    (refuses m w s k.p (refused (send_code why)) k.is_undecided (status-refused (send_code why)))
effect m w v (OfSend Dropped s) h =
    let k = drop_taken m w v s h in
    subst (λ u. Decides m w u s) k.leads_to (refuses m w s k.p decided k.is_undecided (λ t. refl))
effect m w v (OfSend Retargeted s) h = retarget_effect m w v s (retarget_taken m w v s h)
effect m w v (Deliver s receiver shown actual tag words) h =
    deliver_effect m w v s receiver shown actual tag words (deliver_taken m w v s receiver shown actual tag words h)
effect m w v (Order caller target what) h =
    let k = order_taken m w v caller target what h in
    subst (Keeps w) k.leads_to (kept w k.t.at (orders k.order) (λ x. refl))
effect m w v (Tick cpu clock) h = subst (Keeps w) (tick_taken m w v cpu clock h).leads_to refl
