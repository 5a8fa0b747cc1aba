-- What each step makes of the world, where no reason is told against it.
use Rattle.std.proofs.Common.{◌≡◌, ℕ, ◌<◌, length, Some, None, ap, sym, ◌∙◌}
use Rattle.std.specs.Prelude.{slice_set}
use Rattle.std.proofs.lemmas.Option.{slice_get_within}
use Rattle.l4_model.specs.Words.{GlobalId}
use Rattle.l4_model.specs.Machine.{Machine, OrderKind, Instr, place_of}
use Rattle.l4_model.specs.World.{Name, Thread, PendingOrder, Owed, World, change, queued, unqueued, owed_of, others_owed}
use Rattle.l4_model.specs.Rules.{Failure, receive_code, send_code}
use Rattle.l4_model.specs.Effects.{runs, fails, decided, refused, orders, asked, obeyed, turns}
use Rattle.l4_model.specs.Conditions.{Found, Pending, found, undecided, receiver_of, instruction, act_of}
use Rattle.l4_model.specs.Steps.{Step, Local, Begin, Queue, Wait, Drop, Order, Obey, Tick, Retarget, next, order_of, without_send, OfThread, OfSend, Fails, Failed}
use Rattle.l4_model.proofs.Chains.{some_is}
use Rattle.l4_model.proofs.Inversions.{local_taken, queue_taken, drop_taken, order_taken, obey_taken, tick_taken, retarget_taken, send_failed, receive_failed}
use Rattle.l4_audit.specs.Inner.Audited.{Audited, IsAsked, with_world}
use Rattle.l4_audit.specs.Reasons.{reason}
use Rattle.l4_audit.specs.Starting.{starting}
use Rattle.l4_audit.specs.Inner.Taking.{IsTaken}
use Rattle.l4_audit.proofs.Reasoning.{is_possible}
use Rattle.l4_audit.proofs.Starting.{begins_now, waits_now}

lands : (a b : Audited) (step : Step) → reason a.machine a.world step ≡ None → ((v : World) → next a.machine a.world step ≡ Some v → b ≡ with_world a v) → IsTaken a step b
lands a b step none f =
    let v = is_possible a.machine a.world step none in
    let e = f v.0 v.1 in
    record { machine = ap (λ (x : Audited). x.machine) e; possible = v.1 ∙ ap (λ (x : Audited). Some x.world) (sym e) }

-- Of a thread that was found.
found_lands : (a b : Audited) (t u : Found) (f : Found → Thread → Thread) (v : World) → u ≡ t → change a.world u.at (f u) ≡ v → b ≡ with_world a (change a.world t.at (f t)) → b ≡ with_world a v
found_lands a b t u f v same leads e = e ∙ ap (with_world a) (ap (λ (x : Found). change a.world x.at (f x)) (sym same) ∙ leads)

pub runs_on : (a b : Audited) (id : GlobalId) (t : Found) (i : Instr) → found a.machine a.world id ≡ Some t → reason a.machine a.world (Local id) ≡ None → i ≡ instruction t →
    b ≡ with_world a (change a.world t.at (runs i)) → IsTaken a (Local id) b
runs_on a b id t i is none instr e =
    lands a b (Local id) none λ v h.
    let k = local_taken a.machine a.world v id h in
    found_lands a b t k.t (λ x. runs (instruction x)) v (some_is k.t t (sym k.found ∙ is)) k.leads_to (e ∙ ap (λ j. with_world a (change a.world t.at (runs j))) instr)

pub begins_on : (a b : Audited) (s : Name) (t : Found) (i : Instr) → found a.machine a.world s.thread ≡ Some t → reason a.machine a.world (Begin s) ≡ None → i ≡ instruction t →
    b ≡ with_world a (starting a t.at t.clock i) → IsTaken a (Begin s) b
begins_on a b s t i is none instr e = record { machine = ap (λ (x : Audited). x.machine) e; possible = begins_now a s t i is none instr ∙ ap (λ (x : Audited). Some x.world) (sym e) }

pub waits_on : (a b : Audited) (id : GlobalId) (t : Found) (i : Instr) → found a.machine a.world id ≡ Some t → reason a.machine a.world (Wait id) ≡ None → i ≡ instruction t →
    b ≡ with_world a (starting a t.at t.clock i) → IsTaken a (Wait id) b
waits_on a b id t i is none instr e = record { machine = ap (λ (x : Audited). x.machine) e; possible = waits_now a id t i is none instr ∙ ap (λ (x : Audited). Some x.world) (sym e) }

pub queues_on : (a b : Audited) (s : Name) (p : Pending) (r : Found) → undecided a.machine a.world s ≡ Some p → receiver_of a.machine a.world p ≡ Some r → reason a.machine a.world (Queue s) ≡ None →
    b ≡ with_world a (queued a.world r.at p.sender.at) → IsTaken a (Queue s) b
queues_on a b s p r is to none e =
    lands a b (Queue s) none λ v h.
    let k = queue_taken a.machine a.world v s h in
    let send : k.p ≡ p = some_is k.p p (sym k.is_undecided ∙ is) in
    let receiver : k.r ≡ r = some_is k.r r (sym k.to ∙ ap (receiver_of a.machine a.world) send ∙ to) in
    e ∙ ap (with_world a) (ap (λ (x : Found). queued a.world x.at p.sender.at) (sym receiver) ∙ ap (λ (x : Pending). queued a.world k.r.at x.sender.at) (sym send) ∙ k.leads_to)

-- Of a send that is undecided.
send_lands : (a b : Audited) (p q : Pending) (f : Thread → Thread) (v : World) → q ≡ p → without_send a.world q f ≡ v → b ≡ with_world a (change (unqueued a.world p.sender.at) p.sender.at f) → b ≡ with_world a v
send_lands a b p q f v same leads e = e ∙ ap (with_world a) (ap (λ (x : Pending). without_send a.world x f) (sym same) ∙ leads)

pub is_refused : (a b : Audited) (s : Name) (p : Pending) (why : Failure) → undecided a.machine a.world s ≡ Some p →
    reason a.machine a.world (OfSend (Failed why) s) ≡ None →
    b ≡ with_world a (change (unqueued a.world p.sender.at) p.sender.at (refused (send_code why))) →
    IsTaken a (OfSend (Failed why) s) b
is_refused a b s p why is none e =
    lands a b (OfSend (Failed why) s) none λ v h.
    let k = send_failed a.machine a.world v s why h in
    send_lands a b p k.p (refused (send_code why)) v (some_is k.p p (sym k.is_undecided ∙ is)) k.leads_to e

pub is_dropped : (a u b : Audited) (s : Name) (p : Pending) → undecided a.machine a.world s ≡ Some p → reason a.machine a.world (Drop s) ≡ None →
    u ≡ with_world a (unqueued a.world p.sender.at) → b ≡ with_world u (change u.world p.sender.at decided) → IsTaken a (Drop s) b
is_dropped a u b s p is none left e =
    lands a b (Drop s) none λ v h.
    let k = drop_taken a.machine a.world v s h in
    send_lands a b p k.p decided v (some_is k.p p (sym k.is_undecided ∙ is)) k.leads_to (e ∙ ap (λ (x : Audited). with_world x (change x.world p.sender.at decided)) left)

pub receive_fails : (a b : Audited) (id : GlobalId) (t : Found) (why : Failure) → found a.machine a.world id ≡ Some t →
    reason a.machine a.world (OfThread (Fails why) id) ≡ None →
    b ≡ with_world a (change a.world t.at (fails (receive_code why))) → IsTaken a (OfThread (Fails why) id) b
receive_fails a b id t why is none e =
    lands a b (OfThread (Fails why) id) none λ v h.
    let k = receive_failed a.machine a.world v id why h in
    found_lands a b t k.t (λ x. fails (receive_code why)) v (some_is k.t t (sym k.found ∙ is)) k.leads_to e

pub orders_on : (a b : Audited) (caller target : GlobalId) (what : OrderKind) (t : Found) (order : PendingOrder) → found a.machine a.world caller ≡ Some t → order_of (act_of a.machine t) ≡ Some order →
    reason a.machine a.world (Order caller target what) ≡ None → b ≡ with_world a (change a.world t.at (orders order)) → IsTaken a (Order caller target what) b
orders_on a b caller target what t order is asks none e =
    lands a b (Order caller target what) none λ v h.
    let k = order_taken a.machine a.world v caller target what h in
    let same : k.t ≡ t = some_is k.t t (sym k.found ∙ is) in
    let given : k.order ≡ order = some_is k.order order (sym k.ordered ∙ ap (λ x. order_of (act_of a.machine x)) same ∙ asks) in
    found_lands a b t k.t (λ x. orders k.order) v same k.leads_to (e ∙ ap (λ x. with_world a (change a.world t.at (orders x))) (sym given))

pub obeys_on : (a u b : Audited) (caller : GlobalId) (t : Found) (target : ℕ) (what : OrderKind) → found a.machine a.world caller ≡ Some t → IsAsked a.machine t target what → reason a.machine a.world (Obey caller) ≡ None →
    u ≡ with_world a (change a.world target (asked what)) → b ≡ with_world u (change u.world t.at obeyed) → IsTaken a (Obey caller) b
obeys_on a u b caller t target what is asks none done e =
    lands a b (Obey caller) none λ v h.
    let k = obey_taken a.machine a.world v caller h in
    let same : k.t ≡ t = some_is k.t t (sym k.found ∙ is) in
    let order : k.order ≡ asks.order = some_is k.order asks.order (sym k.ordered ∙ ap (λ (x : Found). x.now.order) same ∙ asks.asked) in
    let place : k.target ≡ target = some_is k.target target (sym k.target_is ∙ ap (λ (x : PendingOrder). place_of a.machine x.target) order ∙ asks.place) in
    let what_is : k.order.what ≡ what = ap (λ (x : PendingOrder). x.what) order ∙ asks.what_is in
    e ∙ ap (λ (x : Audited). with_world x (change x.world t.at obeyed)) done
    ∙ ap (with_world a)
    (ap (λ (x : Found). change (change a.world target (asked what)) x.at obeyed) (sym same)
    ∙ ap (λ i. change (change a.world i (asked what)) k.t.at obeyed) (sym place)
    ∙ ap (λ x. change (change a.world k.target (asked x)) k.t.at obeyed) (sym what_is) ∙ k.leads_to)

pub ticks_on : (a b : Audited) (cpu clock : ℕ) → reason a.machine a.world (Tick cpu clock) ≡ None →
    b ≡ with_world a (record a.world { clocks = slice_set a.world.clocks cpu clock }) → IsTaken a (Tick cpu clock) b
ticks_on a b cpu clock none e =
    lands a b (Tick cpu clock) none λ v h.
    let k = tick_taken a.machine a.world v cpu clock h in e ∙ ap (with_world a) k.leads_to

pub turns_on : (a u b : Audited) (s : Name) (o : Owed) (t : Found) → owed_of a.world.owed s ≡ Some o → found a.machine a.world o.originator ≡ Some t → reason a.machine a.world (Retarget s) ≡ None →
    u ≡ with_world a (record a.world { owed = others_owed a.world.owed s }) → b ≡ with_world u (change u.world t.at (turns o)) → IsTaken a (Retarget s) b
turns_on a u b s o t there is none forgot e =
    lands a b (Retarget s) none λ v h.
    let k = retarget_taken a.machine a.world v s h in
    let owed : k.o ≡ o = some_is k.o o (sym k.is_owed ∙ there) in
    let same : k.t ≡ t = some_is k.t t (sym k.found ∙ ap (λ (x : Owed). found a.machine a.world x.originator) owed ∙ is) in
    let w : World = record a.world { owed = others_owed a.world.owed s } in
    e ∙ ap (λ (x : Audited). with_world x (change x.world t.at (turns o))) forgot
    ∙ ap (with_world a) (ap (λ (x : Found). change w x.at (turns o)) (sym same) ∙ ap (λ x. change w k.t.at (turns x)) (sym owed) ∙ k.leads_to)

pub clock_within : (m : Machine) (w : World) (cpu clock : ℕ) → reason m w (Tick cpu clock) ≡ None → cpu < length w.clocks
clock_within m w cpu clock none =
    let v = is_possible m w (Tick cpu clock) none in
    let k = tick_taken m w v.0 cpu clock v.1 in
    slice_get_within w.clocks cpu k.now k.clock_is
