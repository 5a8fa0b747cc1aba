-- What is known where a step was possible: each line of its rule, under a name.
use Rattle.std.proofs.Common.{subst, ◌≡◌, ℕ, ◌+◌, ◌^◌, true, Some, List, refl, ap, sym}
use Rattle.std.specs.Prelude.{slice_get, slice_set, nat_lt, ◌==◌, not, ◌&&◌, is_none}
use Rattle.std.specs.Str.{bytes_eq}
use Rattle.l4_model.specs.Words.{GlobalId, same_id}
use Rattle.l4_model.specs.Machine.{Machine, OrderKind, place_of}
use Rattle.l4_model.specs.World.{Receive, Send, PendingOrder, World, change, is_alive, is_ready, is_deleted, receive_now, queued, unqueued, Name, Owed, owed_of, others_owed, must_wait}
use Rattle.l4_model.specs.Conditions.{Found, found, Pending, undecided, receiver_of, instruction, act_of, is_waiting, first_accepted, is_nobody, found_by, is_no_destination, is_timed_out}
use Rattle.l4_model.specs.Rules.{Failure, TimeOver, NobodyThere, CancelAsked, send_code, receive_code, received_tag, is_cross, owed_by}
use Rattle.l4_model.specs.Steps.{ThreadStep, Runs, Waits, Fails, Obeys, SendStep, Begun, Queued, Failed, Dropped, Retargeted, after_thread, after_failure, after_send, after_refusal, order_kind_code, runs_alone, send_of, receive_of, order_of, after_local, after_begin, after_queue, after_deliver, after_wait, owing, without_send, after_drop, receive_passed, may_fail, may_refuse, after_order, after_obey, after_tick, after_retarget}
use Rattle.l4_model.specs.Effects.{runs, begins, waits, fails, decided, refused, receives, delivered, asked, orders, obeyed, turns}
use Rattle.l4_model.proofs.Chains.{bind_then, guard_then, some_is}
use Rattle.l4_model.proofs.Places.{and_true}

pub record LocalTaken (m : Machine) (w v : World) (id : GlobalId) : Type 0 where
  pub t : Found
  pub found : found m w id ≡ Some t
  pub ready : (is_ready t.now.phase) ≡ true
  pub alone : (runs_alone (act_of m t)) ≡ true
  pub leads_to : change w t.at (runs (instruction t)) ≡ v

pub local_taken : (m : Machine) (w v : World) (id : GlobalId) → after_local m w id ≡ Some v → LocalTaken m w v id
local_taken m w v id h =
    bind_then (found m w id) _ v h λ t found rest.
    guard_then (is_ready t.now.phase) _ v rest λ ready rest.
    guard_then (runs_alone (act_of m t)) _ v rest λ alone rest.
    record { t = t; found = found; ready = ready; alone = alone; leads_to = some_is _ v rest }

pub record BeginTaken (m : Machine) (w v : World) (s : Name) : Type 0 where
  pub t : Found
  pub found : found m w s.thread ≡ Some t
  pub ready : (is_ready t.now.phase) ≡ true
  pub next_k : (s.k == t.now.context.begun + 1) ≡ true
  pub send : Send
  pub sends : send_of (act_of m t) ≡ Some send
  pub leads_to : change w t.at (begins send) ≡ v

pub begin_taken : (m : Machine) (w v : World) (s : Name) → after_begin m w s ≡ Some v → BeginTaken m w v s
begin_taken m w v s h =
    bind_then (found m w s.thread) _ v h λ t found rest.
    guard_then (is_ready t.now.phase) _ v rest λ ready rest.
    guard_then (s.k == t.now.context.begun + 1) _ v rest λ next_k rest.
    bind_then (send_of (act_of m t)) _ v rest λ send sends rest.
    record { t = t; found = found; ready = ready; next_k = next_k; send = send; sends = sends; leads_to = some_is _ v rest }

pub record QueueTaken (m : Machine) (w v : World) (s : Name) : Type 0 where
  pub p : Pending
  pub is_undecided : undecided m w s ≡ Some p
  pub r : Found
  pub to : receiver_of m w p ≡ Some r
  pub alive : (is_alive r.now.phase) ≡ true
  pub in_no_list : (not (is_waiting w p)) ≡ true
  pub free : (not (must_wait w.owed s.thread p.send.to)) ≡ true
  pub leads_to : queued w r.at p.sender.at ≡ v

pub queue_taken : (m : Machine) (w v : World) (s : Name) → after_queue m w s ≡ Some v → QueueTaken m w v s
queue_taken m w v s h =
    bind_then (undecided m w s) _ v h λ p is_undecided rest.
    bind_then (receiver_of m w p) _ v rest λ r to rest.
    guard_then (is_alive r.now.phase) _ v rest λ alive rest.
    guard_then (not (is_waiting w p)) _ v rest λ in_no_list rest.
    guard_then (not (must_wait w.owed s.thread p.send.to)) _ v rest λ free rest.
    record { p = p; is_undecided = is_undecided; r = r; to = to; alive = alive; in_no_list = in_no_list; free = free; leads_to = some_is _ v rest }

pub record DeliverTaken (m : Machine) (w v : World) (s : Name) (receiver shown actual : GlobalId) (tag : ℕ) (words : List ℕ) : Type 0 where
  pub p : Pending
  pub is_undecided : undecided m w s ≡ Some p
  pub r : Found
  pub to : receiver_of m w p ≡ Some r
  pub receive : Receive
  pub receiving : receive_now r.now.phase ≡ Some receive
  pub first : ℕ
  pub first_is : first_accepted m w r receive.from ≡ Some first
  pub is_first : (first == p.sender.at) ≡ true
  pub same_receiver : (same_id receiver r.declared.id) ≡ true
  pub same_shown : (same_id shown p.send.message.shown) ≡ true
  pub same_actual : (same_id actual p.send.message.actual) ≡ true
  pub same_tag : (tag == received_tag (is_cross m receiver p.send.message) p.send.message) ≡ true
  pub same_words : (bytes_eq words p.send.message.words) ≡ true
  pub leads_to :
      owing (owed_by m s p.send.message receiver)
      (change (change (unqueued w p.sender.at) r.at (receives p.send.message tag)) p.sender.at (delivered p.send p.sender.clock)) ≡ v

pub deliver_taken : (m : Machine) (w v : World) (s : Name) (receiver shown actual : GlobalId) (tag : ℕ) (words : List ℕ) → after_deliver m w s receiver shown actual tag words ≡ Some v → DeliverTaken m w v s receiver shown actual tag words
deliver_taken m w v s receiver shown actual tag words h =
    bind_then (undecided m w s) _ v h λ p is_undecided rest.
    bind_then (receiver_of m w p) _ v rest λ r to rest.
    bind_then (receive_now r.now.phase) _ v rest λ receive receiving rest.
    bind_then (first_accepted m w r receive.from) _ v rest λ first first_is rest.
    guard_then (first == p.sender.at) _ v rest λ is_first rest.
    guard_then (same_id receiver r.declared.id) _ v rest λ same_receiver rest.
    guard_then (same_id shown p.send.message.shown) _ v rest λ same_shown rest.
    guard_then (same_id actual p.send.message.actual) _ v rest λ same_actual rest.
    guard_then (tag == received_tag (is_cross m receiver p.send.message) p.send.message) _ v rest λ same_tag rest.
    guard_then (bytes_eq words p.send.message.words) _ v rest λ same_words rest.
    record { p = p; is_undecided = is_undecided; r = r; to = to; receive = receive; receiving = receiving; first = first; first_is = first_is; is_first = is_first; same_receiver = same_receiver; same_shown = same_shown; same_actual = same_actual; same_tag = same_tag; same_words = same_words; leads_to = some_is _ v rest }

pub record WaitTaken (m : Machine) (w v : World) (id : GlobalId) : Type 0 where
  pub t : Found
  pub found : found m w id ≡ Some t
  pub ready : (is_ready t.now.phase) ≡ true
  pub receive : Receive
  pub receiving : receive_of (act_of m t) ≡ Some receive
  pub leads_to : change w t.at (waits receive t.clock) ≡ v

pub wait_taken : (m : Machine) (w v : World) (id : GlobalId) → after_wait m w id ≡ Some v → WaitTaken m w v id
wait_taken m w v id h =
    bind_then (found m w id) _ v h λ t found rest.
    guard_then (is_ready t.now.phase) _ v rest λ ready rest.
    bind_then (receive_of (act_of m t)) _ v rest λ receive receiving rest.
    record { t = t; found = found; ready = ready; receive = receive; receiving = receiving; leads_to = some_is _ v rest }

-- A send is refused, or a receive phase fails, for this reason.

pub record SendFailed (m : Machine) (w v : World) (s : Name) (why : Failure) : Type 0 where
  pub p : Pending
  pub is_undecided : undecided m w s ≡ Some p
  pub may : may_refuse m w s p why ≡ true
  pub leads_to : without_send w p (refused (send_code why)) ≡ v

pub send_failed : (m : Machine) (w v : World) (s : Name) (why : Failure) →
    after_refusal m w s why ≡ Some v → SendFailed m w v s why
send_failed m w v s why h =
    bind_then (undecided m w s) _ v h λ p is_undecided rest.
    guard_then (may_refuse m w s p why) _ v rest λ may rest.
    record { p = p; is_undecided = is_undecided; may = may; leads_to = some_is _ v rest }

pub record ReceiveFailed (m : Machine) (w v : World) (id : GlobalId) (why : Failure) : Type 0 where
  pub t : Found
  pub found : found m w id ≡ Some t
  pub receive : Receive
  pub receiving : receive_now t.now.phase ≡ Some receive
  pub may : may_fail m w t receive why ≡ true
  pub leads_to : change w t.at (fails (receive_code why)) ≡ v

pub receive_failed : (m : Machine) (w v : World) (id : GlobalId) (why : Failure) →
    after_failure m w id why ≡ Some v → ReceiveFailed m w v id why
receive_failed m w v id why h =
    bind_then (found m w id) _ v h λ t found rest.
    bind_then (receive_now t.now.phase) _ v rest λ receive receiving rest.
    guard_then (may_fail m w t receive why) _ v rest λ may rest.
    record { t = t; found = found; receive = receive; receiving = receiving; may = may; leads_to = some_is _ v rest }

pub record SendTimeoutTaken (m : Machine) (w v : World) (s : Name) : Type 0 where
  pub p : Pending
  pub is_undecided : undecided m w s ≡ Some p
  pub due : (is_timed_out m w p) ≡ true
  pub free : (not (must_wait w.owed s.thread p.send.to)) ≡ true
  pub leads_to : without_send w p (refused 2) ≡ v

pub send_timeout_taken : (m : Machine) (w v : World) (s : Name) → after_refusal m w s TimeOver ≡ Some v → SendTimeoutTaken m w v s
send_timeout_taken m w v s h =
    let k = send_failed m w v s TimeOver h in
    let both = and_true (is_timed_out m w k.p) _ k.may in
    record { p = k.p; is_undecided = k.is_undecided; due = both.0; free = both.1; leads_to = k.leads_to }

pub record SendNobodyTaken (m : Machine) (w v : World) (s : Name) : Type 0 where
  pub p : Pending
  pub is_undecided : undecided m w s ≡ Some p
  pub nobody : (is_no_destination p.send.to (receiver_of m w p)) ≡ true
  pub free : (not (must_wait w.owed s.thread p.send.to)) ≡ true
  pub leads_to : without_send w p (refused 4) ≡ v

pub send_nobody_taken : (m : Machine) (w v : World) (s : Name) → after_refusal m w s NobodyThere ≡ Some v → SendNobodyTaken m w v s
send_nobody_taken m w v s h =
    let k = send_failed m w v s NobodyThere h in
    let both = and_true (is_no_destination k.p.send.to (receiver_of m w k.p)) _ k.may in
    record { p = k.p; is_undecided = k.is_undecided; nobody = both.0; free = both.1; leads_to = k.leads_to }

pub record SendCancelTaken (m : Machine) (w v : World) (s : Name) : Type 0 where
  pub p : Pending
  pub is_undecided : undecided m w s ≡ Some p
  pub in_list : (is_waiting w p) ≡ true
  pub wish : (p.sender.now.cancel_send) ≡ true
  pub leads_to : without_send w p (refused 6) ≡ v

pub send_cancel_taken : (m : Machine) (w v : World) (s : Name) → after_refusal m w s CancelAsked ≡ Some v → SendCancelTaken m w v s
send_cancel_taken m w v s h =
    let k = send_failed m w v s CancelAsked h in
    let both = and_true (is_waiting w k.p) _ k.may in
    record { p = k.p; is_undecided = k.is_undecided; in_list = both.0; wish = both.1; leads_to = k.leads_to }

pub record DropTaken (m : Machine) (w v : World) (s : Name) : Type 0 where
  pub p : Pending
  pub is_undecided : undecided m w s ≡ Some p
  pub in_list : (is_waiting w p) ≡ true
  pub gone : (is_deleted p.sender.now.phase) ≡ true
  pub leads_to : without_send w p decided ≡ v

pub drop_taken : (m : Machine) (w v : World) (s : Name) → after_drop m w s ≡ Some v → DropTaken m w v s
drop_taken m w v s h =
    bind_then (undecided m w s) _ v h λ p is_undecided rest.
    guard_then (is_waiting w p) _ v rest λ in_list rest.
    guard_then (is_deleted p.sender.now.phase) _ v rest λ gone rest.
    record { p = p; is_undecided = is_undecided; in_list = in_list; gone = gone; leads_to = some_is _ v rest }

pub record ReceiveTimeoutTaken (m : Machine) (w v : World) (id : GlobalId) : Type 0 where
  pub t : Found
  pub found : found m w id ≡ Some t
  pub receive : Receive
  pub receiving : receive_now t.now.phase ≡ Some receive
  pub due : (receive_passed t t.now.phase) ≡ true
  pub none_accepted : (is_none (first_accepted m w t receive.from)) ≡ true
  pub leads_to : change w t.at (fails 3) ≡ v

pub receive_timeout_taken : (m : Machine) (w v : World) (id : GlobalId) → after_failure m w id TimeOver ≡ Some v → ReceiveTimeoutTaken m w v id
receive_timeout_taken m w v id h =
    let k = receive_failed m w v id TimeOver h in
    let both = and_true (receive_passed k.t k.t.now.phase) _ k.may in
    record {
      t = k.t;
      found = k.found;
      receive = k.receive;
      receiving = k.receiving;
      due = both.0;
      none_accepted = both.1;
      leads_to = k.leads_to;
    }

pub record ReceiveNobodyTaken (m : Machine) (w v : World) (id : GlobalId) : Type 0 where
  pub t : Found
  pub found : found m w id ≡ Some t
  pub receive : Receive
  pub receiving : receive_now t.now.phase ≡ Some receive
  pub nobody : (is_nobody receive.from (found_by m w receive.from)) ≡ true
  pub none_accepted : (is_none (first_accepted m w t receive.from)) ≡ true
  pub leads_to : change w t.at (fails 5) ≡ v

pub receive_nobody_taken : (m : Machine) (w v : World) (id : GlobalId) → after_failure m w id NobodyThere ≡ Some v → ReceiveNobodyTaken m w v id
receive_nobody_taken m w v id h =
    let k = receive_failed m w v id NobodyThere h in
    let both = and_true (is_nobody k.receive.from (found_by m w k.receive.from)) _ k.may in
    record {
      t = k.t;
      found = k.found;
      receive = k.receive;
      receiving = k.receiving;
      nobody = both.0;
      none_accepted = both.1;
      leads_to = k.leads_to;
    }

pub record ReceiveCancelTaken (m : Machine) (w v : World) (id : GlobalId) : Type 0 where
  pub t : Found
  pub found : found m w id ≡ Some t
  pub receive : Receive
  pub receiving : receive_now t.now.phase ≡ Some receive
  pub wish : (t.now.cancel_receive) ≡ true
  pub leads_to : change w t.at (fails 7) ≡ v

pub receive_cancel_taken : (m : Machine) (w v : World) (id : GlobalId) → after_failure m w id CancelAsked ≡ Some v → ReceiveCancelTaken m w v id
receive_cancel_taken m w v id h =
    let k = receive_failed m w v id CancelAsked h in
    record {
      t = k.t;
      found = k.found;
      receive = k.receive;
      receiving = k.receiving;
      wish = k.may;
      leads_to = k.leads_to;
    }

pub record OrderTaken (m : Machine) (w v : World) (caller target : GlobalId) (what : OrderKind) : Type 0 where
  pub t : Found
  pub found : found m w caller ≡ Some t
  pub ready : (is_ready t.now.phase) ≡ true
  pub order : PendingOrder
  pub ordered : order_of (act_of m t) ≡ Some order
  pub same_order : (same_id target order.target && order_kind_code what == order_kind_code order.what) ≡ true
  pub leads_to : change w t.at (orders order) ≡ v

pub order_taken : (m : Machine) (w v : World) (caller target : GlobalId) (what : OrderKind) → after_order m w caller target what ≡ Some v → OrderTaken m w v caller target what
order_taken m w v caller target what h =
    bind_then (found m w caller) _ v h λ t found rest.
    guard_then (is_ready t.now.phase) _ v rest λ ready rest.
    bind_then (order_of (act_of m t)) _ v rest λ order ordered rest.
    guard_then (same_id target order.target && order_kind_code what == order_kind_code order.what) _ v rest λ same_order rest.
    record { t = t; found = found; ready = ready; order = order; ordered = ordered; same_order = same_order; leads_to = some_is _ v rest }

pub record ObeyTaken (m : Machine) (w v : World) (caller : GlobalId) : Type 0 where
  pub t : Found
  pub found : found m w caller ≡ Some t
  pub order : PendingOrder
  pub ordered : t.now.order ≡ Some order
  pub target : ℕ
  pub target_is : place_of m order.target ≡ Some target
  pub leads_to : change (change w target (asked order.what)) t.at obeyed ≡ v

pub obey_taken : (m : Machine) (w v : World) (caller : GlobalId) → after_obey m w caller ≡ Some v → ObeyTaken m w v caller
obey_taken m w v caller h =
    bind_then (found m w caller) _ v h λ t found rest.
    bind_then (t.now.order) _ v rest λ order ordered rest.
    bind_then (place_of m order.target) _ v rest λ target target_is rest.
    record { t = t; found = found; order = order; ordered = ordered; target = target; target_is = target_is; leads_to = some_is _ v rest }

pub record TickTaken (m : Machine) (w v : World) (cpu clock : ℕ) : Type 0 where
  pub now : ℕ
  pub clock_is : slice_get w.clocks cpu ≡ Some now
  pub later : (nat_lt now clock && nat_lt clock (2 ^ 62)) ≡ true
  pub leads_to : (record w { clocks = slice_set w.clocks cpu clock }) ≡ v

pub tick_taken : (m : Machine) (w v : World) (cpu clock : ℕ) → after_tick m w cpu clock ≡ Some v → TickTaken m w v cpu clock
tick_taken m w v cpu clock h =
    bind_then (slice_get w.clocks cpu) _ v h λ now clock_is rest.
    guard_then (nat_lt now clock && nat_lt clock (2 ^ 62)) _ v rest λ later rest.
    record { now = now; clock_is = clock_is; later = later; leads_to = some_is _ v rest }

pub record RetargetTaken (m : Machine) (w v : World) (s : Name) : Type 0 where
  pub o : Owed
  pub is_owed : owed_of w.owed s ≡ Some o
  pub t : Found
  pub found : found m w o.originator ≡ Some t
  pub leads_to : change (record w { owed = others_owed w.owed s }) t.at (turns o) ≡ v

pub retarget_taken : (m : Machine) (w v : World) (s : Name) → after_retarget m w s ≡ Some v → RetargetTaken m w v s
retarget_taken m w v s h =
    bind_then (owed_of w.owed s) _ v h λ o is_owed rest.
    bind_then (found m w o.originator) _ v rest λ t found rest.
    record { o = o; is_owed = is_owed; t = t; found = found; leads_to = some_is _ v rest }

-- A step changes nothing but threads.
pub record ThreadsAlone (w v : World) : Type 0 where
  pub waiting : v.waiting ≡ w.waiting
  pub clocks : v.clocks ≡ w.clocks
  pub owed : v.owed ≡ w.owed

changes_alone : (w u v : World) → u ≡ v → ThreadsAlone w u → ThreadsAlone w v
changes_alone w u v e h = subst (ThreadsAlone w) e h

pub thread_alone : (m : Machine) (w v : World) (kind : ThreadStep) (id : GlobalId) →
    after_thread m w id kind ≡ Some v → ThreadsAlone w v
thread_alone m w v Runs id h =
    changes_alone w _ v (local_taken m w v id h).leads_to (record { waiting = refl; clocks = refl; owed = refl })
thread_alone m w v Waits id h =
    changes_alone w _ v (wait_taken m w v id h).leads_to (record { waiting = refl; clocks = refl; owed = refl })
thread_alone m w v (Fails why) id h =
    changes_alone w _ v (receive_failed m w v id why h).leads_to (record { waiting = refl; clocks = refl; owed = refl })
thread_alone m w v Obeys id h =
    changes_alone w _ v (obey_taken m w v id h).leads_to (record { waiting = refl; clocks = refl; owed = refl })

-- A step of a thread finds it.
pub thread_found : (m : Machine) (w v : World) (kind : ThreadStep) (id : GlobalId) →
    after_thread m w id kind ≡ Some v → (t : Found) × (found m w id ≡ Some t)
thread_found m w v Runs id h = let k = local_taken m w v id h in (k.t, k.found)
thread_found m w v Waits id h = let k = wait_taken m w v id h in (k.t, k.found)
thread_found m w v (Fails why) id h = let k = receive_failed m w v id why h in (k.t, k.found)
thread_found m w v Obeys id h = let k = obey_taken m w v id h in (k.t, k.found)

-- A step of a send keeps the clocks.
pub send_clocks : (m : Machine) (w v : World) (kind : SendStep) (s : Name) →
    after_send m w s kind ≡ Some v → v.clocks ≡ w.clocks
send_clocks m w v Begun s h = ap (λ (u : World). u.clocks) (sym (begin_taken m w v s h).leads_to)
send_clocks m w v Queued s h = ap (λ (u : World). u.clocks) (sym (queue_taken m w v s h).leads_to)
send_clocks m w v (Failed why) s h = ap (λ (u : World). u.clocks) (sym (send_failed m w v s why h).leads_to)
send_clocks m w v Dropped s h = ap (λ (u : World). u.clocks) (sym (drop_taken m w v s h).leads_to)
send_clocks m w v Retargeted s h = ap (λ (u : World). u.clocks) (sym (retarget_taken m w v s h).leads_to)
