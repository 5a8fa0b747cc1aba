-- Each step that is possible late has an entry.
use Rattle.std.proofs.Common.{subst, ◌≡◌, ℕ, suc, ◌+◌, ◌-◌, ◌*◌, ◌/◌, ◌%◌, ◌<◌, Bool, true, false, cond, Some, List, [], ◌∷◌, length, refl, ap, sym, ◌∙◌, arith}
use Rattle.std.proofs.lemmas.Bool.{lt-ltb, eqb-true}
use Rattle.std.proofs.lemmas.Bool.Decides.{nat_tests}
use Rattle.std.proofs.lemmas.Option.{slice_get_within}
use Rattle.std.proofs.lemmas.Slice.Eq.{bytes_eq-Decides}
use Rattle.std.specs.Prelude.{slice_get, nat_lt, ◌==◌}
use Rattle.l4_model.specs.Words.{GlobalId, same_id}
use Rattle.l4_model.specs.Machine.{Machine, OrderKind, CancelSend, CancelReceive, CancelBoth, Delete}
use Rattle.l4_model.specs.World.{World, Name, Owed, same_name, owed_of}
use Rattle.l4_model.specs.Rules.{Failure, TimeOver, NobodyThere, CancelAsked, received_tag, is_cross}
use Rattle.l4_model.specs.Conditions.{◌>>=◌, Found, found, found_at, Pending, undecided, act_of}
use Rattle.l4_model.specs.Steps.{SendStep, ThreadStep, Step, Deliver, Order, Tick, Retarget, order_kind_code, order_of, OfThread, OfSend, Runs, Waits, Fails, Obeys, Begun, Queued, Failed, Dropped, Retargeted}
use Rattle.l4_model.proofs.Inversions.{begin_taken, queue_taken, DeliverTaken, deliver_taken, drop_taken, OrderTaken, order_taken, retarget_taken}
use Rattle.l4_model.proofs.Places.{and_true, same_id_is, same_name_is, known, known_send, sender_found, id_of, place_id}
use Rattle.l4_worlds.specs.Late.{next_late}
use Rattle.l4_worlds.proofs.Taken.{late_refused, late_found}
use Rattle.l4_futures.specs.Choices.{coming_name, last_name, delivery, order_step, step_of, retarget_of, step_at, entry_count}

-- An entry that names a step
pub record Named (m : Machine) (w : World) (step : Step) : Type 0 where
  pub entry : ℕ
  pub within : entry < entry_count m w
  pub names : step_at m w entry ≡ Some step

thread_entry : (m : Machine) (w : World) (i kind : ℕ) (t : Found) (step : Step) → found_at m w i ≡ Some t → i < length m.threads → kind < 14 → step_of m w (Some t) kind ≡ Some step → Named m w step
thread_entry m w i kind t step is low few names =
    let e : ℕ = i * 14 + kind in
    let below : e < length m.threads * 14 = bound i (length m.threads) kind low few in
    let first : nat_lt (i * 14 + kind) (length m.threads * 14) ≡ true = lt-ltb (i * 14 + kind) (length m.threads * 14) below in
    let whole : (i * 14 + kind) / 14 ≡ i = omega (arith, few) in
    let rest : (i * 14 + kind) % 14 ≡ kind = omega (arith, few) in
    record {
      entry = i * 14 + kind;
      within = omega (arith, below);
      names =
          ap (λ b. cond b (step_of m w (found_at m w ((i * 14 + kind) / 14)) ((i * 14 + kind) % 14)) (retarget_of (slice_get w.owed ((i * 14 + kind) - length m.threads * 14)))) first
          ∙ ap (λ q. step_of m w (found_at m w q) ((i * 14 + kind) % 14)) whole
          ∙ ap (step_of m w (found_at m w i)) rest
          ∙ ap (λ o. step_of m w o kind) is
          ∙ names;
    }
  where
    bound : (i n kind : ℕ) → i < n → kind < 14 → i * 14 + kind < n * 14
    bound i n kind a b = omega (arith, a, b)

-- Of a thread that was found
found_entry : (m : Machine) (w : World) (id : GlobalId) (kind : ℕ) (t : Found) (step : Step) → found m w id ≡ Some t → kind < 14 → step_of m w (Some t) kind ≡ Some step → Named m w step
found_entry m w id kind t step is few names =
    let k = known m w id t is in
    let low = (place_id m id t.at k.place t.declared).0 in
    let there : found_at m w t.at ≡ Some t = ap (λ o. o >>= found_at m w) (sym k.place) ∙ is in
    thread_entry m w t.at kind t step there low few names

thread_is : (m : Machine) (w : World) (id : GlobalId) (t : Found) → found m w id ≡ Some t → t.declared.id ≡ id
thread_is m w id t is = (id_of m w id t is).0

last_is : (m : Machine) (w : World) (s : Name) (p : Pending) → undecided m w s ≡ Some p → last_name p.sender ≡ s
last_is m w s p is =
    let id : p.sender.declared.id ≡ s.thread = thread_is m w s.thread p.sender (sender_found m w s p is) in
    let k : p.sender.now.context.begun ≡ s.k = (known_send m w s p is).last in
    ap (λ x. record { thread = x; k = p.sender.now.context.begun }) id ∙ ap (λ n. record { thread = s.thread; k = n }) k

what_is : (a b : OrderKind) → (order_kind_code a == order_kind_code b) ≡ true → a ≡ b
what_is CancelSend CancelSend h = refl
what_is CancelSend CancelReceive h = cc
what_is CancelSend CancelBoth h = cc
what_is CancelSend Delete h = cc
what_is CancelReceive CancelSend h = cc
what_is CancelReceive CancelReceive h = refl
what_is CancelReceive CancelBoth h = cc
what_is CancelReceive Delete h = cc
what_is CancelBoth CancelSend h = cc
what_is CancelBoth CancelReceive h = cc
what_is CancelBoth CancelBoth h = refl
what_is CancelBoth Delete h = cc
what_is Delete CancelSend h = cc
what_is Delete CancelReceive h = cc
what_is Delete CancelBoth h = cc
what_is Delete Delete h = refl

delivery_named : (m : Machine) (w v : World) (s : Name) (receiver shown actual : GlobalId) (tag : ℕ) (words : List ℕ) (k : DeliverTaken m w v s receiver shown actual tag words) →
    delivery m w (last_name k.p.sender) ≡ Some (Deliver s receiver shown actual tag words)
delivery_named m w v s receiver shown actual tag words k =
    let message = k.p.send.message in
    let last : last_name k.p.sender ≡ s = last_is m w s k.p k.is_undecided in
    let receiver_is : receiver ≡ k.r.declared.id = same_id_is receiver k.r.declared.id k.same_receiver in
    let tag_is : tag ≡ received_tag (is_cross m k.r.declared.id message) message = eqb-true tag _ k.same_tag ∙ ap (λ r. received_tag (is_cross m r message) message) receiver_is in
    let told : delivery m w s ≡ Some (Deliver s k.r.declared.id message.shown message.actual (received_tag (is_cross m k.r.declared.id message) message) message.words) = rw (k.is_undecided, k.to) refl in
    ap (delivery m w) last ∙ told
    ∙ ap (λ x. Some (Deliver s x message.shown message.actual (received_tag (is_cross m k.r.declared.id message) message) message.words)) (sym receiver_is)
    ∙ ap (λ x. Some (Deliver s receiver x message.actual (received_tag (is_cross m k.r.declared.id message) message) message.words)) (sym (same_id_is shown message.shown k.same_shown))
    ∙ ap (λ x. Some (Deliver s receiver shown x (received_tag (is_cross m k.r.declared.id message) message) message.words)) (sym (same_id_is actual message.actual k.same_actual))
    ∙ ap (λ x. Some (Deliver s receiver shown actual x message.words)) (sym tag_is)
    ∙ ap (λ x. Some (Deliver s receiver shown actual tag x)) (sym ((bytes_eq-Decides words message.words).0 k.same_words))

order_named : (m : Machine) (w v : World) (caller target : GlobalId) (what : OrderKind) (k : OrderTaken m w v caller target what) → order_step k.t.declared.id (order_of (act_of m k.t)) ≡ Some (Order caller target what)
order_named m w v caller target what k =
    let both = and_true (same_id target k.order.target) (order_kind_code what == order_kind_code k.order.what) k.same_order in
    ap (order_step k.t.declared.id) k.ordered
    ∙ ap (λ x. Some (Order x k.order.target k.order.what)) (thread_is m w caller k.t k.found)
    ∙ ap (λ x. Some (Order caller x k.order.what)) (sym (same_id_is target k.order.target both.0))
    ∙ ap (λ x. Some (Order caller target x)) (sym (what_is what k.order.what both.1))

-- Of an owed retarget

record Stands (os : List Owed) (s : Name) : Type 0 where
  place : ℕ
  o : Owed
  at : slice_get os place ≡ Some o
  named : o.send ≡ s

owed_place : (os : List Owed) (s : Name) (o : Owed) → owed_of os s ≡ Some o → Stands os s
owed_place [] s o h = cc
owed_place (x ∷ os) s o h = by (same_name s x.send) refl h (λ rest. owed_place os s o rest)
  where
    by : (b : Bool) → same_name s x.send ≡ b → cond b (Some x) (owed_of os s) ≡ Some o → (owed_of os s ≡ Some o → Stands os s) → Stands (x ∷ os) s
    by true is h rest = record { place = 0; o = x; at = refl; named = sym (same_name_is s x.send is) }
    by false is h rest = let r = rest h in record { place = suc r.place; o = r.o; at = r.at; named = r.named }

owed_entry : (m : Machine) (w : World) (j : ℕ) (o : Owed) → slice_get w.owed j ≡ Some o → Named m w (Retarget o.send)
owed_entry m w j o at =
    let n : ℕ = length m.threads * 14 in
    let within = slice_get_within w.owed j o at in
    let behind : nat_lt (length m.threads * 14 + j) (length m.threads * 14) ≡ false = not_below (length m.threads * 14) j in
    let place : (length m.threads * 14 + j) - length m.threads * 14 ≡ j = omega arith in
    let e : ℕ = length m.threads * 14 + j in
    record {
      entry = length m.threads * 14 + j;
      within = omega (arith, within);
      names =
          ap (λ b. cond b (step_of m w (found_at m w ((length m.threads * 14 + j) / 14)) ((length m.threads * 14 + j) % 14)) (retarget_of (slice_get w.owed ((length m.threads * 14 + j) - length m.threads * 14)))) behind
          ∙ ap (λ i. retarget_of (slice_get w.owed i)) place
          ∙ ap retarget_of at;
    }
  where
    not_below : (n j : ℕ) → nat_lt (n + j) n ≡ false
    not_below n j = grind (arith, nat_tests)

-- All of them

thread_named : (m : Machine) (w : World) (id : GlobalId) (kind : ThreadStep) (n : ℕ) (t : Found) →
    found m w id ≡ Some t → n < 14 → step_of m w (Some t) n ≡ Some (OfThread kind t.declared.id) →
    Named m w (OfThread kind id)
thread_named m w id kind n t is few at =
    found_entry m w id n t (OfThread kind id) is few (at ∙ ap (λ x. Some (OfThread kind x)) (thread_is m w id t is))

-- Each step of a thread
of_thread : (m : Machine) (w : World) (id : GlobalId) (kind : ThreadStep) (t : Found) → found m w id ≡ Some t →
    Named m w (OfThread kind id)
of_thread m w id Runs t is = thread_named m w id Runs 0 t is (omega arith) refl
of_thread m w id Waits t is = thread_named m w id Waits 4 t is (omega arith) refl
of_thread m w id (Fails TimeOver) t is = thread_named m w id (Fails TimeOver) 6 t is (omega arith) refl
of_thread m w id (Fails NobodyThere) t is = thread_named m w id (Fails NobodyThere) 8 t is (omega arith) refl
of_thread m w id (Fails CancelAsked) t is = thread_named m w id (Fails CancelAsked) 10 t is (omega arith) refl
of_thread m w id Obeys t is = thread_named m w id Obeys 13 t is (omega arith) refl

last_named : (m : Machine) (w : World) (s : Name) (kind : SendStep) (n : ℕ) (p : Pending) →
    undecided m w s ≡ Some p → n < 14 → step_of m w (Some p.sender) n ≡ Some (OfSend kind (last_name p.sender)) →
    Named m w (OfSend kind s)
last_named m w s kind n p is few at =
    found_entry m w s.thread n p.sender (OfSend kind s) (sender_found m w s p is) few
    (at ∙ ap (λ x. Some (OfSend kind x)) (last_is m w s p is))

refusal_named : (m : Machine) (w : World) (s : Name) (why : Failure) (p : Pending) → undecided m w s ≡ Some p →
    Named m w (OfSend (Failed why) s)
refusal_named m w s TimeOver p is = last_named m w s (Failed TimeOver) 5 p is (omega arith) refl
refusal_named m w s NobodyThere p is = last_named m w s (Failed NobodyThere) 7 p is (omega arith) refl
refusal_named m w s CancelAsked p is = last_named m w s (Failed CancelAsked) 9 p is (omega arith) refl

pub named : (m : Machine) (w v : World) (step : Step) → next_late m w step ≡ Some v → Named m w step
named m w v (OfThread kind id) h = let k = late_found m w v kind id h in of_thread m w id kind k.0 k.1
named m w v (OfSend Begun s) h =
    let k = begin_taken m w v s h in
    let next_k : s.k ≡ k.t.now.context.begun + 1 = eqb-true s.k (k.t.now.context.begun + 1) k.next_k in
    let name : coming_name k.t ≡ s =
    ap (λ x. record { thread = x; k = k.t.now.context.begun + 1 }) (thread_is m w s.thread k.t k.found)
    ∙ ap (λ n. record { thread = s.thread; k = n }) (sym next_k) in
    found_entry m w s.thread 1 k.t (OfSend Begun s) k.found (omega arith) (ap (λ x. Some (OfSend Begun x)) name)
named m w v (OfSend Queued s) h =
    let k = queue_taken m w v s h in
    last_named m w s Queued 2 k.p k.is_undecided (omega arith) refl
named m w v (OfSend (Failed why) s) h =
    let k = late_refused m w v s why h in
    refusal_named m w s why k.p k.is_undecided
named m w v (OfSend Dropped s) h =
    let k = drop_taken m w v s h in
    last_named m w s Dropped 11 k.p k.is_undecided (omega arith) refl
named m w v (OfSend Retargeted s) h =
    let k = retarget_taken m w v s h in
    let r = owed_place w.owed s k.o k.is_owed in
    subst (λ n. Named m w (Retarget n)) r.named (owed_entry m w r.place r.o r.at)
named m w v (Deliver s receiver shown actual tag words) h =
    let k = deliver_taken m w v s receiver shown actual tag words h in
    found_entry m w s.thread 3 k.p.sender (Deliver s receiver shown actual tag words)
    (sender_found m w s k.p k.is_undecided) (omega arith) (delivery_named m w v s receiver shown actual tag words k)
named m w v (Order caller target what) h =
    let k = order_taken m w v caller target what h in
    found_entry m w caller 12 k.t (Order caller target what) k.found (omega arith)
    (order_named m w v caller target what k)
named m w v (Tick cpu clock) h = cc
