-- The steps of a history name declared threads alone.
use Rattle.std.proofs.Common.{subst, ◌≡◌, ℕ, suc, ◌+◌, ◌<◌, Bool, true, false, cond, Option, Some, None, List, [], ◌∷◌, length, refl, ap, sym, ◌∙◌, arith}
use Rattle.std.specs.Prelude.{not, is_some, nat_lt, find, filter, slice_index, IfSome}
use Rattle.std.specs.List.{AllByRecursion, list_any, position_or_len}
use Rattle.std.proofs.lemmas.Bool.{and_parts, lt-ltb, or_from}
use Rattle.l4_model.specs.Words.{GlobalId, Id, NilThread, AnyThread, AnyLocalThread, LocalThread, GlobalThread, Period, same_id}
use Rattle.l4_model.specs.Machine.{Machine, Declaration, Instr, Run, Ipc, Ask, End, OrderKind, CancelSend, CancelReceive, CancelBoth, Delete, declaration_of, is_declared, agree, same_space}
use Rattle.l4_model.specs.World.{World, Owed, Name, PendingOrder, Receive, Context, same_name, one_more, owed_of, opening}
use Rattle.l4_model.specs.Rules.{act, ipc_act, ask_act, is_admitted, id_from, receive_phase, owed_by, Orders, RunsAlone}
use Rattle.l4_model.specs.Conditions.{Found, found, Pending, undecided}
use Rattle.l4_model.specs.Steps.{Step, Deliver, Order, Tick, Retarget, order_of, next, OfThread, OfSend, Begun, Queued, Failed, Dropped, Retargeted}
use Rattle.l4_model.specs.History.{run, reached}
use Rattle.l4_model.specs.Reached.{ThreadFacts, IsSendOf}
use Rattle.l4_model.proofs.Chains.{bind_then, some_is}
use Rattle.l4_model.proofs.Inversions.{begin_taken, queue_taken, DeliverTaken, deliver_taken, drop_taken, order_taken, retarget_taken, send_failed, thread_found}
use Rattle.l4_model.proofs.Owed.{OwedEffect, owed_effect, owed_by_is}
use Rattle.l4_model.proofs.Places.{same_id_is, same_name_is, known, known_send, sender_found, receiver_place, id_of}
use Rattle.l4_model.proofs.Sound.{AreSound, opening_sound, step_sound}
use Rattle.l4_lint.specs.Always.{threads_in, names_thread}

-- Who was found is declared.

found_declared : (m : Machine) (w : World) (id : GlobalId) (t : Found) → found m w id ≡ Some t → is_declared m id ≡ true
found_declared m w id t is = ap is_some (known m w id t is).place

sender_declared : (m : Machine) (w : World) (s : Name) (p : Pending) → undecided m w s ≡ Some p → is_declared m s.thread ≡ true
sender_declared m w s p is = found_declared m w s.thread p.sender (sender_found m w s p is)

-- Who is in an address space is declared.

find_within : (p : Declaration → Bool) (ds : List Declaration) (d : Declaration) → find p ds ≡ Some d → position_or_len p ds < length ds
find_within p [] d h = cc
find_within p (x ∷ ds) d h = by (p x) h (find_within p ds d)
  where
    by : (b : Bool) → cond b (Some x) (find p ds) ≡ Some d → (find p ds ≡ Some d → position_or_len p ds < length ds) →
        cond (not b) (1 + position_or_len p ds) 0 < suc (length ds)
    by true h rest = omega arith
    by false h rest = omega (arith, rest h)

find_declared : (m : Machine) (id : GlobalId) (d : Declaration) → declaration_of m id ≡ Some d → is_declared m id ≡ true
find_declared m id d is =
    let within : nat_lt (position_or_len (λ d. same_id d.id id) m.threads) (length m.threads) ≡ true =
    lt-ltb _ _ (find_within (λ d. same_id d.id id) m.threads d is) in
    rw within refl

space_declared : (m : Machine) (a b : GlobalId) → same_space m a b ≡ true → is_declared m b ≡ true
space_declared m a b h = by (declaration_of m a) (declaration_of m b) refl h
  where
    by : (x y : Option Declaration) → declaration_of m b ≡ y → agree (λ d. d.space) x y ≡ true → is_declared m b ≡ true
    by x (Some d) is h = find_declared m b d is
    by (Some c) None is h = cc
    by None None is h = cc

-- An order that is given has a declared target.

admitted_declared : (m : Machine) (caller target : GlobalId) (what : OrderKind) → is_admitted m caller target what ≡ true → is_declared m target ≡ true
admitted_declared m caller target Delete h = h
admitted_declared m caller target CancelSend h = space_declared m caller target h
admitted_declared m caller target CancelReceive h = space_declared m caller target h
admitted_declared m caller target CancelBoth h = space_declared m caller target h

ask_declared : (m : Machine) (caller : GlobalId) (target : Id) (what : OrderKind) (order : PendingOrder) → order_of (ask_act m caller target what) ≡ Some order →
    is_declared m order.target ≡ true
ask_declared m caller NilThread what order h = cc
ask_declared m caller AnyThread what order h = cc
ask_declared m caller AnyLocalThread what order h = cc
ask_declared m caller (LocalThread word) what order h = cc
ask_declared m caller (GlobalThread t) what order h = by (is_admitted m caller t what) refl h
  where
    by : (b : Bool) → is_admitted m caller t what ≡ b → order_of (cond b (Orders (record { target = t; what = what })) RunsAlone) ≡ Some order →
        is_declared m order.target ≡ true
    by true is h = ap (λ (o : PendingOrder). is_declared m o.target) (sym (some_is _ order h)) ∙ admitted_declared m caller t what is
    by false is h = cc

pub ipc_orders_nothing : (m : Machine) (id : GlobalId) (now : ℕ) (c : Context) (to : Id) (period : Period) (receive : Option Receive) →
    order_of (ipc_act m id now c to period receive) ≡ None
ipc_orders_nothing m id now c NilThread period None = refl
ipc_orders_nothing m id now c NilThread period (Some receive) = refl
ipc_orders_nothing m id now c AnyThread period receive = refl
ipc_orders_nothing m id now c AnyLocalThread period receive = refl
ipc_orders_nothing m id now c (LocalThread word) period receive = refl
ipc_orders_nothing m id now c (GlobalThread t) period receive = refl

act_declared : (m : Machine) (id : GlobalId) (now : ℕ) (c : Context) (i : Instr) (order : PendingOrder) → order_of (act m id now c i) ≡ Some order →
    is_declared m order.target ≡ true
act_declared m id now c (Ask target what) order h = ask_declared m id (id_from c target) what order h
act_declared m id now c (Ipc to from send_period receive_period) order h =
    absurd (no_order (order_of (act m id now c (Ipc to from send_period receive_period))) order
    (ipc_orders_nothing m id now c (id_from c to) send_period (receive_phase (id_from c from) receive_period)) h)
  where
    no_order : (o : Option PendingOrder) (order : PendingOrder) → o ≡ None → o ≡ Some order → ⊥
    no_order o order e f = cc
act_declared m id now c (Run own) order h = cc
act_declared m id now c End order h = cc

-- The sends of owed retargets are of declared threads.

abbrev IsOwedOf : Machine → Owed → Type 0
IsOwedOf m o = is_declared m o.send.thread ≡ true

all_filter : (P : Owed → Type 0) (p : Owed → Bool) (os : List Owed) → AllByRecursion P os → AllByRecursion P (filter p os)
all_filter P p [] h = tt
all_filter P p (o ∷ os) h = by (p o) (all_filter P p os h.1)
  where
    by : (b : Bool) → AllByRecursion P (filter p os) → AllByRecursion P (cond b (o ∷ filter p os) (filter p os))
    by true rest = (h.0, rest)
    by false rest = rest

all_one_more : (P : Owed → Type 0) (o : Option Owed) (os : List Owed) → AllByRecursion P os → IfSome o P → AllByRecursion P (one_more o os)
all_one_more P None os h new = h
all_one_more P (Some o) [] h new = (new, tt)
all_one_more P (Some o) (x ∷ os) h new = (h.0, all_one_more P (Some o) os h.1 new)

owed_declared : (m : Machine) (s : Name) (os : List Owed) (o : Owed) → AllByRecursion (IsOwedOf m) os → owed_of os s ≡ Some o → is_declared m s.thread ≡ true
owed_declared m s [] o all h = cc
owed_declared m s (x ∷ os) o all h = by (same_name s x.send) refl h (owed_declared m s os o all.1)
  where
    by : (b : Bool) → same_name s x.send ≡ b → cond b (Some x) (owed_of os s) ≡ Some o → (owed_of os s ≡ Some o → is_declared m s.thread ≡ true) →
        is_declared m s.thread ≡ true
    by true is h others = ap (λ (n : Name). is_declared m n.thread) (same_name_is s x.send is) ∙ all.0
    by false is h others = others h

owed_kept : (m : Machine) (w v : World) (step : Step) → next m w step ≡ Some v → AllByRecursion (IsOwedOf m) w.owed → AllByRecursion (IsOwedOf m) v.owed
owed_kept m w v step h all = by step (owed_effect m w v step h)
  where
    by : (step : Step) → OwedEffect m w v step → AllByRecursion (IsOwedOf m) v.owed
    by (Deliver s receiver shown actual tag words) k =
        let owed_is : v.owed ≡ one_more (owed_by m s k.p.send.message receiver) w.owed = ap (λ (x : World). x.owed) (sym k.leads_to) in
        subst (AllByRecursion (IsOwedOf m)) (sym owed_is)
        (all_one_more (IsOwedOf m) (owed_by m s k.p.send.message receiver) w.owed all
        (owed_by_is (IsOwedOf m) m s k.p.send.message receiver (sender_declared m w s k.p k.is_undecided)))
    by (Retarget s) e = subst (AllByRecursion (IsOwedOf m)) (sym e) (all_filter (IsOwedOf m) (λ o. not (same_name s o.send)) w.owed all)
    by _ e = subst (AllByRecursion (IsOwedOf m)) (sym e) all

-- Each step

abbrev AreDeclared : Machine → List GlobalId → Type 0
AreDeclared m ids = AllByRecursion (λ id. is_declared m id ≡ true) ids

delivery_declared : (m : Machine) (w v : World) (s : Name) (receiver shown actual : GlobalId) (tag : ℕ) (words : List ℕ) →
    DeliverTaken m w v s receiver shown actual tag words → AreSound m w → AreDeclared m (s.thread ∷ receiver ∷ shown ∷ actual ∷ [])
delivery_declared m w v s receiver shown actual tag words k sound =
    let sender = known_send m w s k.p k.is_undecided in
    let facts : ThreadFacts m k.p.sender.declared (slice_index w.clocks k.p.sender.declared.cpu) k.p.sender.now =
    sound k.p.sender.at k.p.sender.declared k.p.sender.now sender.sender.declared sender.sender.now in
    let its : IsSendOf m k.p.sender.declared.id (slice_index w.clocks k.p.sender.declared.cpu) k.p.send = rw sender.send at facts.send in
    let id = id_of m w s.thread k.p.sender (sender_found m w s k.p k.is_undecided) in
    let receiver_is : receiver ≡ k.r.declared.id = same_id_is receiver k.r.declared.id k.same_receiver in
    let shown_is : shown ≡ k.p.send.message.shown = same_id_is shown k.p.send.message.shown k.same_shown in
    let actual_is : actual ≡ k.p.send.message.actual = same_id_is actual k.p.send.message.actual k.same_actual in
    let from : is_declared m s.thread ≡ true = sender_declared m w s k.p k.is_undecided in (
      from,
      (
        ap (is_declared m) receiver_is ∙ ap is_some (receiver_place m w k.p.send.to k.r k.to),
        (
          ap (is_declared m) shown_is ∙ its.shown,
          (ap (is_declared m) (actual_is ∙ its.actual ∙ id.0) ∙ from, tt),
        ),
      ),
    )

step_declared : (m : Machine) (w v : World) (step : Step) → next m w step ≡ Some v → AreSound m w → AllByRecursion (IsOwedOf m) w.owed →
    AreDeclared m (threads_in step)
step_declared m w v (OfThread kind id) h sound owed =
    let k = thread_found m w v kind id h in
    (found_declared m w id k.0 k.1, tt)
step_declared m w v (OfSend Begun s) h sound owed =
    let k = begin_taken m w v s h in
    (found_declared m w s.thread k.t k.found, tt)
step_declared m w v (OfSend Queued s) h sound owed =
    let k = queue_taken m w v s h in
    (sender_declared m w s k.p k.is_undecided, tt)
step_declared m w v (OfSend (Failed why) s) h sound owed =
    let k = send_failed m w v s why h in
    (sender_declared m w s k.p k.is_undecided, tt)
step_declared m w v (OfSend Dropped s) h sound owed =
    let k = drop_taken m w v s h in
    (sender_declared m w s k.p k.is_undecided, tt)
step_declared m w v (OfSend Retargeted s) h sound owed =
    let k = retarget_taken m w v s h in
    (owed_declared m s w.owed k.o owed k.is_owed, tt)
step_declared m w v (Deliver s receiver shown actual tag words) h sound owed =
    let k = deliver_taken m w v s receiver shown actual tag words h in
    delivery_declared m w v s receiver shown actual tag words k sound
step_declared m w v (Order caller target what) h sound owed =
    let k = order_taken m w v caller target what h in
    let target_is : target ≡ k.order.target = same_id_is target k.order.target (and_parts _ _ k.same_order).0 in
    let acts = act_declared m k.t.declared.id k.t.clock k.t.now.context _ k.order k.ordered in
    (found_declared m w caller k.t k.found, (ap (is_declared m) target_is ∙ acts, tt))
step_declared m w v (Tick cpu clock) h sound owed = tt

-- A thread that is not declared

other_named : (m : Machine) (t : GlobalId) (ids : List GlobalId) → is_declared m t ≡ false → AreDeclared m ids → list_any (same_id t) ids ≡ false
other_named m t [] none all = refl
other_named m t (id ∷ ids) none all = or_from _ _ (by (same_id t id) refl) (other_named m t ids none all.1)
  where
    no : (b : Bool) → b ≡ true → b ≡ false → ⊥
    no b e f = cc

    by : (b : Bool) → same_id t id ≡ b → b ≡ false
    by false is = refl
    by true is = absurd (no (is_declared m t) (ap (is_declared m) (same_id_is t id is) ∙ all.0) none)

run_named : (m : Machine) (t : GlobalId) (h : List Step) (w v : World) → is_declared m t ≡ false → run m w h ≡ Some v → AreSound m w →
    AllByRecursion (IsOwedOf m) w.owed → list_any (names_thread t) h ≡ false
run_named m t [] w v none r sound owed = refl
run_named m t (step ∷ h) w v none r sound owed =
    bind_then (next m w step) (λ u. run m u h) v r λ u is rest.
    or_from _ _ (other_named m t (threads_in step) none (step_declared m w u step is sound owed))
    (run_named m t h u v none rest (step_sound m w u step is sound) (owed_kept m w u step is owed))

pub never_named : (m : Machine) (t : GlobalId) (h : List Step) (w : World) → is_declared m t ≡ false → reached m h ≡ Some w → list_any (names_thread t) h ≡ false
never_named m t h w none r = run_named m t h (opening m) w none r (opening_sound m) tt
