-- A local step, and the step by which a thread gives an order, are quiet.
use Rattle.std.proofs.Common.{subst, ◌≡◌, ℕ, true, false, Option, Some, None, refl, ap, sym, ◌∙◌}
use Rattle.std.specs.Prelude.{slice_get, slice_index, ◌==◌}
use Rattle.l4_model.specs.Words.{GlobalId, Id, NilThread, AnyThread, AnyLocalThread, LocalThread, GlobalThread, Period, same_id}
use Rattle.l4_model.specs.Machine.{Machine, OrderKind, CancelSend, CancelReceive, CancelBoth, Delete, Instr, Run, Ipc, Ask, End}
use Rattle.l4_model.specs.World.{World, Context, Receive, PendingOrder, is_ready}
use Rattle.l4_model.specs.Rules.{act, ipc_act, id_from, receive_phase}
use Rattle.l4_model.specs.Effects.{runs, orders}
use Rattle.l4_model.specs.Conditions.{Found, found, instruction, act_of}
use Rattle.l4_model.specs.Steps.{Step, Local, Begin, Wait, Order, Obey, order_kind_code, runs_alone, send_of, receive_of, order_of}
use Rattle.l4_model.proofs.Chains.{some_is}
use Rattle.l4_model.proofs.Inversions.{LocalTaken, local_taken, begin_taken, wait_taken, OrderTaken, order_taken}
use Rattle.l4_model.proofs.Places.{known, same_id_is, and_true}
use Rattle.l4_model.proofs.Sound.{AreSound, ready_has_none}
use Rattle.l4_first.specs.First.{is_next_of, is_quiet_of, order_deletes, deletes_now, HasNothingUndone, AreExchanged}
use Rattle.l4_worlds.specs.Late.{next_late}
use Rattle.l4_first.proofs.Alone.{known_found, is_ready_is, ran_phase, alone_sends, alone_receives, alone_orders, alone_at}
use Rattle.l4_first.proofs.Quiet.{is_still_phase, IsQuiet, exchanged}
use Rattle.l4_first.proofs.Spared.{IsSpared, spared_by}
use Rattle.l4_first.proofs.Next.{found_at_id, order_sends, order_receives}

-- Such a step is quiet.

found_later : (m : Machine) (w b : World) (id : GlobalId) (t : Found) → found m w id ≡ Some t → slice_get b.threads t.at ≡ Some t.now → found m b id ≡ Some (record t { clock = slice_index b.clocks t.declared.cpu })
found_later m w b id t is at =
    let k = known m w id t is in
    known_found m b id (record t { clock = slice_index b.clocks t.declared.cpu }) (record { place = k.place; declared = k.declared; now = at; clock = refl })

local_quiet : (m : Machine) (w a : World) (x : GlobalId) (k : LocalTaken m w a x) → HasNothingUndone m w x → IsQuiet m w x k.t (runs (instruction k.t)) (Local x)
local_quiet m w a x k undone =
    let none = undone k.t k.found in
    record {
      found = k.found;
      ready = is_ready_is k.t.now.phase k.ready;
      no_send = none.0;
      no_order = none.1;
      phase = ran_phase (λ p. is_still_phase p ≡ true) (instruction k.t) refl refl;
      send = λ x. refl;
      possible = λ b at.
          let still : runs_alone (act m k.t.declared.id (slice_index b.clocks k.t.declared.cpu) k.t.now.context (instruction k.t)) ≡ true =
          alone_at m k.t.declared.id k.t.clock (slice_index b.clocks k.t.declared.cpu) k.t.now.context (instruction k.t) ∙ k.alone in
          rw (found_later m w b x k.t k.found at, k.ready, still) refl;
    }

ipc_orders_later : (m : Machine) (id : GlobalId) (now later : ℕ) (c : Context) (to : Id) (period : Period) (receive : Option Receive) →
    order_of (ipc_act m id later c to period receive) ≡ order_of (ipc_act m id now c to period receive)
ipc_orders_later m id now later c NilThread period None = refl
ipc_orders_later m id now later c NilThread period (Some receive) = refl
ipc_orders_later m id now later c AnyThread period receive = refl
ipc_orders_later m id now later c AnyLocalThread period receive = refl
ipc_orders_later m id now later c (LocalThread word) period receive = refl
ipc_orders_later m id now later c (GlobalThread t) period receive = refl

orders_later : (m : Machine) (id : GlobalId) (now later : ℕ) (c : Context) (i : Instr) → order_of (act m id later c i) ≡ order_of (act m id now c i)
orders_later m id now later c (Run own) = refl
orders_later m id now later c (Ipc to from send_period receive_period) = ipc_orders_later m id now later c (id_from c to) send_period (receive_phase (id_from c from) receive_period)
orders_later m id now later c (Ask target what) = refl
orders_later m id now later c End = refl

order_quiet : (m : Machine) (w a : World) (x target : GlobalId) (what : OrderKind) (k : OrderTaken m w a x target what) → HasNothingUndone m w x → IsQuiet m w x k.t (orders k.order) (Order x target what)
order_quiet m w a x target what k undone =
    let none = undone k.t k.found in
    record {
      found = k.found;
      ready = is_ready_is k.t.now.phase k.ready;
      no_send = none.0;
      no_order = none.1;
      phase = refl;
      send = λ x. refl;
      possible = λ b at.
          let still : order_of (act m k.t.declared.id (slice_index b.clocks k.t.declared.cpu) k.t.now.context (instruction k.t)) ≡ Some k.order =
          orders_later m k.t.declared.id k.t.clock (slice_index b.clocks k.t.declared.cpu) k.t.now.context (instruction k.t) ∙ k.ordered in
          rw (found_later m w b x k.t k.found at, k.ready, still, k.same_order) refl;
    }

pub quiet_swaps : (m : Machine) (w a b : World) (id : GlobalId) (own s : Step) → HasNothingUndone m w id → is_quiet_of id own ≡ true → next_late m w own ≡ Some a → next_late m w s ≡ Some b →
    is_next_of id s ≡ false → deletes_now m w id s ≡ false → AreExchanged m a b own s
quiet_swaps m w a b id own s undone is may goes other spares = by own is may
  where
    ran : (x : GlobalId) → x ≡ id → next_late m w (Local x) ≡ Some a → AreExchanged m a b (Local x) s
    ran x one may =
        let k = local_taken m w a x may in
        subst (λ a. AreExchanged m a b (Local x) s) k.leads_to
        (exchanged m w x k.t (runs (instruction k.t)) (Local x) (local_quiet m w a x k (subst (HasNothingUndone m w) (sym one) undone)) b s goes
        (ap (λ x. is_next_of x s) one ∙ other) (ap (λ x. deletes_now m w x s) one ∙ spares))

    ordered : (x target : GlobalId) (what : OrderKind) → x ≡ id → next_late m w (Order x target what) ≡ Some a → AreExchanged m a b (Order x target what) s
    ordered x target what one may =
        let k = order_taken m w a x target what may in
        subst (λ a. AreExchanged m a b (Order x target what) s) k.leads_to
        (exchanged m w x k.t (orders k.order) (Order x target what) (order_quiet m w a x target what k (subst (HasNothingUndone m w) (sym one) undone)) b s goes
        (ap (λ x. is_next_of x s) one ∙ other) (ap (λ x. deletes_now m w x s) one ∙ spares))

    by : (own : Step) → is_quiet_of id own ≡ true → next_late m w own ≡ Some a → AreExchanged m a b own s
    by (Local x) is may = ran x (same_id_is x id is) may
    by (Order x target what) is may = ordered x target what (same_id_is x id is) may
    by _ is may = cc

-- Of the next steps of a thread one alone is possible.

what_is : (a b c : OrderKind) → (order_kind_code a == order_kind_code c) ≡ true → (order_kind_code b == order_kind_code c) ≡ true → a ≡ b
what_is a b CancelSend h k = one a h ∙ sym (one b k)
  where
    one : (x : OrderKind) → (order_kind_code x == 0) ≡ true → x ≡ CancelSend
    one CancelSend h = refl
    one CancelReceive h = cc
    one CancelBoth h = cc
    one Delete h = cc
what_is a b CancelReceive h k = one a h ∙ sym (one b k)
  where
    one : (x : OrderKind) → (order_kind_code x == 1) ≡ true → x ≡ CancelReceive
    one CancelSend h = cc
    one CancelReceive h = refl
    one CancelBoth h = cc
    one Delete h = cc
what_is a b CancelBoth h k = one a h ∙ sym (one b k)
  where
    one : (x : OrderKind) → (order_kind_code x == 2) ≡ true → x ≡ CancelBoth
    one CancelSend h = cc
    one CancelReceive h = cc
    one CancelBoth h = refl
    one Delete h = cc
what_is a b Delete h k = one a h ∙ sym (one b k)
  where
    one : (x : OrderKind) → (order_kind_code x == 3) ≡ true → x ≡ Delete
    one CancelSend h = cc
    one CancelReceive h = cc
    one CancelBoth h = cc
    one Delete h = refl

module _ (m : Machine) (w b : World) where
  next_of_local : (x : GlobalId) (a : World) → LocalTaken m w a x → (s : Step) → is_next_of x s ≡ true → next_late m w s ≡ Some b → s ≡ Local x
  next_of_local x a k (Local y) is goes = ap Local (same_id_is y x is)
  next_of_local x a k (Begin s) is goes =
      let l = begin_taken m w b s goes in
      let one = found_at_id m w s.thread x l.t k.t (same_id_is s.thread x is) l.found k.found in
      absurd (alone_sends (act_of m k.t) l.send k.alone (ap (λ y. send_of (act_of m y)) (sym one) ∙ l.sends))
  next_of_local x a k (Wait y) is goes =
      let l = wait_taken m w b y goes in
      let one = found_at_id m w y x l.t k.t (same_id_is y x is) l.found k.found in
      absurd (alone_receives (act_of m k.t) l.receive k.alone (ap (λ y. receive_of (act_of m y)) (sym one) ∙ l.receiving))
  next_of_local x a k (Order caller target what) is goes =
      let l = order_taken m w b caller target what goes in
      let one = found_at_id m w caller x l.t k.t (same_id_is caller x is) l.found k.found in
      absurd (alone_orders (act_of m k.t) l.order k.alone (ap (λ y. order_of (act_of m y)) (sym one) ∙ l.ordered))
  next_of_local x a k _ is goes = cc

  next_of_order : (x target : GlobalId) (what : OrderKind) (a : World) → OrderTaken m w a x target what → (s : Step) → is_next_of x s ≡ true → next_late m w s ≡ Some b → s ≡ Order x target what
  next_of_order x target what a k (Local y) is goes =
      let l = local_taken m w b y goes in
      let one = found_at_id m w y x l.t k.t (same_id_is y x is) l.found k.found in
      absurd (alone_orders (act_of m k.t) k.order (ap (λ y. runs_alone (act_of m y)) (sym one) ∙ l.alone) k.ordered)
  next_of_order x target what a k (Begin s) is goes =
      let l = begin_taken m w b s goes in
      let one = found_at_id m w s.thread x l.t k.t (same_id_is s.thread x is) l.found k.found in
      absurd (order_sends (act_of m k.t) l.send k.order (ap (λ y. send_of (act_of m y)) (sym one) ∙ l.sends) k.ordered)
  next_of_order x target what a k (Wait y) is goes =
      let l = wait_taken m w b y goes in
      let one = found_at_id m w y x l.t k.t (same_id_is y x is) l.found k.found in
      absurd (order_receives (act_of m k.t) l.receive k.order (ap (λ y. receive_of (act_of m y)) (sym one) ∙ l.receiving) k.ordered)
  next_of_order x target what a k (Order caller aim kind) is goes =
      let l = order_taken m w b caller aim kind goes in
      let caller_is = same_id_is caller x is in
      let one = found_at_id m w caller x l.t k.t caller_is l.found k.found in
      let same : l.order ≡ k.order = some_is l.order k.order (sym l.ordered ∙ ap (λ y. order_of (act_of m y)) one ∙ k.ordered) in
      let here = and_true (same_id aim l.order.target) (order_kind_code kind == order_kind_code l.order.what) l.same_order in
      let there = and_true (same_id target k.order.target) (order_kind_code what == order_kind_code k.order.what) k.same_order in
      let aim_is : aim ≡ target = same_id_is aim l.order.target here.0 ∙ ap (λ (o : PendingOrder). o.target) same ∙ sym (same_id_is target k.order.target there.0) in
      let kind_is : kind ≡ what = what_is kind what k.order.what (ap (λ (o : PendingOrder). order_kind_code kind == order_kind_code o.what) (sym same) ∙ here.1) there.1 in
      ap (λ c. Order c aim kind) caller_is ∙ ap (λ t. Order x t kind) aim_is ∙ ap (Order x target) kind_is
  next_of_order x target what a k _ is goes = cc

pub same_quiet : (m : Machine) (w a b : World) (id : GlobalId) (own s : Step) → is_quiet_of id own ≡ true → next_late m w own ≡ Some a → is_next_of id s ≡ true → next_late m w s ≡ Some b → s ≡ own
same_quiet m w a b id (Local x) s is may its goes = next_of_local m w b x a (local_taken m w a x may) s (ap (λ x. is_next_of x s) (same_id_is x id is) ∙ its) goes
same_quiet m w a b id (Order x target what) s is may its goes = next_of_order m w b x target what a (order_taken m w a x target what may) s (ap (λ x. is_next_of x s) (same_id_is x id is) ∙ its) goes
same_quiet m w a b id _ s is may its goes = cc

-- A thread with a quiet step is ready.

pub quiet_ready : (m : Machine) (w a : World) (id : GlobalId) (own : Step) → is_quiet_of id own ≡ true → next_late m w own ≡ Some a → (t : Found) × ((found m w id ≡ Some t) × (is_ready t.now.phase ≡ true))
quiet_ready m w a id (Local x) is may = let k = local_taken m w a x may in (k.t, (ap (found m w) (sym (same_id_is x id is)) ∙ k.found, k.ready))
quiet_ready m w a id (Order x target what) is may = let k = order_taken m w a x target what may in (k.t, (ap (found m w) (sym (same_id_is x id is)) ∙ k.found, k.ready))
quiet_ready m w a id _ is may = cc

pub ready_undone : (m : Machine) (w : World) (id : GlobalId) (t : Found) → found m w id ≡ Some t → is_ready t.now.phase ≡ true → AreSound m w → HasNothingUndone m w id
ready_undone m w id t is ready sound u there =
    let k = known m w id u there in
    let one : t ≡ u = some_is t u (sym is ∙ there) in
    ready_has_none u.now.phase u.now.send u.now.order (ap (λ (x : Found). is_ready x.now.phase) (sym one) ∙ ready) (sound u.at u.declared u.now k.declared k.now).suits

pub spares : (m : Machine) (w : World) (id : GlobalId) (t : Found) (s : Step) → found m w id ≡ Some t → t.now.order ≡ None → IsSpared m w.threads id (order_deletes id) → deletes_now m w id s ≡ false
spares m w id t (Obey caller) is none spared = spared_by m w id (order_deletes id) t caller refl is none spared
spares m w id t _ is none spared = refl
