-- The threads of one processor stay away from those of another, while the latter begin no send.
use Rattle.std.proofs.Common.{subst, ◌≡◌, ℕ, ◌+◌, ◌<◌, Bool, true, false, cond, Option, Some, None, [], ◌∷◌, length, refl, ap, sym, ◌∙◌}
use Rattle.std.specs.Prelude.{◌==◌, ◌||◌, is_some, IfSome}
use Rattle.std.specs.Option.{option_map}
use Rattle.l4_model.specs.Words.{GlobalId, Id, NilThread, AnyThread, AnyLocalThread, LocalThread, GlobalThread, Period, tag_of_word, is_same}
use Rattle.l4_model.specs.Machine.{Machine, IdFrom, Fixed, Last, InRegister, Assign, AssignTag, AssignVs, GoTo, GoToOnErr, GoToOnLabel, GoToOnWord, GoToOnFrom, Instr, Run, Ipc, Ask, End, OrderKind, CancelSend, CancelReceive, CancelBoth, Delete, place_of}
use Rattle.l4_model.specs.World.{Context, Thread, Send, Receive, PendingOrder, Owed, Phase, Ready, Sending, Receiving, Ordering, Ended, Deleted, is_in, is_alive, is_ready}
use Rattle.l4_model.specs.Rules.{ran, register, Orders, RunsAlone, act, ipc_act, ask_act, is_admitted, id_from, receive_phase}
use Rattle.l4_model.specs.Effects.{runs, begins, waits, fails, goes_on, asked, orders, obeyed, turned_send, turns_in, turns}
use Rattle.l4_model.specs.Steps.{send_of, receive_of, order_of}
use Rattle.l4_model.proofs.Chains.{some_is, cond_keeps}
use Rattle.l4_core_model.specs.Local.{declared, destination_place}
use Rattle.l4_core_model.specs.Runs.{IsMachine}
use Rattle.l4_core_model.proofs.Changed.{same_nat}
use Rattle.l4_refines.proofs.Lists.{other_is}
use Rattle.l4_refines.proofs.Relation.Views.{home}
use Rattle.l4_persistent.specs.Inner.Posts.{is_at, names, Aim, At, AtLast, may_name, has_aim, places_behind, Aims, AreAims, instruction_of, sends_to, orders_to, goes_on_at, may_propagate}
use Rattle.l4_persistent.proofs.ByPlace.{Keeps, at_hand}
use Rattle.l4_persistent.proofs.Tame.{IsPlain, IsTame, tame_kept}

pub not_so : (b c : Bool) → (b ≡ true → c ≡ true) → c ≡ false → b ≡ false
not_so false c h lacks = refl
not_so true c h lacks = let yes = h refl in cc

-- Nothing that the thread has or may yet do goes to a thread of the processor.
pub record IsClearAt (m : Machine) (aims : Aims) (cpu i : ℕ) (alive : Bool) (k : ℕ) (f : Id)
    (s : Option Send) (o : Option PendingOrder) : Type 0 where
  pub to : alive ≡ true → aims i k (At cpu) ≡ false
  pub last : alive ≡ true → aims i k AtLast ≡ true → names m cpu f ≡ false
  pub send : sends_to m cpu s ≡ false
  pub order : orders_to m cpu o ≡ false

abbrev pub IsClear : Machine → Aims → (cpu i : ℕ) → Thread → Type 0
IsClear m aims cpu i t = IsClearAt m aims cpu i (is_alive t.phase) (goes_on_at t) t.context.from t.send t.order

-- The threads of `from` are clear of `to`, and no thread of `to` sends to one of them.
pub record IsAway (m : Machine) (aims : Aims) (from to i : ℕ) (t : Thread) : Type 0 where
  pub tame : IsTame m from i t
  pub clear : home m i ≡ from → IsClear m aims to i t
  pub away : home m i ≡ to → sends_to m from t.send ≡ false

pub true_false : {G : Type 0} (b : Bool) → b ≡ true → b ≡ false → G
true_false b is lacks = cc

ready_alive : (p : Phase) → is_ready p ≡ true → is_alive p ≡ true
ready_alive Ready h = refl
ready_alive Sending h = cc
ready_alive (Receiving receive since) h = cc
ready_alive Ordering h = cc
ready_alive Ended h = cc
ready_alive Deleted h = cc

-- Where a script goes on

either_place : (b : Bool) (place target : ℕ) → is_in (cond b place target) (place ∷ target ∷ []) ≡ true
either_place true place target = rw (same_nat place) refl
either_place false place target = by (target == place)
  where
    by : (b : Bool) → (b || ((target == target) || false)) ≡ true
    by true = refl
    by false = rw (same_nat target) refl

other_place : (b : Bool) (place target : ℕ) → is_in (cond b target place) (place ∷ target ∷ []) ≡ true
other_place true place target = either_place false place target
other_place false place target = either_place true place target

goes_behind : (i : Instr) (c : Context) → is_in (ran i c).place (places_behind i c.place) ≡ true
goes_behind (Run (Assign a value)) c = rw (same_nat (c.place + 1)) refl
goes_behind (Run (AssignTag word)) c = rw (same_nat (c.place + 1)) refl
goes_behind (Run (AssignVs from)) c = rw (same_nat (c.place + 1)) refl
goes_behind (Run (GoTo target)) c = rw (same_nat target) refl
goes_behind (Run (GoToOnErr target)) c = either_place (c.error == 0) (c.place + 1) target
goes_behind (Run (GoToOnLabel label target)) c =
    other_place ((tag_of_word (register c 0)).label == label) (c.place + 1) target
goes_behind (Run (GoToOnWord a word target)) c = other_place (register c a == word) (c.place + 1) target
goes_behind (Run (GoToOnFrom id target)) c = other_place (is_same c.from id) (c.place + 1) target
goes_behind (Ipc to from send_period receive_period) c = rw (same_nat (c.place + 1)) refl
goes_behind (Ask target what) c = rw (same_nat (c.place + 1)) refl
goes_behind End c = rw (same_nat c.place) refl

from_ran : (P : Id → Type 0) (i : Instr) (c : Context) → P c.from → P NilThread → P (ran i c).from
from_ran P (Run own) c h none = h
from_ran P (Ipc to from send_period receive_period) c h none = none
from_ran P (Ask target what) c h none = h
from_ran P End c h none = h

-- What an instruction that begins a send, or a receive phase, or gives an order is

pub record IsCall (instr : Instr) (c : Context) (goal : Id) : Type 0 where
  pub to : IdFrom
  pub from : IdFrom
  pub send_period : Period
  pub receive_period : Period
  pub is : instr ≡ Ipc to from send_period receive_period
  pub goal_is : goal ≡ id_from c to

ipc_goal : (m : Machine) (id : GlobalId) (now : ℕ) (c : Context) (to : Id) (period : Period) (receive : Option Receive)
    (send : Send) →
    send_of (ipc_act m id now c to period receive) ≡ Some send → send.to ≡ to
ipc_goal m id now c NilThread period None send h = cc
ipc_goal m id now c NilThread period (Some receive) send h = cc
ipc_goal m id now c AnyThread period receive send h = let is = some_is _ send h in ap (λ (s : Send). s.to) (sym is)
ipc_goal m id now c AnyLocalThread period receive send h = let is = some_is _ send h in ap (λ (s : Send). s.to) (sym is)
ipc_goal m id now c (LocalThread word) period receive send h =
    let is = some_is _ send h in ap (λ (s : Send). s.to) (sym is)
ipc_goal m id now c (GlobalThread t) period receive send h =
    let is = some_is _ send h in ap (λ (s : Send). s.to) (sym is)

-- An order is no send and no receive phase.
ask_alone : {G : Type 0} (m : Machine) (id : GlobalId) (target : Id) (what : OrderKind) →
    ((o : Option Send) → send_of (ask_act m id target what) ≡ o → o ≡ None → G) → G
ask_alone m id NilThread what then = then None refl refl
ask_alone m id AnyThread what then = then None refl refl
ask_alone m id AnyLocalThread what then = then None refl refl
ask_alone m id (LocalThread word) what then = then None refl refl
ask_alone {G = G} m id (GlobalThread t) what then = by (is_admitted m id t what) refl
  where
    by : (b : Bool) → is_admitted m id t what ≡ b → G
    by true is = then (send_of (ask_act m id (GlobalThread t) what)) refl (rw is refl)
    by false is = then (send_of (ask_act m id (GlobalThread t) what)) refl (rw is refl)

none_some : {A G : Type 0} (o : Option A) (x : A) → o ≡ None → o ≡ Some x → G
none_some o x none some = cc

call_of : (m : Machine) (id : GlobalId) (now : ℕ) (c : Context) (i : Instr) (send : Send) →
    send_of (act m id now c i) ≡ Some send → IsCall i c send.to
call_of m id now c (Run own) send h = cc
call_of m id now c (Ipc to from send_period receive_period) send h = record {
  to = to;
  from = from;
  send_period = send_period;
  receive_period = receive_period;
  is = refl;
  goal_is = ipc_goal m id now c (id_from c to) send_period (receive_phase (id_from c from) receive_period) send h;
}
call_of m id now c (Ask target what) send h = ask_alone m id (id_from c target) what
    (λ o is none. none_some o send none (sym is ∙ h))
call_of m id now c End send h = cc

ask_receives : (m : Machine) (id : GlobalId) (target : Id) (what : OrderKind) →
    receive_of (ask_act m id target what) ≡ None
ask_receives m id NilThread what = refl
ask_receives m id AnyThread what = refl
ask_receives m id AnyLocalThread what = refl
ask_receives m id (LocalThread word) what = refl
ask_receives m id (GlobalThread t) what = by (is_admitted m id t what) refl
  where
    by : (b : Bool) → is_admitted m id t what ≡ b → receive_of (ask_act m id (GlobalThread t) what) ≡ None
    by true is = rw is refl
    by false is = rw is refl

waits_behind : (m : Machine) (id : GlobalId) (now : ℕ) (c : Context) (i : Instr) (receive : Receive) (k : ℕ) →
    receive_of (act m id now c i) ≡ Some receive →
    is_in (k + 1) (places_behind i k) ≡ true
waits_behind m id now c (Run own) receive k h = cc
waits_behind m id now c (Ipc to from send_period receive_period) receive k h = rw (same_nat (k + 1)) refl
waits_behind m id now c (Ask target what) receive k h = none_some _ receive (ask_receives m id (id_from c target) what) h
waits_behind m id now c End receive k h = cc

ipc_orders : (m : Machine) (id : GlobalId) (now : ℕ) (c : Context) (to : Id) (period : Period)
    (receive : Option Receive) →
    order_of (ipc_act m id now c to period receive) ≡ None
ipc_orders m id now c NilThread period None = refl
ipc_orders m id now c NilThread period (Some receive) = refl
ipc_orders m id now c AnyThread period receive = refl
ipc_orders m id now c AnyLocalThread period receive = refl
ipc_orders m id now c (LocalThread word) period receive = refl
ipc_orders m id now c (GlobalThread t) period receive = refl

-- An instruction that gives an order names its target.
record IsAsking (instr : Instr) (c : Context) (order : PendingOrder) : Type 0 where
  target : IdFrom
  what : OrderKind
  is : instr ≡ Ask target what
  target_is : id_from c target ≡ GlobalThread order.target

ask_target : (m : Machine) (id : GlobalId) (target : Id) (what : OrderKind) (order : PendingOrder) →
    order_of (ask_act m id target what) ≡ Some order → target ≡ GlobalThread order.target
ask_target m id NilThread what order h = cc
ask_target m id AnyThread what order h = cc
ask_target m id AnyLocalThread what order h = cc
ask_target m id (LocalThread word) what order h = cc
ask_target m id (GlobalThread t) what order h = by (is_admitted m id t what) h
  where
    by : (b : Bool) → order_of (cond b (Orders (record { target = t; what = what })) RunsAlone) ≡ Some order →
        GlobalThread t ≡ GlobalThread order.target
    by true h = ap (λ (o : PendingOrder). GlobalThread o.target) (some_is _ order h)
    by false h = cc

asking : (m : Machine) (id : GlobalId) (now : ℕ) (c : Context) (i : Instr) (order : PendingOrder) →
    order_of (act m id now c i) ≡ Some order → IsAsking i c order
asking m id now c (Run own) order h = cc
asking m id now c (Ipc to from send_period receive_period) order h =
    none_some _ order (ipc_orders m id now c (id_from c to) send_period (receive_phase (id_from c from) receive_period)) h
asking m id now c (Ask target what) order h = record {
  target = target;
  what = what;
  is = refl;
  target_is = ask_target m id (id_from c target) what order h;
}
asking m id now c End order h = cc

-- Every change of a thread

module _ (m : Machine) (aims : Aims) (from to : ℕ) (right : AreAims m aims) where
  -- The script goes on at another place behind.
  goes_clear : (i : ℕ) (b : Bool) (k next : ℕ) (f g : Id) (send : Option Send) (order : Option PendingOrder) →
      is_in next (places_behind (instruction_of m i k) k) ≡ true →
      (names m to f ≡ false → names m to g ≡ false) → sends_to m to send ≡ false → orders_to m to order ≡ false →
      aims i k (At to) ≡ false → (aims i k AtLast ≡ true → names m to f ≡ false) →
      IsClearAt m aims to i b next g send order
  goes_clear i b k next f g send order behind same sends orders_ none last = record {
    to = λ alive. not_so (aims i next (At to)) (aims i k (At to)) (right.behind i k next (At to) behind) none;
    last = λ alive yes. same (last (right.behind i k next AtLast behind yes));
    send = sends;
    order = orders_;
  }

  stays : (t : Thread) → t.order ≡ None → goes_on_at t ≡ t.context.place
  stays t none = ap (λ o. cond (is_some {T = PendingOrder} o) (t.context.place + 1) t.context.place) none

  -- So it was clear at the place of its instruction.
  at_place : (i : ℕ) (t : Thread) → is_ready t.phase ≡ true → t.order ≡ None → IsClear m aims to i t →
      IsClearAt m aims to i true t.context.place t.context.from t.send t.order
  at_place i t ready none h =
      subst (λ b. IsClearAt m aims to i b t.context.place t.context.from t.send t.order) (ready_alive t.phase ready)
      (subst (λ k. IsClearAt m aims to i (is_alive t.phase) k t.context.from t.send t.order) (stays t none) h)

  on_at : (i : ℕ) (t : Thread) → t.order ≡ None →
      IsClearAt m aims to i (is_alive t.phase) t.context.place t.context.from t.send t.order → IsClear m aims to i t
  on_at i t none h =
      subst (λ k. IsClearAt m aims to i (is_alive t.phase) k t.context.from t.send t.order) (sym (stays t none)) h

  run_clear : (i : ℕ) (t : Thread) → is_ready t.phase ≡ true → t.order ≡ None → IsClear m aims to i t →
      IsClear m aims to i (runs (at_hand m i t) t)
  run_clear i t ready none h =
      let instr = at_hand m i t in
      let c = at_place i t ready none h in
      on_at i (runs instr t) none
      (goes_clear i _ t.context.place (ran instr t.context).place t.context.from
      (ran instr t.context).from t.send t.order
      (goes_behind instr t.context)
      (λ lacks. from_ran (λ id. names m to id ≡ false) instr t.context lacks refl) c.send c.order (c.to refl)
      (c.last refl))

  -- Whom its instruction names is no thread of the processor.
  named_clear : (i : ℕ) (t : Thread) (x : IdFrom) →
      ((aim : Aim) → has_aim m (at_hand m i t) aim ≡ may_name m x aim) →
      aims i t.context.place (At to) ≡ false →
      (aims i t.context.place AtLast ≡ true → names m to t.context.from ≡ false) →
      names m to (id_from t.context x) ≡ false
  named_clear i t (Fixed id) is lacks last =
      not_so (names m to id) (aims i t.context.place (At to))
      (λ yes. right.here i t.context.place (At to) (is (At to) ∙ yes)) lacks
  named_clear i t Last is lacks last = last (right.here i t.context.place AtLast (is AtLast))
  named_clear i t (InRegister format a) is lacks last =
      true_false _ (right.here i t.context.place (At to) (is (At to))) lacks

  begin_clear : (i now : ℕ) (t : Thread) (send : Send) → is_ready t.phase ≡ true → t.order ≡ None →
      send_of (act m (declared m i).id now t.context (at_hand m i t)) ≡ Some send →
      IsClear m aims to i t → IsClear m aims to i (begins send t)
  begin_clear i now t send ready none sends h =
      let instr = at_hand m i t in
      let c = at_place i t ready none h in
      let call = call_of m (declared m i).id now t.context instr send sends in
      let behind : is_in (t.context.place + 1) (places_behind instr t.context.place) ≡ true =
      ap (λ (x : Instr). is_in (t.context.place + 1) (places_behind x t.context.place)) call.is
      ∙ rw (same_nat (t.context.place + 1)) refl in
      on_at i (begins send t) none
      (goes_clear i _ t.context.place (t.context.place + 1) t.context.from t.context.from (Some send) t.order behind
      (λ lacks. lacks) (ap (names m to) call.goal_is
      ∙ named_clear i t call.to (λ aim. ap (λ (x : Instr). has_aim m x aim) call.is) (c.to refl) (c.last refl)) c.order
      (c.to refl) (c.last refl))

  wait_clear : (i now : ℕ) (t : Thread) (receive : Receive) → is_ready t.phase ≡ true → t.order ≡ None →
      receive_of (act m (declared m i).id now t.context (at_hand m i t)) ≡ Some receive →
      IsClear m aims to i t → IsClear m aims to i (waits receive now t)
  wait_clear i now t receive ready none receives_ h =
      let c = at_place i t ready none h in
      on_at i (waits receive now t) none
      (goes_clear i _ t.context.place (t.context.place + 1) t.context.from t.context.from t.send t.order
      (waits_behind m (declared m i).id now t.context (at_hand m i t) receive t.context.place receives_)
      (λ lacks. lacks) c.send c.order (c.to refl) (c.last refl))

  order_clear : (i now : ℕ) (t : Thread) (order : PendingOrder) → is_ready t.phase ≡ true → t.order ≡ None →
      order_of (act m (declared m i).id now t.context (at_hand m i t)) ≡ Some order →
      IsClear m aims to i t → IsClear m aims to i (orders order t)
  order_clear i now t order ready none ordered h =
      let c = at_place i t ready none h in
      let a = asking m (declared m i).id now t.context (at_hand m i t) order ordered in
      let behind : is_in (t.context.place + 1) (places_behind (at_hand m i t) t.context.place) ≡ true =
      ap (λ (x : Instr). is_in (t.context.place + 1) (places_behind x t.context.place)) a.is
      ∙ rw (same_nat (t.context.place + 1)) refl in
      goes_clear i _ t.context.place (t.context.place + 1) t.context.from t.context.from t.send (Some order) behind
      (λ lacks. lacks) c.send
      (ap (names m to) (sym a.target_is)
      ∙ named_clear i t a.target (λ aim. ap (λ (x : Instr). has_aim m x aim) a.is) (c.to refl) (c.last refl))
      (c.to refl) (c.last refl)

  -- Elsewhere it stays where it is, with its order; of its register `from` and its send no more is there than before.
  same_clear : (i : ℕ) (b c : Bool) (k : ℕ) (f g : Id) (send new : Option Send) (order : Option PendingOrder) →
      b ≡ true → names m to g ≡ false → sends_to m to new ≡ false →
      IsClearAt m aims to i b k f send order → IsClearAt m aims to i c k g new order
  same_clear i b c k f g send new order alive lacks none h = record {
    to = λ yes. h.to alive;
    last = λ yes is. lacks;
    send = none;
    order = h.order;
  }

  decided_clear : (i : ℕ) (b c : Bool) (k : ℕ) (f : Id) (send : Option Send) (order : Option PendingOrder) →
      (c ≡ true → b ≡ true) → IsClearAt m aims to i b k f send order → IsClearAt m aims to i c k f None order
  decided_clear i b c k f send order back h = record {
    to = λ yes. h.to (back yes);
    last = λ yes. h.last (back yes);
    send = refl;
    order = h.order;
  }

  turned_to : (cpu : ℕ) (o : Owed) (send : Option Send) → sends_to m cpu (option_map (turned_send o) send)
      ≡ sends_to m cpu send
  turned_to cpu o None = refl
  turned_to cpu o (Some send) = refl

  -- Nobody is shown of whom the receiver is to be clear.
  shown_clear : (i j : ℕ) (sender : Thread) (send : Send) → IsMachine m → j < length m.threads →
      sender.send ≡ Some send → destination_place m send.to ≡ Some i →
      home m i ≡ from → IsPlain m j send.message → (home m j ≡ to → sends_to m from sender.send ≡ false) →
      names m to (GlobalThread send.message.shown) ≡ false
  shown_clear i j sender send machine within has goal own plain away =
      ap (λ id. is_at m to (place_of m id)) plain.shown ∙ ap (is_at m to) (machine.placed j within)
      ∙ other_is (home m j) to (λ there.
      let sends : sends_to m from (Some send) ≡ true = rw goal (ap (λ h. h == from) own ∙ same_nat from) in
      let none : sends_to m from (Some send) ≡ false = ap (sends_to m from) (sym has) ∙ away there in
      cc)

  module _ (machine : IsMachine m) (safe : may_propagate m ≡ false) where
    tame : Keeps m (λ i. Unit {0}) (IsTame m from)
    tame = tame_kept m from safe

    abbrev P : ℕ → Thread → Type 0
    P = IsAway m aims from to

    failure_away : (i code : ℕ) (t : Thread) → is_alive t.phase ≡ true → P i t → P i (fails code t)
    failure_away i code t alive h = record {
      tame = tame.at_failure i code t alive h.tame;
      clear = λ own. cond_keeps (IsClear m aims to i) (is_alive t.phase) _ t
          (λ yes. same_clear i (is_alive t.phase) _
          (goes_on_at t) t.context.from NilThread t.send t.send t.order alive refl (h.clear own).send
          (h.clear own)) (λ lacks. h.clear own);
      away = λ there. cond_keeps (λ (x : Thread). sends_to m from x.send ≡ false) (is_alive t.phase) _ t
          (λ yes. h.away there) (λ lacks. h.away there);
    }

    delivery_away : (i now : ℕ) (t : Thread) (receive : Option Receive) → is_alive t.phase ≡ true → P i t →
        P i (goes_on receive now t)
    delivery_away i now t None alive h = record {
      tame = tame.at_delivery i now t None alive h.tame;
      clear = λ own. same_clear i (is_alive t.phase) _
          (goes_on_at t) t.context.from NilThread t.send None t.order alive refl refl (h.clear own);
      away = λ there. refl;
    }
    delivery_away i now t (Some receive) alive h = record {
      tame = tame.at_delivery i now t (Some receive) alive h.tame;
      clear = λ own. decided_clear i (is_alive t.phase) _ (goes_on_at t) t.context.from t.send t.order (λ yes. alive)
          (h.clear own);
      away = λ there. refl;
    }

    asked_away : (i j : ℕ) (t caller : Thread) (order : PendingOrder) → caller.order ≡ Some order →
        place_of m order.target ≡ Some i → P j caller → P i t →
        P i (asked order.what t)
    asked_away i j t caller order has at c h = record {
      tame = tame.at_asked i j t caller order has at c.tame h.tame;
      clear = λ own. clear order.what (h.clear own);
      away = λ there. away order.what (h.away there);
    }
      where
        clear : (what : OrderKind) → IsClear m aims to i t → IsClear m aims to i (asked what t)
        clear CancelSend h = h
        clear CancelReceive h = h
        clear CancelBoth h = h
        clear Delete h = record { to = λ yes. cc; last = λ yes. cc; send = h.send; order = h.order }

        away : (what : OrderKind) → sends_to m from t.send ≡ false → sends_to m from (asked what t).send ≡ false
        away CancelSend h = h
        away CancelReceive h = h
        away CancelBoth h = h
        away Delete h = h

    obeyed_away : (i : ℕ) (t : Thread) (order : PendingOrder) → t.order ≡ Some order → P i t → P i (obeyed t)
    obeyed_away i t order has h = record {
      tame = tame.at_obedience i t order has h.tame;
      clear = λ own. by (is_alive t.phase) refl (h.clear own);
      away = λ there. cond_keeps (λ (x : Thread). sends_to m from x.send ≡ false) (is_alive t.phase) _ _
          (λ yes. h.away there) (λ lacks. h.away there);
    }
      where
        on : goes_on_at t ≡ t.context.place + 1
        on = ap (λ o. cond (is_some {T = PendingOrder} o) (t.context.place + 1) t.context.place) has

        by : (b : Bool) → is_alive t.phase ≡ b → IsClear m aims to i t → IsClear m aims to i (obeyed t)
        by true is h =
            let c = subst (λ k. IsClearAt m aims to i (is_alive t.phase) k t.context.from t.send t.order) on h in
            rw is (record { to = λ yes. c.to is; last = λ yes. c.last is; send = c.send; order = refl })
        by false is h = rw is (record {
          to = λ yes. true_false (is_alive t.phase) yes is;
          last = λ yes. true_false (is_alive t.phase) yes is;
          send = h.send;
          order = refl;
        })

    turn_away : (i : ℕ) (t : Thread) (o : Owed) → P i t → P i (turns o t)
    turn_away i t o h = record {
      tame = tame.at_turn i t o h.tame;
      clear = λ own. clear t.phase refl (h.clear own);
      away = λ there. away t.phase (h.away there);
    }
      where
        clear : (p : Phase) → t.phase ≡ p → IsClear m aims to i t → IsClear m aims to i (turns_in p o t)
        clear Ready is h = h
        clear Sending is h = record { to = h.to; last = h.last; send = turned_to to o t.send ∙ h.send; order = h.order }
        clear (Receiving receive since) is h = record {
          to = λ yes. h.to (ap is_alive is);
          last = λ yes. h.last (ap is_alive is);
          send = h.send;
          order = h.order;
        }
        clear Ordering is h = h
        clear Ended is h = h
        clear Deleted is h = h

        away : (p : Phase) → sends_to m from t.send ≡ false → sends_to m from (turns_in p o t).send ≡ false
        away Ready h = h
        away Sending h = turned_to from o t.send ∙ h
        away (Receiving receive since) h = h
        away Ordering h = h
        away Ended h = h
        away Deleted h = h

    pub away_kept : Keeps m (λ i. home m i ≡ to → ⊥) P
    away_kept = record {
      at_run = λ i t ready none h. record {
        tame = tame.at_run i t ready none h.tame;
        clear = λ own. run_clear i t ready none (h.clear own);
        away = λ there. h.away there;
      };
      at_begin = λ i now t send other ready none sends h. record {
        tame = tame.at_begin i now t send tt ready none sends h.tame;
        clear = λ own. begin_clear i now t send ready none sends (h.clear own);
        away = λ there. absurd (other there);
      };
      at_wait = λ i now t receive ready none receives_ h. record {
        tame = tame.at_wait i now t receive ready none receives_ h.tame;
        clear = λ own. wait_clear i now t receive ready none receives_ (h.clear own);
        away = λ there. h.away there;
      };
      at_order = λ i now t order ready none ordered h. record {
        tame = tame.at_order i now t order ready none ordered h.tame;
        clear = λ own. order_clear i now t order ready none ordered (h.clear own);
        away = λ there. h.away there;
      };
      at_failure = λ i code t alive h. failure_away i code t alive h;
      at_decision = λ i t h. record {
        tame = tame.at_decision i t h.tame;
        clear = λ own. decided_clear i (is_alive t.phase) (is_alive t.phase)
            (goes_on_at t) t.context.from t.send t.order
            (λ yes. yes) (h.clear own);
        away = λ there. refl;
      };
      at_receipt = λ i j t sender send cross alive within has goal s h. record {
        tame = tame.at_receipt i j t sender send cross alive within has goal s.tame h.tame;
        clear = λ own. same_clear i (is_alive t.phase) _ (goes_on_at t) t.context.from
            (GlobalThread send.message.shown) t.send t.send t.order alive
            (shown_clear i j sender send machine within has goal own
            (shows j sender.send send has s.tame.message) s.away) (h.clear own).send (h.clear own);
        away = λ there. h.away there;
      };
      at_delivery = λ i now t receive alive h. delivery_away i now t receive alive h;
      at_asked = λ i j t caller order has at c h. asked_away i j t caller order has at c h;
      at_obedience = λ i t order has h. obeyed_away i t order has h;
      at_turn = λ i t o h. turn_away i t o h;
    }
      where
        shows : (j : ℕ) (o : Option Send) (send : Send) → o ≡ Some send → IfSome o (λ s. IsPlain m j s.message) →
            IsPlain m j send.message
        shows j o send has h = subst (λ (o : Option Send). IfSome o (λ s. IsPlain m j s.message)) has h
