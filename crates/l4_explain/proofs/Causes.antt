-- What is told of a refused step is so.
use Rattle.std.proofs.Common.{◌≡◌, ℕ, Bool, true, false, cond, Option, Some, None, List, refl, sym, ap, ◌∙◌}
use Rattle.std.specs.Prelude.{◌==◌, is_some}
use Rattle.std.proofs.lemmas.Bool.{and_parts}
use Rattle.l4_model.specs.Words.{GlobalId, Id, NilThread, AnyThread, AnyLocalThread, LocalThread, GlobalThread, Period, same_id}
use Rattle.l4_model.specs.Machine.{Machine, OrderKind, CancelSend, CancelReceive, CancelBoth, Delete, Instr, Run, Ipc, Ask, End, is_declared, same_space}
use Rattle.l4_model.specs.World.{Context, PendingOrder, Receive, World, is_ready}
use Rattle.l4_model.specs.Rules.{Orders, RunsAlone, act, ask_act, id_from, ipc_act, is_admitted, receive_phase}
use Rattle.l4_model.specs.Conditions.{Found, act_of, found, instruction}
use Rattle.l4_model.specs.Steps.{Step, Order, next, order_kind_code, order_of}
use Rattle.l4_model.proofs.Chains.{some_is}
use Rattle.l4_model.proofs.Inversions.{OrderTaken, order_taken}
use Rattle.l4_model.proofs.Places.{id_of, same_id_is}
use Rattle.l4_audit.specs.Reasons.{Condition, first_false, reason, with_value}
use Rattle.l4_audit.specs.declared.reasons.Reason.{Reason}
use Rattle.l4_audit.specs.declared.reasons.Reason.TheVariants.{NoOrder, Undeclared}
use Rattle.l4_explain.specs.Reasons.{Holds, IsForOtherSpace, IsForUndeclared, cause, cause_by_step, cause_of_order}

-- Each order that an instruction gives is admitted.

ask_admitted : (m : Machine) (caller : GlobalId) (target : Id) (what : OrderKind) (order : PendingOrder) → order_of (ask_act m caller target what) ≡ Some order →
    is_admitted m caller order.target order.what ≡ true
ask_admitted m caller NilThread what order h = cc
ask_admitted m caller AnyThread what order h = cc
ask_admitted m caller AnyLocalThread what order h = cc
ask_admitted m caller (LocalThread word) what order h = cc
ask_admitted m caller (GlobalThread t) what order h = by (is_admitted m caller t what) refl h
  where
    by : (b : Bool) → is_admitted m caller t what ≡ b → order_of (cond b (Orders (record { target = t; what = what })) RunsAlone) ≡ Some order →
        is_admitted m caller order.target order.what ≡ true
    by true is h = ap (λ (o : PendingOrder). is_admitted m caller o.target o.what) (sym (some_is _ order h)) ∙ is
    by false is h = cc

ipc_orders_nothing : (m : Machine) (id : GlobalId) (now : ℕ) (c : Context) (to : Id) (period : Period) (receive : Option Receive) →
    order_of (ipc_act m id now c to period receive) ≡ None
ipc_orders_nothing m id now c NilThread period None = refl
ipc_orders_nothing m id now c NilThread period (Some receive) = refl
ipc_orders_nothing m id now c AnyThread period receive = refl
ipc_orders_nothing m id now c AnyLocalThread period receive = refl
ipc_orders_nothing m id now c (LocalThread word) period receive = refl
ipc_orders_nothing m id now c (GlobalThread t) period receive = refl

no_order : {A : Type 0} (o : Option A) (x : A) → o ≡ None → o ≡ Some x → ⊥
no_order o x e f = cc

act_admitted : (m : Machine) (id : GlobalId) (now : ℕ) (c : Context) (i : Instr) (order : PendingOrder) → order_of (act m id now c i) ≡ Some order →
    is_admitted m id order.target order.what ≡ true
act_admitted m id now c (Ask target what) order h = ask_admitted m id (id_from c target) what order h
act_admitted m id now c (Ipc to from send_period receive_period) order h =
    absurd (no_order (order_of (act m id now c (Ipc to from send_period receive_period))) order
    (ipc_orders_nothing m id now c (id_from c to) send_period (receive_phase (id_from c from) receive_period)) h)
act_admitted m id now c (Run own) order h = cc
act_admitted m id now c End order h = cc

what_is : (a b : OrderKind) → (order_kind_code a == order_kind_code b) ≡ true → a ≡ b
what_is CancelSend CancelSend h = refl
what_is CancelSend CancelReceive h = cc
what_is CancelSend CancelBoth h = cc
what_is CancelSend Delete h = cc
what_is CancelReceive CancelSend h = cc
what_is CancelReceive CancelReceive h = refl
what_is CancelReceive CancelBoth h = cc
what_is CancelReceive Delete h = cc
what_is CancelBoth CancelSend h = cc
what_is CancelBoth CancelReceive h = cc
what_is CancelBoth CancelBoth h = refl
what_is CancelBoth Delete h = cc
what_is Delete CancelSend h = cc
what_is Delete CancelReceive h = cc
what_is Delete CancelBoth h = cc
what_is Delete Delete h = refl

-- A step that is an order is possible only where the machine admits this order.
taken_admitted : (m : Machine) (w v : World) (caller target : GlobalId) (what : OrderKind) → OrderTaken m w v caller target what →
    is_admitted m caller target what ≡ true
taken_admitted m w v caller target what k =
    let both = and_parts (same_id target k.order.target) (order_kind_code what == order_kind_code k.order.what) k.same_order in
    let given : is_admitted m k.t.declared.id k.order.target k.order.what ≡ true =
    act_admitted m k.t.declared.id k.t.clock k.t.now.context (instruction k.t) k.order k.ordered in
    ap (λ id. is_admitted m id target what) (sym (id_of m w caller k.t k.found).0)
    ∙ ap (λ t. is_admitted m k.t.declared.id t what) (same_id_is target k.order.target both.0)
    ∙ ap (is_admitted m k.t.declared.id k.order.target) (what_is what k.order.what both.1) ∙ given

never_taken : (m : Machine) (caller target : GlobalId) (what : OrderKind) → is_admitted m caller target what ≡ false → (w : World) →
    next m w (Order caller target what) ≡ None
never_taken m caller target what refused w = by (next m w (Order caller target what)) refl
  where
    by : (o : Option World) → next m w (Order caller target what) ≡ o → o ≡ None
    by None is = refl
    by (Some v) is = absurd (let yes = taken_admitted m w v caller target what (order_taken m w v caller target what is) in cc)

-- Who gives no order is declared.

found_first : {A : Type 0} (o : Option A) (rest : A → List Condition) → first_false (with_value Undeclared o rest) ≡ Some NoOrder → is_some o ≡ true
found_first None rest h = cc
found_first (Some x) rest h = refl

caller_declared : (m : Machine) (w : World) (caller target : GlobalId) (what : OrderKind) → reason m w (Order caller target what) ≡ Some NoOrder →
    is_declared m caller ≡ true
caller_declared m w caller target what h = by (found m w caller) refl (found_first (found m w caller) _ h)
  where
    by : (o : Option Found) → found m w caller ≡ o → is_some o ≡ true → is_declared m caller ≡ true
    by None is some = cc
    by (Some t) is some = ap is_some (id_of m w caller t is).1

-- A cancellation that is not admitted is not within one space.
other_space : (m : Machine) (caller target : GlobalId) (what : OrderKind) → is_admitted m caller target what ≡ false → is_declared m target ≡ true →
    same_space m caller target ≡ false
other_space m caller target CancelSend refused declared = refused
other_space m caller target CancelReceive refused declared = refused
other_space m caller target CancelBoth refused declared = refused
other_space m caller target Delete refused declared = cc

order_holds : (m : Machine) (w : World) (caller target : GlobalId) (what : OrderKind) → reason m w (Order caller target what) ≡ Some NoOrder →
    Holds m w (Order caller target what) (cause_of_order m caller target what)
order_holds m w caller target what h = by (is_admitted m caller target what) (is_declared m target) refl refl
  where
    by : (admitted declared : Bool) → is_admitted m caller target what ≡ admitted → is_declared m target ≡ declared →
        Holds m w (Order caller target what) (cause_of_order m caller target what)
    by true declared admitted is = rw admitted h
    by false true refused is = rw (refused, is) (record {
      caller = caller;
      target = target;
      what = what;
      order = refl;
      declared = (caller_declared m w caller target what h, is);
      other = other_space m caller target what refused is;
      never = never_taken m caller target what refused;
    })
    by false false refused is = rw (refused, is) (record {
      caller = caller;
      what = what;
      order = refl;
      undeclared = is;
      never = never_taken m caller target what refused;
    })

by_step : (m : Machine) (w : World) (step : Step) → reason m w step ≡ Some NoOrder → Holds m w step (cause_by_step m step)
by_step m w (Order caller target what) h = order_holds m w caller target what h
by_step m w step h = h

pub causes_hold : (m : Machine) (w : World) (step : Step) (r : Reason) → reason m w step ≡ Some r → Holds m w step (cause m step r)
causes_hold m w step NoOrder h = by_step m w step h
causes_hold m w step r h = h
