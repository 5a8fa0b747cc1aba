-- The target of an order is declared.
use Rattle.std.proofs.Common.{◌≡◌, ℕ, Bool, true, false, cond, Option, Some, None, length, refl, ap, ◌∙◌}
use Rattle.std.specs.Prelude.{is_some, nat_lt}
use Rattle.std.specs.List.{position_or_len}
use Rattle.std.proofs.lemmas.Bool.{ltb-false}
use Rattle.std.proofs.lemmas.List.Folds.{find_at}
use Rattle.std.proofs.lemmas.Option.{slice_get_past}
use Rattle.l4_model.specs.Words.{GlobalId, Id, NilThread, AnyThread, AnyLocalThread, LocalThread, GlobalThread, same_id, Period}
use Rattle.l4_model.specs.Machine.{OrderKind, CancelSend, CancelReceive, CancelBoth, Delete, Instr, Run, Ipc, Ask, End, Declaration, Machine, place_of, declaration_of, is_declared, same_space, agree}
use Rattle.l4_model.specs.World.{Context, Receive, PendingOrder}
use Rattle.l4_model.specs.Rules.{RunsAlone, Orders, act, ipc_act, ask_act, is_admitted, receive_phase, id_from}
use Rattle.l4_model.specs.Steps.{order_of}

-- The target of an order is declared.
undeclared_none : (m : Machine) (id : GlobalId) → place_of m id ≡ None → declaration_of m id ≡ None
undeclared_none m id h = by (nat_lt first (length m.threads)) refl h
  where
    first : ℕ
    first = position_or_len (λ (d : Declaration). same_id d.id id) m.threads

    by : (b : Bool) → nat_lt first (length m.threads) ≡ b → cond b (Some first) None ≡ None → declaration_of m id ≡ None
    by true is h = cc
    by false is h = find_at (λ (d : Declaration). same_id d.id id) m.threads ∙ slice_get_past m.threads first (ltb-false first (length m.threads) is)

admitted_declared : (m : Machine) (caller target : GlobalId) (what : OrderKind) → is_admitted m caller target what ≡ true → place_of m target ≡ None → ⊥
admitted_declared m caller target what h none = by what h
  where
    absent : declaration_of m target ≡ None
    absent = undeclared_none m target none

    agree_none : (f : Declaration → ℕ) (o : Option Declaration) → agree f o None ≡ true → ⊥
    agree_none f None h = cc
    agree_none f (Some d) h = cc

    stranger : same_space m caller target ≡ true → ⊥
    stranger h = agree_none (λ d. d.space) (declaration_of m caller) (rw absent at h)

    by : (what : OrderKind) → is_admitted m caller target what ≡ true → ⊥
    by CancelSend h = stranger h
    by CancelReceive h = stranger h
    by CancelBoth h = stranger h
    by Delete h = let gone : is_declared m target ≡ false = ap (λ o. is_some o) none in cc

ask_declared : (m : Machine) (caller : GlobalId) (id : Id) (what : OrderKind) (order : PendingOrder) → ask_act m caller id what ≡ Orders order → place_of m order.target ≡ None → ⊥
ask_declared m caller (GlobalThread t) what order h none = by (is_admitted m caller t what) refl h
  where
    by : (b : Bool) → is_admitted m caller t what ≡ b → cond b (Orders (record { target = t; what = what })) RunsAlone ≡ Orders order → ⊥
    by true is h = let same : t ≡ order.target = ap (λ o. target_or t (order_of o)) h in admitted_declared m caller t what is (ap (place_of m) same ∙ none)
      where
        target_or : GlobalId → Option PendingOrder → GlobalId
        target_or t None = t
        target_or t (Some order) = order.target
    by false is h = cc
ask_declared m caller NilThread what order h none = cc
ask_declared m caller AnyThread what order h none = cc
ask_declared m caller AnyLocalThread what order h none = cc
ask_declared m caller (LocalThread word) what order h none = cc

pub ipc_orders_none : (m : Machine) (id : GlobalId) (now : ℕ) (c : Context) (to : Id) (period : Period) (receive : Option Receive) (order : PendingOrder) → ipc_act m id now c to period receive ≡ Orders order → ⊥
ipc_orders_none m id now c NilThread period None order h = cc
ipc_orders_none m id now c NilThread period (Some receive) order h = cc
ipc_orders_none m id now c AnyThread period receive order h = cc
ipc_orders_none m id now c AnyLocalThread period receive order h = cc
ipc_orders_none m id now c (LocalThread word) period receive order h = cc
ipc_orders_none m id now c (GlobalThread t) period receive order h = cc

pub target_declared : (m : Machine) (id : GlobalId) (now : ℕ) (c : Context) (i : Instr) (order : PendingOrder) → act m id now c i ≡ Orders order → place_of m order.target ≡ None → ⊥
target_declared m id now c (Ask target what) order h none = ask_declared m id (id_from c target) what order h none
target_declared m id now c (Ipc to from send_period receive_period) order h none = ipc_orders_none m id now c (id_from c to) send_period (receive_phase (id_from c from) receive_period) order h
target_declared m id now c (Run own) order h none = cc
target_declared m id now c End order h none = cc
