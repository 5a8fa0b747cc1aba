-- What a send asks for when it begins.
use Rattle.std.proofs.Common.{◌≡◌, ℕ, suc, ◌+◌, ◌%◌, ◌<◌, Bool, true, false, cond, Option, Some, None, List, [], ◌∷◌, length, drop, refl, ap, sym, ◌∙◌, arith}
use Rattle.std.proofs.lemmas.Bool.{lt-ltb}
use Rattle.std.proofs.lemmas.List.{length-take}
use Rattle.std.specs.Prelude.{◌==◌, ◌/◌, ◌^◌, not, nat_lt, is_some, unwrap_or, find, position}
use Rattle.std.specs.List.{position_or_len}
use Rattle.l4_model.specs.Words.{GlobalId, Id, NilThread, AnyThread, AnyLocalThread, LocalThread, GlobalThread, Period, same_id}
use Rattle.l4_model.specs.Machine.{Machine, Declaration, OrderKind, Instr, Run, Ipc, Ask, End, declaration_of, is_declared, agree, same_space}
use Rattle.l4_model.specs.World.{Context, Receive, Send}
use Rattle.l4_model.specs.Rules.{act, ipc_act, ask_act, is_admitted, message_of, id_from, receive_phase, register, originator, permitted}
use Rattle.l4_model.specs.Steps.{send_of}
use Rattle.l4_model.proofs.Chains.{some_is}

-- It is of now, and has the message of the registers.
pub record IsRequest (m : Machine) (id : GlobalId) (now : ℕ) (c : Context) (send : Send) : Type 0 where
  pub since : send.since ≡ now
  pub message : message_of m id c ≡ send.message

ipc_request : (m : Machine) (id : GlobalId) (now : ℕ) (c : Context) (to : Id) (period : Period) (receive : Option Receive) (send : Send) →
    send_of (ipc_act m id now c to period receive) ≡ Some send → IsRequest m id now c send
ipc_request m id now c NilThread period None send h = cc
ipc_request m id now c NilThread period (Some receive) send h = cc
ipc_request m id now c AnyThread period receive send h = let is = some_is _ send h in record { since = ap (λ (s : Send). s.since) (sym is); message = ap (λ (s : Send). s.message) is }
ipc_request m id now c AnyLocalThread period receive send h = let is = some_is _ send h in record { since = ap (λ (s : Send). s.since) (sym is); message = ap (λ (s : Send). s.message) is }
ipc_request m id now c (LocalThread word) period receive send h = let is = some_is _ send h in record { since = ap (λ (s : Send). s.since) (sym is); message = ap (λ (s : Send). s.message) is }
ipc_request m id now c (GlobalThread t) period receive send h = let is = some_is _ send h in record { since = ap (λ (s : Send). s.since) (sym is); message = ap (λ (s : Send). s.message) is }

ask_sends_nothing : (m : Machine) (id : GlobalId) (target : Id) (what : OrderKind) → send_of (ask_act m id target what) ≡ None
ask_sends_nothing m id NilThread what = refl
ask_sends_nothing m id AnyThread what = refl
ask_sends_nothing m id AnyLocalThread what = refl
ask_sends_nothing m id (LocalThread word) what = refl
ask_sends_nothing m id (GlobalThread t) what = by (is_admitted m id t what) refl
  where
    by : (b : Bool) → is_admitted m id t what ≡ b → send_of (ask_act m id (GlobalThread t) what) ≡ None
    by true e = rw e
    by false e = rw e

pub act_request : (m : Machine) (id : GlobalId) (now : ℕ) (c : Context) (i : Instr) (send : Send) → send_of (act m id now c i) ≡ Some send → IsRequest m id now c send
act_request m id now c (Run own) send h = cc
act_request m id now c (Ipc to from send_period receive_period) send h = ipc_request m id now c (id_from c to) send_period (receive_phase (id_from c from) receive_period) send h
act_request m id now c (Ask target what) send h = let none = ask_sends_nothing m id (id_from c target) what in absurd (no_send (send_of (ask_act m id (id_from c target) what)) send none h)
  where
    no_send : (o : Option Send) (send : Send) → o ≡ None → o ≡ Some send → ⊥
    no_send o send e f = cc
act_request m id now c End send h = cc

-- A message has at most 63 words.
pub message_short : (m : Machine) (id : GlobalId) (c : Context) → length (message_of m id c).words < 64
message_short m id c = omega (arith, length-take (register c 0 % 64) (drop 1 c.words))

-- It shows a declared thread: its sender, or an originator of the sender's space.
find_within : (p : Declaration → Bool) (ds : List Declaration) (d : Declaration) → find p ds ≡ Some d → position_or_len p ds < length ds
find_within p [] d h = cc
find_within p (x ∷ ds) d h = by (p x) h (find_within p ds d)
  where
    by : (b : Bool) → cond b (Some x) (find p ds) ≡ Some d → (find p ds ≡ Some d → position_or_len p ds < length ds) → cond (not b) (1 + position_or_len p ds) 0 < suc (length ds)
    by true h rest = omega arith
    by false h rest = omega (arith, rest h)

declared_find : (id : GlobalId) (ds : List Declaration) (f : Declaration → ℕ) (o : Option Declaration) → agree f (find (λ d. same_id d.id id) ds) o ≡ true → is_some (position (λ d. same_id d.id id) ds) ≡ true
declared_find id ds f o h = by (find (λ d. same_id d.id id) ds) refl h
  where
    by : (x : Option Declaration) → find (λ d. same_id d.id id) ds ≡ x → agree f x o ≡ true → is_some (position (λ d. same_id d.id id) ds) ≡ true
    by None e h = cc
    by (Some d) e h = let within : nat_lt (position_or_len (λ d. same_id d.id id) ds) (length ds) ≡ true = lt-ltb _ _ (find_within (λ d. same_id d.id id) ds d e) in rw within

same_space_declared : (m : Machine) (a b : GlobalId) → same_space m a b ≡ true → is_declared m a ≡ true
same_space_declared m a b h = declared_find a m.threads (λ d. d.space) (declaration_of m b) h

permitted_declared : (m : Machine) (sender : GlobalId) (id : Id) (t : GlobalId) → permitted m sender id ≡ Some t → is_declared m t ≡ true
permitted_declared m sender NilThread t h = cc
permitted_declared m sender AnyThread t h = cc
permitted_declared m sender AnyLocalThread t h = cc
permitted_declared m sender (LocalThread word) t h = cc
permitted_declared m sender (GlobalThread x) t h = by (same_space m x sender) refl h
  where
    by : (b : Bool) → same_space m x sender ≡ b → cond b (Some x) None ≡ Some t → is_declared m t ≡ true
    by true e h = ap (is_declared m) (sym (some_is x t h)) ∙ same_space_declared m x sender e
    by false e h = cc

pub shown_declared : (m : Machine) (sender : GlobalId) (c : Context) → is_declared m sender ≡ true → is_declared m (message_of m sender c).shown ≡ true
shown_declared m sender c declared = by (originator m sender c) refl
  where
    asked : (b : Bool) (t : GlobalId) → cond b (permitted m sender c.actual) None ≡ Some t → is_declared m t ≡ true
    asked true t h = permitted_declared m sender c.actual t h
    asked false t h = cc

    by : (o : Option GlobalId) → originator m sender c ≡ o → is_declared m (unwrap_or o sender) ≡ true
    by None e = declared
    by (Some t) e = asked (register c 0 / 2 ^ 12 % 2 == 1) t e
