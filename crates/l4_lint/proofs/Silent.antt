-- A thread whose script receives nothing: what its tag register and its register ActualSender have
-- is what the script writes there, and so is what it sends.
use Rattle.std.proofs.Common.{subst, ◌≡◌, ℕ, zero, suc, ◌<◌, Bool, true, false, Option, Some, None, List, [], ◌∷◌, refl, ap, sym, arith}
use Rattle.std.specs.Prelude.{slice_index, slice_set, IfSome}
use Rattle.std.specs.Option.{option_map}
use Rattle.l4_model.specs.Words.{GlobalId, Id, NilThread, AnyThread, AnyLocalThread, LocalThread, GlobalThread, Period}
use Rattle.l4_model.specs.Machine.{Machine, Declaration, IdFrom, Fixed, Assign, Instr, Run, Tag, Vs, Ipc, Ask, Jump, OnErr, OnLabel, OnWord, OnFrom, End, OrderKind, CancelSend, CancelReceive, CancelBoth, Delete, instruction_at}
use Rattle.l4_model.specs.World.{Context, Thread, Message, Send, Receive, Owed, Phase, Ready, Sending, Receiving, Ordering, Ended, Deleted, opening, is_alive, receive_now}
use Rattle.l4_model.specs.Rules.{act, ipc_act, ask_act, is_admitted, id_from, receive_phase, ran, register, message_of}
use Rattle.l4_model.specs.Steps.{send_of, receive_of}
use Rattle.l4_model.specs.Effects.{phase_after, fails, decided, goes_on, asked, turned_send, turned_receive, turns_in, turns}
use Rattle.l4_model.proofs.Chains.{some_is, cond_keeps}
use Rattle.l4_model.proofs.Keeping.{opening_is}
use Rattle.l4_model.proofs.Requests.{act_request}
use Rattle.l4_lint.proofs.Changes.{Fact, Each, IsKept}

-- What is asked of an instruction: it receives nothing, writes the tag register as a tag alone, and
-- keeps a fact of both registers.
abbrev pub Allows : (ℕ → Id → Type 0) → Instr → Type 0
Allows C (Run (Assign a value)) = 0 < a
Allows C (Tag word) = (tag : ℕ) (actual : Id) → C tag actual → C word actual
Allows C (Vs from) = (tag : ℕ) (actual : Id) → C tag actual → (c : Context) → C tag (id_from c from)
Allows C (Ipc to from send_period receive_period) = from ≡ Fixed NilThread
Allows C _ = Unit {0}

-- A script keeps a fact of both registers, and each message that such registers give has a fact
-- too.
pub record IsClosed (m : Machine) (d : Declaration) (C : ℕ → Id → Type 0) (M : Message → Type 0) : Type 0 where
  pub each : (place : ℕ) → Allows C (instruction_at d.script place)
  pub fresh : C 0 NilThread
  pub zero : (tag : ℕ) (actual : Id) → C tag actual → C 0 actual
  pub error : (tag : ℕ) (actual : Id) → C tag actual → C 0x8000 actual
  pub message : (c : Context) → C (register c 0) c.actual → M (message_of m d.id c)

pub record IsSilent (C : ℕ → Id → Type 0) (M : Message → Type 0) (t : Thread) : Type 0 where
  pub context : C (register t.context 0) t.context.actual
  pub message : IfSome t.send (λ s. M s.message)
  pub calls_nobody : IfSome t.send (λ s. s.receive ≡ None)
  pub waits_not : receive_now t.phase ≡ None

abbrev pub Silent : Machine → (Declaration → ℕ → Id → Type 0) → (Declaration → Message → Type 0) → Fact
Silent m C M d t = IsClosed m d (C d) (M d) → IsSilent (C d) (M d) t

-- Registers

above_first : (words : List ℕ) (a word : ℕ) → 0 < a → slice_index (slice_set words a word) 0 ≡ slice_index words 0
above_first words zero word h = absurd (omega (arith, h))
above_first [] (suc a) word h = refl
above_first (x ∷ words) (suc a) word h = refl

first_set : (P : ℕ → Type 0) (words : List ℕ) (word : ℕ) → P 0 → P word → P (slice_index (slice_set words 0 word) 0)
first_set P [] word h k = h
first_set P (x ∷ words) word h k = k

ran_keeps : (m : Machine) (d : Declaration) (C : ℕ → Id → Type 0) (M : Message → Type 0) (i : Instr) (c : Context) → IsClosed m d C M → Allows C i →
    C (register c 0) c.actual → C (register (ran i c) 0) (ran i c).actual
ran_keeps m d C M (Run (Assign a value)) c closed i h = subst (λ n. C n c.actual) (sym (above_first c.words a _ i)) h
ran_keeps m d C M (Tag word) c closed i h = first_set (λ n. C n c.actual) c.words word (closed.zero _ _ h) (i _ _ h)
ran_keeps m d C M (Vs from) c closed i h = i _ _ h c
ran_keeps m d C M (Ipc to from send_period receive_period) c closed i h = first_set (λ n. C n c.actual) c.words 0 (closed.zero _ _ h) (closed.zero _ _ h)
ran_keeps m d C M (Ask target what) c closed i h = h
ran_keeps m d C M (Jump place) c closed i h = h
ran_keeps m d C M (OnErr place) c closed i h = h
ran_keeps m d C M (OnLabel label place) c closed i h = h
ran_keeps m d C M (OnWord a word place) c closed i h = h
ran_keeps m d C M (OnFrom id place) c closed i h = h
ran_keeps m d C M End c closed i h = h

waits_not_after : (i : Instr) → receive_now (phase_after i) ≡ None
waits_not_after (Run own) = refl
waits_not_after (Ipc to from send_period receive_period) = refl
waits_not_after (Ask target what) = refl
waits_not_after End = refl

-- What an instruction asks for that receives nothing

ipc_calls_nobody : (m : Machine) (id : GlobalId) (now : ℕ) (c : Context) (to : Id) (period : Period) (send : Send) →
    send_of (ipc_act m id now c to period None) ≡ Some send → send.receive ≡ None
ipc_calls_nobody m id now c NilThread period send h = cc
ipc_calls_nobody m id now c AnyThread period send h = ap (λ (s : Send). s.receive) (sym (some_is _ send h))
ipc_calls_nobody m id now c AnyLocalThread period send h = ap (λ (s : Send). s.receive) (sym (some_is _ send h))
ipc_calls_nobody m id now c (LocalThread word) period send h = ap (λ (s : Send). s.receive) (sym (some_is _ send h))
ipc_calls_nobody m id now c (GlobalThread t) period send h = ap (λ (s : Send). s.receive) (sym (some_is _ send h))

ipc_waits_not : (m : Machine) (id : GlobalId) (now : ℕ) (c : Context) (to : Id) (period : Period) → receive_of (ipc_act m id now c to period None) ≡ None
ipc_waits_not m id now c NilThread period = refl
ipc_waits_not m id now c AnyThread period = refl
ipc_waits_not m id now c AnyLocalThread period = refl
ipc_waits_not m id now c (LocalThread word) period = refl
ipc_waits_not m id now c (GlobalThread t) period = refl

ask_sends_nothing : (m : Machine) (id : GlobalId) (target : Id) (what : OrderKind) →
    (send_of (ask_act m id target what) ≡ None) × (receive_of (ask_act m id target what) ≡ None)
ask_sends_nothing m id NilThread what = (refl, refl)
ask_sends_nothing m id AnyThread what = (refl, refl)
ask_sends_nothing m id AnyLocalThread what = (refl, refl)
ask_sends_nothing m id (LocalThread word) what = (refl, refl)
ask_sends_nothing m id (GlobalThread t) what = by (is_admitted m id t what) refl
  where
    by : (b : Bool) → is_admitted m id t what ≡ b → (send_of (ask_act m id (GlobalThread t) what) ≡ None) × (receive_of (ask_act m id (GlobalThread t) what) ≡ None)
    by true e = (rw e refl, rw e refl)
    by false e = (rw e refl, rw e refl)

not_both : {A : Type 0} (o : Option A) (x : A) → o ≡ None → o ≡ Some x → ⊥
not_both o x e f = cc

act_calls_nobody : (m : Machine) (id : GlobalId) (now : ℕ) (c : Context) (C : ℕ → Id → Type 0) (i : Instr) (send : Send) → Allows C i →
    send_of (act m id now c i) ≡ Some send → send.receive ≡ None
act_calls_nobody m id now c C (Ipc to from send_period receive_period) send i h =
    ipc_calls_nobody m id now c (id_from c to) send_period send
    (subst (λ (x : IdFrom). send_of (ipc_act m id now c (id_from c to) send_period (receive_phase (id_from c x) receive_period)) ≡ Some send) i h)
act_calls_nobody m id now c C (Ask target what) send i h = absurd (not_both _ send (ask_sends_nothing m id (id_from c target) what).0 h)
act_calls_nobody m id now c C (Run own) send i h = cc
act_calls_nobody m id now c C End send i h = cc

act_waits_not : (m : Machine) (id : GlobalId) (now : ℕ) (c : Context) (C : ℕ → Id → Type 0) (i : Instr) (receive : Receive) → Allows C i →
    receive_of (act m id now c i) ≡ Some receive → ⊥
act_waits_not m id now c C (Ipc to from send_period receive_period) receive i h =
    not_both _ receive (ipc_waits_not m id now c (id_from c to) send_period)
    (subst (λ (x : IdFrom). receive_of (ipc_act m id now c (id_from c to) send_period (receive_phase (id_from c x) receive_period)) ≡ Some receive) i h)
act_waits_not m id now c C (Ask target what) receive i h = not_both _ receive (ask_sends_nothing m id (id_from c target) what).1 h
act_waits_not m id now c C (Run own) receive i h = cc
act_waits_not m id now c C End receive i h = cc

-- Each change of a thread

failed_keeps : (m : Machine) (d : Declaration) (C : ℕ → Id → Type 0) (M : Message → Type 0) (code : ℕ) (t : Thread) → IsClosed m d C M → IsSilent C M t → IsSilent C M (fails code t)
failed_keeps m d C M code t closed h =
    cond_keeps (IsSilent C M) (is_alive t.phase) _ t
    (λ alive. record {
      context = first_set (λ n. C n t.context.actual) t.context.words 0x8000 (closed.zero _ _ h.context) (closed.error _ _ h.context);
      message = h.message;
      calls_nobody = h.calls_nobody;
      waits_not = refl;
    })
    (λ gone. h)

decided_keeps : (C : ℕ → Id → Type 0) (M : Message → Type 0) (t : Thread) → IsSilent C M t → IsSilent C M (decided t)
decided_keeps C M t h = record { context = h.context; message = tt; calls_nobody = tt; waits_not = h.waits_not }

no_call : (send : Option Send) (s : Send) → send ≡ Some s → IfSome send (λ s. s.receive ≡ None) → s.receive ≡ None
no_call send s e h = subst (λ (o : Option Send). IfSome o (λ s. s.receive ≡ None)) e h

goes_on_keeps : (m : Machine) (d : Declaration) (C : ℕ → Id → Type 0) (M : Message → Type 0) (t : Thread) (receive : Option Receive) (now : ℕ) → receive ≡ None → IsClosed m d C M →
    IsSilent C M t → IsSilent C M (goes_on receive now t)
goes_on_keeps m d C M t (Some receive) now none closed h = cc
goes_on_keeps m d C M t None now none closed h =
    record {
      context = first_set (λ n. C n t.context.actual) t.context.words 0 (closed.zero _ _ h.context) (closed.zero _ _ h.context);
      message = tt;
      calls_nobody = tt;
      waits_not = refl;
    }

asked_keeps : (C : ℕ → Id → Type 0) (M : Message → Type 0) (t : Thread) (what : OrderKind) → IsSilent C M t → IsSilent C M (asked what t)
asked_keeps C M t CancelSend h = record { context = h.context; message = h.message; calls_nobody = h.calls_nobody; waits_not = h.waits_not }
asked_keeps C M t CancelReceive h = record { context = h.context; message = h.message; calls_nobody = h.calls_nobody; waits_not = h.waits_not }
asked_keeps C M t CancelBoth h = record { context = h.context; message = h.message; calls_nobody = h.calls_nobody; waits_not = h.waits_not }
asked_keeps C M t Delete h = record { context = h.context; message = h.message; calls_nobody = h.calls_nobody; waits_not = refl }

message_turned : (M : Message → Type 0) (o : Owed) (send : Option Send) → IfSome send (λ s. M s.message) → IfSome (option_map (turned_send o) send) (λ s. M s.message)
message_turned M o None h = tt
message_turned M o (Some send) h = h

call_turned : (o : Owed) (send : Option Send) → IfSome send (λ s. s.receive ≡ None) → IfSome (option_map (turned_send o) send) (λ s. s.receive ≡ None)
call_turned o None h = tt
call_turned o (Some send) h = ap (option_map (turned_receive o)) h

turn_keeps : (C : ℕ → Id → Type 0) (M : Message → Type 0) (t : Thread) (o : Owed) → IsSilent C M t → IsSilent C M (turns o t)
turn_keeps C M t o h = by t.phase refl
  where
    by : (p : Phase) → t.phase ≡ p → IsSilent C M (turns_in p o t)
    by Ready is = h
    by Sending is = record {
      context = h.context;
      message = message_turned M o t.send h.message;
      calls_nobody = call_turned o t.send h.calls_nobody;
      waits_not = h.waits_not;
    }
    by (Receiving receive since) is = absurd (not_both (receive_now t.phase) receive h.waits_not (ap receive_now is))
    by Ordering is = h
    by Ended is = h
    by Deleted is = h

pub is_kept : (m : Machine) (C : Declaration → ℕ → Id → Type 0) (M : Declaration → Message → Type 0) → IsKept m (Silent m C M)
is_kept m C M =
    record {
      at_run = λ d t h closed. let s = h closed in
          record {
            context = ran_keeps m d (C d) (M d) (instruction_at d.script t.context.place) t.context closed (closed.each t.context.place) s.context;
            message = s.message;
            calls_nobody = s.calls_nobody;
            waits_not = waits_not_after (instruction_at d.script t.context.place);
          };
      at_begin = λ d now t send sends h closed.
          let s = h closed in
          let asks = act_request m d.id now t.context (instruction_at d.script t.context.place) send sends in
          record {
            context = s.context;
            message = subst (M d) asks.message (closed.message t.context s.context);
            calls_nobody = act_calls_nobody m d.id now t.context (C d) (instruction_at d.script t.context.place) send (closed.each t.context.place) sends;
            waits_not = refl;
          };
      at_wait = λ d now t receive receiving h closed.
          absurd (act_waits_not m d.id now t.context (C d) (instruction_at d.script t.context.place) receive (closed.each t.context.place) receiving);
      at_order = λ d t order h closed. let s = h closed in record { context = s.context; message = s.message; calls_nobody = s.calls_nobody; waits_not = refl };
      at_failure = λ d t code h closed. failed_keeps m d (C d) (M d) code t closed (h closed);
      at_decision = λ d t h closed. decided_keeps (C d) (M d) t (h closed);
      at_receipt = λ d t receive message tag receiving h closed. absurd (not_both (receive_now t.phase) receive (h closed).waits_not receiving);
      at_delivery = λ d now t send has h closed.
          let s = h closed in
          cond_keeps (IsSilent (C d) (M d)) (is_alive t.phase) _ (decided t)
          (λ alive. goes_on_keeps m d (C d) (M d) t send.receive now (no_call t.send send has s.calls_nobody) closed s)
          (λ gone. decided_keeps (C d) (M d) t s);
      at_asked = λ d t what h closed. asked_keeps (C d) (M d) t what (h closed);
      at_obedience = λ d t h closed.
          let s = h closed in
          cond_keeps (IsSilent (C d) (M d)) (is_alive t.phase) _ _
          (λ alive. record { context = s.context; message = s.message; calls_nobody = s.calls_nobody; waits_not = refl })
          (λ gone. record { context = s.context; message = s.message; calls_nobody = s.calls_nobody; waits_not = s.waits_not });
      at_turn = λ d t o h closed. turn_keeps (C d) (M d) t o (h closed);
    }

pub opening_silent : (m : Machine) (C : Declaration → ℕ → Id → Type 0) (M : Declaration → Message → Type 0) → Each m (Silent m C M) (opening m)
opening_silent m C M i d t declared now =
    subst (Silent m C M d) (opening_is m i t now) (λ closed. record { context = closed.fresh; message = tt; calls_nobody = tt; waits_not = refl })
