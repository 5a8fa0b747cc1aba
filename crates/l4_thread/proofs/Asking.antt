-- An Ipc of one thread, told whether it may show its originator, is that of the machine.
use Rattle.std.proofs.Common.{ℕ, List, ◌≡◌, ◌∙◌, Bool, true, false, refl}
use Rattle.std.specs.Prelude.{◌/◌, ◌%◌, ◌^◌, ◌==◌, ◌&&◌, if◌then◌else◌, IsSome, Option, Some, None, is_some}
use Rattle.l4_model.specs.Words.{Period, GlobalId, Id, NilThread, AnyThread, AnyLocalThread, LocalThread, GlobalThread}
use Rattle.l4_model.specs.Machine.{Machine, same_space, Instr, Run, Ipc, Ask, End}
use Rattle.l4_model.specs.World.{Context, Message, Receive, Thread, Sending}
use Rattle.l4_model.specs.Rules.{register, permitted, originator, message_of, id_from, receive_phase, ipc_act, act, request, Sends}
use Rattle.l4_types.specs.Ids.{global_of}
use Rattle.l4_thread.specs.Inner.Held.{Held, sent_of}
use Rattle.l4_thread.specs.Inner.Ipcs.{IsPermission, may_show, starts}
use Rattle.l4_thread.specs.Inner.Requests.{propagates, originator_if, message_if, Phases, send_phase, phases_of, phases_begun, counted}

-- Whether a thread may show its originator matters only where it asks for propagation.
originator_as : (permitted shown asks : Bool) (o : Option GlobalId) → (asks ≡ true → permitted ≡ shown) →
    (if permitted && asks then o else None) ≡ (if shown && asks then o else None)
originator_as permitted shown true o e = let same = e refl in rw same refl
originator_as true true false o e = refl
originator_as true false false o e = refl
originator_as false true false o e = refl
originator_as false false false o e = refl

phases_as : (m : Machine) (sender : GlobalId) (c : Context) (permitted : Bool) (instr : Instr) → IsPermission permitted m sender c →
    phases_of permitted sender c instr ≡ phases_of (may_show m sender c.actual) sender c instr
phases_as m sender c permitted (Ipc to from send_period receive_period) e =
    let o = originator_as permitted (may_show m sender c.actual) (propagates c) (global_of c.actual) e in
    rw o refl
phases_as m sender c permitted (Run own) e = refl
phases_as m sender c permitted (Ask target what) e = refl
phases_as m sender c permitted End e = refl

shown_if : (space asks : Bool) (t : GlobalId) →
    (if is_some (if space then Some t else None) && asks then Some t else None) ≡ (if asks then (if space then Some t else None) else None)
shown_if true true t = refl
shown_if true false t = refl
shown_if false true t = refl
shown_if false false t = refl

nobody_if : (asks : Bool) (o : Option GlobalId) → (if false && asks then o else None) ≡ (if asks then None else None)
nobody_if true o = refl
nobody_if false o = refl

pub originator_is : (m : Machine) (sender : GlobalId) (c : Context) → originator_if (may_show m sender c.actual) c ≡ originator m sender c
originator_is m sender c = by_id c.actual ((register c 0 / 2 ^ 12) % 2 == 1)
  where
    by_id : (actual : Id) (asks : Bool) →
        (if may_show m sender actual && asks then global_of actual else None) ≡ (if asks then permitted m sender actual else None)
    by_id NilThread asks = nobody_if asks None
    by_id AnyThread asks = nobody_if asks None
    by_id AnyLocalThread asks = nobody_if asks None
    by_id (LocalThread word) asks = nobody_if asks None
    by_id (GlobalThread t) asks = shown_if (same_space m t sender) asks t

-- Only an originator that is named by a global id may be shown.
pub shown_is_global : (m : Machine) (sender : GlobalId) (actual : Id) → may_show m sender actual ≡ true → IsSome (global_of actual)
shown_is_global m sender NilThread shown = cc
shown_is_global m sender AnyThread shown = cc
shown_is_global m sender AnyLocalThread shown = cc
shown_is_global m sender (LocalThread word) shown = cc
shown_is_global m sender (GlobalThread t) shown = refl

-- A send that shows an originator asks for propagation, and may show it.
pub shows_if : (m : Machine) (sender : GlobalId) (c : Context) (shows : Bool) → shows ≡ is_some (originator m sender c) → IsPermission shows m sender c
shows_if m sender c shows = by (propagates c)
  where
    by : (asks : Bool) → shows ≡ is_some (if asks then permitted m sender c.actual else None) → asks ≡ true → shows ≡ may_show m sender c.actual
    by true e h = e
    by false e h = cc

pub shown_originator : (m : Machine) (sender : GlobalId) (c : Context) → is_some (originator m sender c) ≡ true → IsSome (global_of c.actual)
shown_originator m sender c = by (propagates c)
  where
    by : (asks : Bool) → is_some (if asks then permitted m sender c.actual else None) ≡ true → IsSome (global_of c.actual)
    by true e = shown_is_global m sender c.actual e
    by false e = cc

pub message_is : (m : Machine) (sender : GlobalId) (c : Context) → message_if (may_show m sender c.actual) sender c ≡ message_of m sender c
message_is m sender c = rw (originator_is m sender c)

-- A send phase that is there, by its parts.
some_is : {A : Type 0} (x y : A) → Some x ≡ Some y → x ≡ y
some_is x y h = cc

asks_for : (m : Machine) (sender : GlobalId) (now : ℕ) (c : Context) (receive : Option Receive) (to : Id) (message : Message) (period : Period)
    (s : Id × Message × Period) → message ≡ message_of m sender c → (to, message, period) ≡ s →
    Sends (request m sender now c to period receive) ≡ Sends (record { to = s.0; message = s.1; period = s.2; since = now; receive = receive })
asks_for m sender now c receive to message period s e k = rw (← k) (rw e refl)

-- Where there is a send phase, an ipc sends.
sends_to : (m : Machine) (sender : GlobalId) (now : ℕ) (c : Context) (message : Message) → message ≡ message_of m sender c →
    (to : Id) (period : Period) (receive : Option Receive) (s : Id × Message × Period) →
    send_phase to message period ≡ Some s →
    ipc_act m sender now c to period receive ≡ Sends (record { to = s.0; message = s.1; period = s.2; since = now; receive = receive })
sends_to m sender now c message e NilThread period receive s h = cc
sends_to m sender now c message e AnyThread period receive s h = asks_for m sender now c receive AnyThread message period s e (some_is _ _ h)
sends_to m sender now c message e AnyLocalThread period receive s h = asks_for m sender now c receive AnyLocalThread message period s e (some_is _ _ h)
sends_to m sender now c message e (LocalThread word) period receive s h =
    asks_for m sender now c receive (LocalThread word) message period s e (some_is _ _ h)
sends_to m sender now c message e (GlobalThread t) period receive s h =
    asks_for m sender now c receive (GlobalThread t) message period s e (some_is _ _ h)

pub sends_phase : (m : Machine) (sender : GlobalId) (now : ℕ) (c : Context) (instr : Instr) (s : Id × Message × Period) →
    (phases_of (may_show m sender c.actual) sender c instr).send ≡ Some s →
    act m sender now c instr ≡ Sends (record { to = s.0; message = s.1; period = s.2; since = now; receive = (phases_of (may_show m sender c.actual) sender c instr).receive })
sends_phase m sender now c (Run own) s h = cc
sends_phase m sender now c (Ipc to from send_period receive_period) s h =
    sends_to m sender now c _ (message_is m sender c) (id_from c to) send_period (receive_phase (id_from c from) receive_period) s h
sends_phase m sender now c (Ask target what) s h = cc
sends_phase m sender now c End s h = cc

-- No word of a register changes where phases begin.
pub begun_words : (c : Context) (p : Phases) → (phases_begun p c).words ≡ c.words
begun_words c p = by_send p.send p.receive
  where
    by_send : (s : Option (Id × Message × Period)) (r : Option Receive) → (phases_begun (record { send = s; receive = r }) c).words ≡ c.words
    by_send (Some s) r = refl
    by_send None (Some r) = refl
    by_send None None = refl

begins_counted : (c : Context) (p : Phases) (s : Id × Message × Period) → p.send ≡ Some s → phases_begun p c ≡ counted c
begins_counted c p s h = rw h refl

-- A thread that begins a send, by what its Ipc asks for.
pub starts_send : (m : Machine) (sender : GlobalId) (now : ℕ) (t : Thread) (instr : Instr) (asks : Bool) (p : Phases) (s : Id × Message × Period) →
    IsPermission asks m sender t.context → p ≡ phases_of asks sender t.context instr → p.send ≡ Some s →
    record t { context = phases_begun p t.context; phase = Sending; send = Some (record { to = s.0; message = s.1; period = s.2; since = now; receive = p.receive }) }
    ≡ starts (act m sender now t.context instr) now t
starts_send m sender now t instr asks p s a e h =
    let e2 : p ≡ phases_of (may_show m sender t.context.actual) sender t.context instr = e ∙ phases_as m sender t.context asks instr a in
    let h2 : (phases_of (may_show m sender t.context.actual) sender t.context instr).send ≡ Some s = rw (← e2) h in
    rw (begins_counted t.context p s h, sends_phase m sender now t.context instr s h2) (rw e2 refl)

-- The same where the words of the message stay in the registers.
pub starts_held : (m : Machine) (sender : GlobalId) (now : ℕ) (t : Thread) (instr : Instr) (asks : Bool) (p : Phases) (s : Id × Message × Period) (x : Context) (apart : List ℕ) (h : Held) →
    IsPermission asks m sender t.context → p ≡ phases_of asks sender t.context instr → p.send ≡ Some s → x ≡ phases_begun p t.context →
    sent_of apart t.context.words h ≡ record { to = s.0; message = s.1; period = s.2; since = now; receive = p.receive } →
    record t { context = x; phase = Sending; send = Some (sent_of apart x.words h) } ≡ starts (act m sender now t.context instr) now t
starts_held m sender now t instr asks p s x apart h a e k begun held =
    rw (begun, begun_words t.context p, held) (starts_send m sender now t instr asks p s a e k)
