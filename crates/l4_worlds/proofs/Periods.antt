-- Each period that stands in a reached world is one of a script, so it is short.
use Rattle.std.proofs.Common.{subst, ◌≡◌, ℕ, zero, suc, Bool, true, false, cond, Option, Some, None, List, [], ◌∷◌, map}
use Rattle.std.specs.Prelude.{slice_get, IfSome}
use Rattle.std.specs.Option.{option_map}
use Rattle.std.specs.List.{AllByRecursion}
use Rattle.l4_model.specs.Words.{GlobalId, Id, NilThread, AnyThread, AnyLocalThread, LocalThread, GlobalThread, Period, is_id_of}
use Rattle.l4_model.specs.Machine.{Machine, Declaration, OrderKind, CancelSend, CancelReceive, CancelBoth, Delete, Instr, Run, Ipc, Ask, End, instruction_at}
use Rattle.l4_model.specs.World.{World, Thread, Context, Send, Receive, Owed, Phase, Ready, Sending, Receiving, Ordering, Ended, Deleted, Name, changed, opening, opening_thread, is_alive}
use Rattle.l4_model.specs.Rules.{receive_code, send_code, Act, RunsAlone, Sends, Receives, Orders, act, ipc_act, ask_act, is_admitted, id_from, receive_phase}
use Rattle.l4_model.specs.Effects.{runs, begins, waits, fails, decided, refused, receives, goes_on, delivered, asked, orders, obeyed, turned_receive, turns, turns_in}
use Rattle.l4_model.specs.Conditions.{Found, found, Pending, undecided, instruction, act_of}
use Rattle.l4_model.specs.Steps.{Step, Deliver, Order, Tick, send_of, receive_of, next, OfThread, OfSend, Runs, Waits, Fails, Obeys, Begun, Queued, Failed, Dropped, Retargeted}
use Rattle.l4_model.specs.History.{run, reached}
use Rattle.l4_model.proofs.Chains.{bind_then, some_is}
use Rattle.l4_model.proofs.Inversions.{local_taken, begin_taken, queue_taken, deliver_taken, wait_taken, drop_taken, order_taken, obey_taken, tick_taken, retarget_taken, send_failed, receive_failed}
use Rattle.l4_model.proofs.Places.{known, known_send}
use Rattle.l4_worlds.specs.Histories.{IsShort, IsShortIn, AreShort}

abbrev pub ReceiveShort : Receive → Type 0
ReceiveShort receive = IsShort receive.period

abbrev pub PhaseShort : Phase → Type 0
PhaseShort (Receiving receive since) = ReceiveShort receive
PhaseShort _ = Unit {0}

abbrev pub SendShort : Send → Type 0
SendShort send = IsShort send.period × IfSome send.receive ReceiveShort

abbrev pub ThreadShort : Thread → Type 0
ThreadShort t = PhaseShort t.phase × IfSome t.send SendShort

abbrev pub AllShort : World → Type 0
AllShort w = AllByRecursion ThreadShort w.threads

-- What an instruction asks for

abbrev ActShort : Act → Type 0
ActShort (Sends send) = SendShort send
ActShort (Receives receive) = ReceiveShort receive
ActShort _ = Unit {0}

instruction_short : (script : List Instr) (place : ℕ) → AllByRecursion IsShortIn script → IsShortIn (instruction_at script place)
instruction_short [] place all = tt
instruction_short (i ∷ script) zero all = all.0
instruction_short (i ∷ script) (suc place) all = instruction_short script place all.1

phase_short : (from : Id) (period : Period) → IsShort period → IfSome (receive_phase from period) ReceiveShort
phase_short NilThread period h = tt
phase_short AnyThread period h = h
phase_short AnyLocalThread period h = h
phase_short (LocalThread word) period h = h
phase_short (GlobalThread t) period h = h

ipc_short : (m : Machine) (id : GlobalId) (now : ℕ) (c : Context) (to : Id) (period : Period) (receive : Option Receive) →
    IsShort period → IfSome receive ReceiveShort → ActShort (ipc_act m id now c to period receive)
ipc_short m id now c NilThread period None p r = tt
ipc_short m id now c NilThread period (Some receive) p r = r
ipc_short m id now c AnyThread period receive p r = (p, r)
ipc_short m id now c AnyLocalThread period receive p r = (p, r)
ipc_short m id now c (LocalThread word) period receive p r = (p, r)
ipc_short m id now c (GlobalThread t) period receive p r = (p, r)

ask_short : (m : Machine) (id : GlobalId) (target : Id) (what : OrderKind) → ActShort (ask_act m id target what)
ask_short m id NilThread what = tt
ask_short m id AnyThread what = tt
ask_short m id AnyLocalThread what = tt
ask_short m id (LocalThread word) what = tt
ask_short m id (GlobalThread t) what = by (is_admitted m id t what)
  where
    by : (b : Bool) → ActShort (cond b (Orders (record { target = t; what = what })) RunsAlone)
    by true = tt
    by false = tt

act_short : (m : Machine) (id : GlobalId) (now : ℕ) (c : Context) (i : Instr) → IsShortIn i → ActShort (act m id now c i)
act_short m id now c (Run own) h = tt
act_short m id now c (Ipc to from send_period receive_period) h = ipc_short m id now c (id_from c to) send_period (receive_phase (id_from c from) receive_period) h.0 (phase_short (id_from c from) receive_period h.1)
act_short m id now c (Ask target what) h = ask_short m id (id_from c target) what
act_short m id now c End h = tt

declared_short : (ds : List Declaration) (i : ℕ) (d : Declaration) → AllByRecursion (λ (x : Declaration). AllByRecursion IsShortIn x.script) ds → slice_get ds i ≡ Some d → AllByRecursion IsShortIn d.script
declared_short [] i d all at = cc
declared_short (x ∷ ds) zero d all at = subst (λ (y : Declaration). AllByRecursion IsShortIn y.script) (some_is x d at) all.0
declared_short (x ∷ ds) (suc i) d all at = declared_short ds i d all.1 at

found_act_short : (m : Machine) (w : World) (id : GlobalId) (t : Found) → AreShort m → found m w id ≡ Some t → ActShort (act_of m t)
found_act_short m w id t short is =
    let k = known m w id t is in
    act_short m t.declared.id t.clock t.now.context (instruction t)
    (instruction_short t.declared.script t.now.context.place (declared_short m.threads t.at t.declared short k.declared))

sent_short : (a : Act) (send : Send) → ActShort a → send_of a ≡ Some send → SendShort send
sent_short RunsAlone send h e = cc
sent_short (Sends x) send h e = subst SendShort (some_is x send e) h
sent_short (Receives receive) send h e = cc
sent_short (Orders order) send h e = cc

received_short : (a : Act) (receive : Receive) → ActShort a → receive_of a ≡ Some receive → ReceiveShort receive
received_short RunsAlone receive h e = cc
received_short (Sends send) receive h e = cc
received_short (Receives x) receive h e = subst ReceiveShort (some_is x receive e) h
received_short (Orders order) receive h e = cc

-- Changes of a thread

abbrev KeepsShort : (Thread → Thread) → Type 0
KeepsShort f = (t : Thread) → ThreadShort t → ThreadShort (f t)

cond_short : (b : Bool) (x y : Thread) → ThreadShort x → ThreadShort y → ThreadShort (cond b x y)
cond_short true x y p q = p
cond_short false x y p q = q

runs_short : (i : Instr) → KeepsShort (runs i)
runs_short (Run own) t h = (tt, h.1)
runs_short (Ipc to from send_period receive_period) t h = (tt, h.1)
runs_short (Ask target what) t h = (tt, h.1)
runs_short End t h = (tt, h.1)

fails_short : (code : ℕ) → KeepsShort (fails code)
fails_short code t h = cond_short (is_alive t.phase) _ t (tt, h.1) h

decided_short : KeepsShort decided
decided_short t h = (h.0, tt)

refused_short : (code : ℕ) → KeepsShort (refused code)
refused_short code t h = fails_short code (decided t) (h.0, tt)

goes_on_short : (receive : Option Receive) (now : ℕ) → IfSome receive ReceiveShort → KeepsShort (goes_on receive now)
goes_on_short None now r t h = (tt, tt)
goes_on_short (Some receive) now r t h = (r, tt)

delivered_short : (send : Send) (now : ℕ) → SendShort send → KeepsShort (delivered send now)
delivered_short send now s t h = cond_short (is_alive t.phase) _ _ (goes_on_short send.receive now s.1 t h) (h.0, tt)

asked_short : (what : OrderKind) → KeepsShort (asked what)
asked_short CancelSend t h = h
asked_short CancelReceive t h = h
asked_short CancelBoth t h = h
asked_short Delete t h = (tt, h.1)

obeyed_short : KeepsShort obeyed
obeyed_short t h = cond_short (is_alive t.phase) _ _ (tt, h.1) h

turned_short : (o : Owed) (receive : Receive) → ReceiveShort receive → ReceiveShort (turned_receive o receive)
turned_short o receive h = by (is_id_of receive.from o.old_partner)
  where
    by : (b : Bool) → ReceiveShort (cond b (record receive { from = GlobalThread o.new_partner }) receive)
    by true = h
    by false = h

turns_short : (o : Owed) → KeepsShort (turns o)
turns_short o t h = by t.phase t.send h.0 h.1
  where
    with : Phase → Option Send → Thread
    with p s = record t { phase = p; send = s }

    after : (r : Option Receive) → IfSome r ReceiveShort → IfSome (option_map (turned_receive o) r) ReceiveShort
    after None h = tt
    after (Some receive) h = turned_short o receive h

    by : (p : Phase) (s : Option Send) → PhaseShort p → IfSome s SendShort → ThreadShort (turns_in p o (with p s))
    by Ready s p h = (tt, h)
    by Sending None p h = (tt, tt)
    by Sending (Some send) p h = (tt, (h.0, after send.receive h.1))
    by (Receiving receive since) s p h = (turned_short o receive p, h)
    by Ordering s p h = (tt, h)
    by Ended s p h = (tt, h)
    by Deleted s p h = (tt, h)

-- Steps

changed_short : (f : Thread → Thread) (ts : List Thread) (i : ℕ) → KeepsShort f → AllByRecursion ThreadShort ts → AllByRecursion ThreadShort (changed f ts i)
changed_short f [] i keeps h = tt
changed_short f (t ∷ ts) zero keeps h = (keeps t h.0, h.1)
changed_short f (t ∷ ts) (suc i) keeps h = (h.0, changed_short f ts i keeps h.1)

pub all_at : (P : Thread → Type 0) (ts : List Thread) (i : ℕ) (t : Thread) → AllByRecursion P ts → slice_get ts i ≡ Some t → P t
all_at P [] i t h at = cc
all_at P (x ∷ ts) zero t h at = subst P (some_is x t at) h.0
all_at P (x ∷ ts) (suc i) t h at = all_at P ts i t h.1 at

send_short : (m : Machine) (w : World) (s : Name) (p : Pending) → undecided m w s ≡ Some p → AllShort w → SendShort p.send
send_short m w s p is h =
    let k = known_send m w s p is in
    subst (λ o. IfSome o SendShort) k.send (all_at ThreadShort w.threads p.sender.at p.sender.now h k.sender.now).1

step_short : (m : Machine) (w v : World) (step : Step) → AreShort m → next m w step ≡ Some v → AllShort w → AllShort v
step_short m w v (OfThread Runs id) short h all =
    let k = local_taken m w v id h in
    let i = instruction k.t in
    subst AllShort k.leads_to (changed_short (runs i) w.threads k.t.at (runs_short i) all)
step_short m w v (OfThread Waits id) short h all =
    let k = wait_taken m w v id h in
    let acts = found_act_short m w id k.t short k.found in
    let receive : ReceiveShort k.receive = received_short (act_of m k.t) k.receive acts k.receiving in
    subst AllShort k.leads_to (changed_short (waits k.receive k.t.clock) w.threads k.t.at (λ t x. (receive, x.1)) all)
step_short m w v (OfThread (Fails why) id) short h all =
    let k = receive_failed m w v id why h in
    let code = receive_code why in
    subst AllShort k.leads_to (changed_short (fails code) w.threads k.t.at (fails_short code) all)
step_short m w v (OfThread Obeys id) short h all =
    let k = obey_taken m w v id h in
    subst AllShort k.leads_to
    (changed_short obeyed (changed (asked k.order.what) w.threads k.target) k.t.at obeyed_short
    (changed_short (asked k.order.what) w.threads k.target (asked_short k.order.what) all))
step_short m w v (OfSend Begun s) short h all =
    let k = begin_taken m w v s h in
    let acts = found_act_short m w s.thread k.t short k.found in
    let send : SendShort k.send = sent_short (act_of m k.t) k.send acts k.sends in
    subst AllShort k.leads_to (changed_short (begins k.send) w.threads k.t.at (λ t x. (tt, send)) all)
step_short m w v (OfSend Queued s) short h all = subst AllShort (queue_taken m w v s h).leads_to all
step_short m w v (OfSend (Failed why) s) short h all =
    let k = send_failed m w v s why h in
    let code = send_code why in
    subst AllShort k.leads_to (changed_short (refused code) w.threads k.p.sender.at (refused_short code) all)
step_short m w v (OfSend Dropped s) short h all =
    let k = drop_taken m w v s h in
    subst AllShort k.leads_to (changed_short decided w.threads k.p.sender.at decided_short all)
step_short m w v (OfSend Retargeted s) short h all =
    let k = retarget_taken m w v s h in
    subst AllShort k.leads_to (changed_short (turns k.o) w.threads k.t.at (turns_short k.o) all)
step_short m w v (Deliver s receiver shown actual tag words) short h all =
    let k = deliver_taken m w v s receiver shown actual tag words h in
    let send = send_short m w s k.p k.is_undecided all in
    let gets : Thread → Thread = receives k.p.send.message tag in
    subst AllShort k.leads_to
    (changed_short (delivered k.p.send k.p.sender.clock) (changed gets w.threads k.r.at) k.p.sender.at
    (delivered_short k.p.send k.p.sender.clock send) (changed_short gets w.threads k.r.at (λ t x. (tt, x.1)) all))
step_short m w v (Order caller target what) short h all =
    let k = order_taken m w v caller target what h in
    subst AllShort k.leads_to (changed_short (orders k.order) w.threads k.t.at (λ t x. (tt, x.1)) all)
step_short m w v (Tick cpu clock) short h all = subst AllShort (tick_taken m w v cpu clock h).leads_to all

pub run_short : (m : Machine) (h : List Step) (w v : World) → AreShort m → run m w h ≡ Some v → AllShort w → AllShort v
run_short m [] w v short r all = subst AllShort (some_is w v r) all
run_short m (step ∷ h) w v short r all =
    bind_then (next m w step) (λ u. run m u h) v r λ u is rest.
    run_short m h u v short rest (step_short m w u step short is all)

pub opening_short : (m : Machine) → AllShort (opening m)
opening_short m = by m.threads
  where
    by : (ds : List Declaration) → AllByRecursion ThreadShort (map (λ d. opening_thread) ds)
    by [] = tt
    by (d ∷ ds) = ((tt, tt), by ds)

pub reached_short : (m : Machine) (h : List Step) (w : World) → AreShort m → reached m h ≡ Some w → AllShort w
reached_short m h w short r = run_short m h (opening m) w short r (opening_short m)
