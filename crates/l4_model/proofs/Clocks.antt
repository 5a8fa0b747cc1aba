-- What clocks have to do with steps: where a step is possible, it is possible when clocks are later.
use Rattle.std.proofs.Common.{◌≡◌, ℕ, ◌+◌, ◌≤◌, Bool, true, false, cond, Option, Some, None, List, refl, ap, ◌∙◌, arith}
use Rattle.std.proofs.lemmas.Bool.{leb-true, le-leb}
use Rattle.std.specs.Prelude.{slice_get, slice_index, ◌==◌, is_some}
use Rattle.std.specs.Option.{option_map}
use Rattle.l4_model.specs.Words.{GlobalId, Id, NilThread, AnyThread, AnyLocalThread, LocalThread, GlobalThread, Period}
use Rattle.l4_model.specs.Machine.{Machine, Declaration, OrderKind, Instr, Run, Ipc, Ask, End, place_of}
use Rattle.l4_model.specs.World.{World, Thread, Context, Send, Receive, Phase, Ready, Sending, Receiving, Ordering, Ended, Deleted, Name}
use Rattle.l4_model.specs.Rules.{Failure, TimeOver, NobodyThere, CancelAsked, Act, RunsAlone, Sends, Receives, Orders, act, ipc_act, ask_act, is_admitted, id_from, receive_phase}
use Rattle.l4_model.specs.Conditions.{Found, found, found_at, found_by, Pending, undecided, receiver_of, instruction, act_of, is_nobody, is_no_destination, has_passed, is_refusable, is_timed_out, ◌>>=◌, ◌>>◌}
use Rattle.l4_model.specs.Steps.{Step, Deliver, Order, Tick, runs_alone, send_of, receive_of, order_of, receive_passed, may_fail, may_refuse, next, OfThread, OfSend, Runs, Waits, Fails, Obeys, Begun, Queued, Failed, Dropped, Retargeted}
use Rattle.l4_model.specs.Still.{is_tick}
use Rattle.l4_model.proofs.Inversions.{local_taken, begin_taken, queue_taken, deliver_taken, wait_taken, drop_taken, order_taken, obey_taken, retarget_taken, send_failed, receive_failed}
use Rattle.l4_model.proofs.Places.{and_true, known, known_send}

-- A world with other clocks.
abbrev pub with_clocks : World → List ℕ → World
with_clocks w clocks = record w { clocks = clocks }

abbrev pub at_clocks : List ℕ → Found → Found
at_clocks clocks t = record t { clock = slice_index clocks t.declared.cpu }

abbrev pub pending_at : List ℕ → Pending → Pending
pending_at clocks p = record p { sender = at_clocks clocks p.sender }

-- what is found in it
found_later : (m : Machine) (w : World) (clocks : List ℕ) (id : GlobalId) → found m (with_clocks w clocks) id ≡ option_map (at_clocks clocks) (found m w id)
found_later m w clocks id = by (place_of m id)
  where
    both : (i : ℕ) (a : Option Declaration) (b : Option Thread) →
        (a >>= λ d. b >>= λ t. Some (record { at = i; declared = d; now = t; clock = slice_index clocks d.cpu }))
        ≡ option_map (at_clocks clocks) (a >>= λ d. b >>= λ t. Some (record { at = i; declared = d; now = t; clock = slice_index w.clocks d.cpu }))
    both i None b = refl
    both i (Some d) None = refl
    both i (Some d) (Some t) = refl

    by : (o : Option ℕ) → (o >>= found_at m (with_clocks w clocks)) ≡ option_map (at_clocks clocks) (o >>= found_at m w)
    by None = refl
    by (Some i) = both i (slice_get m.threads i) (slice_get w.threads i)

found_by_later : (m : Machine) (w : World) (clocks : List ℕ) (id : Id) → found_by m (with_clocks w clocks) id ≡ option_map (at_clocks clocks) (found_by m w id)
found_by_later m w clocks NilThread = refl
found_by_later m w clocks AnyThread = refl
found_by_later m w clocks AnyLocalThread = refl
found_by_later m w clocks (LocalThread word) = refl
found_by_later m w clocks (GlobalThread t) = found_later m w clocks t

undecided_later : (m : Machine) (w : World) (clocks : List ℕ) (s : Name) → undecided m (with_clocks w clocks) s ≡ option_map (pending_at clocks) (undecided m w s)
undecided_later m w clocks s = rw (found_later m w clocks s.thread) (by (found m w s.thread))
  where
    sent : (t : Found) (b : Bool) (o : Option Send) →
        (b >> (o >>= λ send. Some (record { sender = at_clocks clocks t; send = send }))) ≡ option_map (pending_at clocks) (b >> (o >>= λ send. Some (record { sender = t; send = send })))
    sent t true None = refl
    sent t true (Some send) = refl
    sent t false o = refl

    by : (o : Option Found) →
        (option_map (at_clocks clocks) o >>= λ t. (t.now.context.begun == s.k) >> (t.now.send >>= λ send. Some (record { sender = t; send = send })))
        ≡ option_map (pending_at clocks) (o >>= λ t. (t.now.context.begun == s.k) >> (t.now.send >>= λ send. Some (record { sender = t; send = send })))
    by None = refl
    by (Some t) = sent t (t.now.context.begun == s.k) t.now.send

-- what is found where something was found
found_is : (m : Machine) (w : World) (clocks : List ℕ) (id : GlobalId) (t : Found) → found m w id ≡ Some t → found m (with_clocks w clocks) id ≡ Some (at_clocks clocks t)
found_is m w clocks id t h = found_later m w clocks id ∙ ap (option_map (at_clocks clocks)) h

undecided_is : (m : Machine) (w : World) (clocks : List ℕ) (s : Name) (p : Pending) → undecided m w s ≡ Some p → undecided m (with_clocks w clocks) s ≡ Some (pending_at clocks p)
undecided_is m w clocks s p h = undecided_later m w clocks s ∙ ap (option_map (pending_at clocks)) h

receiver_is : (m : Machine) (w : World) (clocks : List ℕ) (p : Pending) (r : Found) → receiver_of m w p ≡ Some r → receiver_of m (with_clocks w clocks) (pending_at clocks p) ≡ Some (at_clocks clocks r)
receiver_is m w clocks p r h = found_by_later m w clocks p.send.to ∙ ap (option_map (at_clocks clocks)) h

-- tests that no clock changes
nobody_later : (id : Id) (clocks : List ℕ) (o : Option Found) → is_nobody id (option_map (at_clocks clocks) o) ≡ is_nobody id o
nobody_later NilThread clocks o = refl
nobody_later AnyThread clocks o = refl
nobody_later AnyLocalThread clocks o = refl
nobody_later (LocalThread word) clocks o = refl
nobody_later (GlobalThread t) clocks None = refl
nobody_later (GlobalThread t) clocks (Some r) = refl

no_destination_later : (id : Id) (clocks : List ℕ) (o : Option Found) → is_no_destination id (option_map (at_clocks clocks) o) ≡ is_no_destination id o
no_destination_later NilThread clocks o = refl
no_destination_later AnyThread clocks o = refl
no_destination_later AnyLocalThread clocks o = refl
no_destination_later (LocalThread word) clocks o = refl
no_destination_later (GlobalThread t) clocks o = nobody_later (GlobalThread t) clocks o

refusable_later : (m : Machine) (send : Send) (clocks : List ℕ) (o : Option Found) → is_refusable m send (option_map (at_clocks clocks) o) ≡ is_refusable m send o
refusable_later m send clocks None = refl
refusable_later m send clocks (Some r) = by r.now.phase
  where
    by : (phase : Phase) → is_refusable m send (Some (record (at_clocks clocks r) { now = record r.now { phase = phase } })) ≡ is_refusable m send (Some (record r { now = record r.now { phase = phase } }))
    by Ready = refl
    by Sending = refl
    by (Receiving receive since) = refl
    by Ordering = refl
    by Ended = refl
    by Deleted = refl

-- what an instruction asks for, at another clock
abbrev retimed : ℕ → Act → Act
retimed now RunsAlone = RunsAlone
retimed now (Sends send) = Sends (record send { since = now })
retimed now (Receives receive) = Receives receive
retimed now (Orders order) = Orders order

ipc_retimed : (m : Machine) (id : GlobalId) (now later : ℕ) (c : Context) (to : Id) (period : Period) (receive : Option Receive) →
    ipc_act m id later c to period receive ≡ retimed later (ipc_act m id now c to period receive)
ipc_retimed m id now later c NilThread period None = refl
ipc_retimed m id now later c NilThread period (Some receive) = refl
ipc_retimed m id now later c AnyThread period receive = refl
ipc_retimed m id now later c AnyLocalThread period receive = refl
ipc_retimed m id now later c (LocalThread word) period receive = refl
ipc_retimed m id now later c (GlobalThread t) period receive = refl

ask_retimed : (m : Machine) (id : GlobalId) (later : ℕ) (target : Id) (what : OrderKind) → ask_act m id target what ≡ retimed later (ask_act m id target what)
ask_retimed m id later NilThread what = refl
ask_retimed m id later AnyThread what = refl
ask_retimed m id later AnyLocalThread what = refl
ask_retimed m id later (LocalThread word) what = refl
ask_retimed m id later (GlobalThread t) what = by (is_admitted m id t what)
  where
    by : (b : Bool) → cond b (Orders (record { target = t; what = what })) RunsAlone ≡ retimed later (cond b (Orders (record { target = t; what = what })) RunsAlone)
    by true = refl
    by false = refl

act_retimed : (m : Machine) (id : GlobalId) (now later : ℕ) (c : Context) (i : Instr) → act m id later c i ≡ retimed later (act m id now c i)
act_retimed m id now later c (Run own) = refl
act_retimed m id now later c (Ipc to from send_period receive_period) = ipc_retimed m id now later c (id_from c to) send_period (receive_phase (id_from c from) receive_period)
act_retimed m id now later c (Ask target what) = ask_retimed m id later (id_from c target) what
act_retimed m id now later c End = refl

act_at : (m : Machine) (clocks : List ℕ) (t : Found) → act_of m (at_clocks clocks t) ≡ retimed (slice_index clocks t.declared.cpu) (act_of m t)
act_at m clocks t = act_retimed m t.declared.id t.clock (slice_index clocks t.declared.cpu) t.now.context (instruction t)

runs_later : (now : ℕ) (a : Act) → runs_alone a ≡ true → runs_alone (retimed now a) ≡ true
runs_later now RunsAlone h = refl
runs_later now (Sends send) h = cc
runs_later now (Receives receive) h = cc
runs_later now (Orders order) h = cc

sends_later : (now : ℕ) (a : Act) (send : Send) → send_of a ≡ Some send → is_some (send_of (retimed now a)) ≡ true
sends_later now RunsAlone send h = cc
sends_later now (Sends x) send h = refl
sends_later now (Receives receive) send h = cc
sends_later now (Orders order) send h = cc

receives_later : (now : ℕ) (a : Act) → receive_of (retimed now a) ≡ receive_of a
receives_later now RunsAlone = refl
receives_later now (Sends send) = refl
receives_later now (Receives receive) = refl
receives_later now (Orders order) = refl

orders_later : (now : ℕ) (a : Act) → order_of (retimed now a) ≡ order_of a
orders_later now RunsAlone = refl
orders_later now (Sends send) = refl
orders_later now (Receives receive) = refl
orders_later now (Orders order) = refl

-- a period that has passed
pub passed_later : (period : Period) (since now later : ℕ) → now ≤ later → has_passed period since now ≡ true → has_passed period since later ≡ true
passed_later None since now later le h = cc
passed_later (Some n) since now later le h = le-leb (since + n) later (omega (arith, leb-true (since + n) now h))

-- Each clock is at least what it was.
abbrev pub AreLater : List ℕ → List ℕ → Type 0
AreLater clocks later = (i : ℕ) → slice_index clocks i ≤ slice_index later i

goes_on_from : {A B : Type 0} (o : Option A) (f : A → B) → is_some o ≡ true → is_some (o >>= λ x. Some (f x)) ≡ true
goes_on_from None f h = cc
goes_on_from (Some x) f h = refl

timed_out_later : (m : Machine) (w : World) (s : Name) (later : List ℕ) (p : Pending) → undecided m w s ≡ Some p → AreLater w.clocks later →
    is_timed_out m w p ≡ true → is_timed_out m (with_clocks w later) (pending_at later p) ≡ true
timed_out_later m w s later p is le h =
    let both = and_true (has_passed p.send.period p.send.since p.sender.clock) _ h in
    let clock : p.sender.clock ≡ slice_index w.clocks p.sender.declared.cpu = (known_send m w s p is).sender.clock in
    let passed : has_passed p.send.period p.send.since (slice_index later p.sender.declared.cpu) ≡ true =
    passed_later p.send.period p.send.since p.sender.clock (slice_index later p.sender.declared.cpu) (omega (arith, clock, le p.sender.declared.cpu)) both.0 in
    rw (passed, found_by_later m w later p.send.to, refusable_later m p.send later (receiver_of m w p)) both.1

receive_passed_later : (t : Found) (later : List ℕ) (phase : Phase) → t.clock ≤ slice_index later t.declared.cpu → receive_passed t phase ≡ true → receive_passed (at_clocks later t) phase ≡ true
receive_passed_later t later Ready le h = cc
receive_passed_later t later Sending le h = cc
receive_passed_later t later (Receiving receive since) le h = passed_later receive.period since t.clock (slice_index later t.declared.cpu) le h
receive_passed_later t later Ordering le h = cc
receive_passed_later t later Ended le h = cc
receive_passed_later t later Deleted le h = cc

-- What may fail may fail later.

may_fail_later : (m : Machine) (w : World) (later : List ℕ) (id : GlobalId) (t : Found) (receive : Receive)
    (why : Failure) → found m w id ≡ Some t → AreLater w.clocks later → may_fail m w t receive why ≡ true →
    may_fail m (with_clocks w later) (at_clocks later t) receive why ≡ true
may_fail_later m w later id t receive TimeOver is le h =
    let both = and_true (receive_passed t t.now.phase) _ h in
    let clock : t.clock ≤ slice_index later t.declared.cpu =
    omega (arith, (known m w id t is).clock, le t.declared.cpu) in
    rw (receive_passed_later t later t.now.phase clock both.0) both.1
may_fail_later m w later id t receive NobodyThere is le h =
    rw (found_by_later m w later receive.from, nobody_later receive.from later (found_by m w receive.from)) h
may_fail_later m w later id t receive CancelAsked is le h = h

may_refuse_later : (m : Machine) (w : World) (later : List ℕ) (s : Name) (p : Pending) (why : Failure) →
    undecided m w s ≡ Some p → AreLater w.clocks later → may_refuse m w s p why ≡ true →
    may_refuse m (with_clocks w later) s (pending_at later p) why ≡ true
may_refuse_later m w later s p TimeOver is le h =
    let both = and_true (is_timed_out m w p) _ h in
    rw (timed_out_later m w s later p is le both.0) both.1
may_refuse_later m w later s p NobodyThere is le h =
    rw (found_by_later m w later p.send.to, no_destination_later p.send.to later (receiver_of m w p)) h
may_refuse_later m w later s p CancelAsked is le h = h

-- A step that is possible stays so.
pub possible_later : (m : Machine) (w v : World) (later : List ℕ) (step : Step) → is_tick step ≡ false →
    AreLater w.clocks later → next m w step ≡ Some v → is_some (next m (with_clocks w later) step) ≡ true
possible_later m w v later (OfThread Runs id) not_tick le h =
    let k = local_taken m w v id h in
    let now : ℕ = slice_index later k.t.declared.cpu in
    let alone : runs_alone (act_of m (at_clocks later k.t)) ≡ true =
    rw (act_at m later k.t) (runs_later now (act_of m k.t) k.alone) in
    rw (found_is m w later id k.t k.found, k.ready, alone)
possible_later m w v later (OfThread Waits id) not_tick le h =
    let k = wait_taken m w v id h in
    let now : ℕ = slice_index later k.t.declared.cpu in
    let receiving : receive_of (act_of m (at_clocks later k.t)) ≡ Some k.receive =
    rw (act_at m later k.t) (receives_later now (act_of m k.t) ∙ k.receiving) in
    rw (found_is m w later id k.t k.found, k.ready, receiving)
possible_later m w v later (OfThread (Fails why) id) not_tick le h =
    let k = receive_failed m w v id why h in
    rw (found_is m w later id k.t k.found, k.receiving, may_fail_later m w later id k.t k.receive why k.found le k.may)
possible_later m w v later (OfThread Obeys id) not_tick le h =
    let k = obey_taken m w v id h in
    rw (found_is m w later id k.t k.found, k.ordered, k.target_is)
possible_later m w v later (OfSend Begun s) not_tick le h =
    let k = begin_taken m w v s h in
    let now : ℕ = slice_index later k.t.declared.cpu in
    let sends : is_some (send_of (act_of m (at_clocks later k.t))) ≡ true =
    rw (act_at m later k.t) (sends_later now (act_of m k.t) k.send k.sends) in
    rw (found_is m w later s.thread k.t k.found, k.ready, k.next_k)
    (goes_on_from (send_of (act_of m (at_clocks later k.t))) _ sends)
possible_later m w v later (OfSend Queued s) not_tick le h =
    let k = queue_taken m w v s h in
    rw (undecided_is m w later s k.p k.is_undecided, receiver_is m w later k.p k.r k.to, k.alive, k.in_no_list, k.free)
possible_later m w v later (OfSend (Failed why) s) not_tick le h =
    let k = send_failed m w v s why h in
    rw (undecided_is m w later s k.p k.is_undecided, may_refuse_later m w later s k.p why k.is_undecided le k.may)
possible_later m w v later (OfSend Dropped s) not_tick le h =
    let k = drop_taken m w v s h in
    rw (undecided_is m w later s k.p k.is_undecided, k.in_list, k.gone)
possible_later m w v later (OfSend Retargeted s) not_tick le h =
    let k = retarget_taken m w v s h in
    rw (k.is_owed, found_is m w later k.o.originator k.t k.found)
possible_later m w v later (Deliver s receiver shown actual tag words) not_tick le h =
    let k = deliver_taken m w v s receiver shown actual tag words h in
    rw (
      undecided_is m w later s k.p k.is_undecided,
      receiver_is m w later k.p k.r k.to,
      k.receiving,
      k.first_is,
      k.is_first,
      k.same_receiver,
      k.same_shown,
      k.same_actual,
      k.same_tag,
      k.same_words,
    )
possible_later m w v later (Order caller target what) not_tick le h =
    let k = order_taken m w v caller target what h in
    let now : ℕ = slice_index later k.t.declared.cpu in
    let ordered : order_of (act_of m (at_clocks later k.t)) ≡ Some k.order =
    rw (act_at m later k.t) (orders_later now (act_of m k.t) ∙ k.ordered) in
    rw (found_is m w later caller k.t k.found, k.ready, ordered, k.same_order)
possible_later m w v later (Tick cpu clock) not_tick le h = cc
