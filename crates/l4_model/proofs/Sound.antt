-- What is true of each thread: its phase goes with its undecided send and its undone order, and the rest of `ThreadFacts`.
use Rattle.std.proofs.Common.{subst, ◌≡◌, ℕ, ◌+◌, ◌<◌, ◌≤◌, true, false, Option, Some, None, List, ◌∷◌, ◌++◌, length, drop, refl, ap, sym, ◌∙◌, arith, ⊎_elim}
use Rattle.std.proofs.lemmas.Bool.{or_cases}
use Rattle.std.proofs.lemmas.List.{length-set, length-append, length-drop}
use Rattle.std.specs.Prelude.{is_some, IfSome}
use Rattle.std.specs.Option.{option_map}
use Rattle.l4_model.specs.Words.{GlobalId}
use Rattle.l4_model.specs.Machine.{Machine, Declaration, Instr, Run, Ipc, Ask, End, OrderKind, CancelSend, CancelReceive, CancelBoth, Delete, is_declared, instruction_at}
use Rattle.l4_model.specs.World.{Context, Thread, World, Message, Send, Receive, PendingOrder, Owed, Phase, Ready, Sending, Receiving, Ordering, Ended, Deleted, opening, is_alive, is_ready, is_sending, is_deleted, receive_now}
use Rattle.l4_model.specs.Rules.{act, ran, received_tag}
use Rattle.l4_model.specs.Steps.{Step, send_of, next}
use Rattle.l4_model.specs.Effects.{phase_after, runs, begins, waits, fails, decided, refused, receives, goes_on, delivered, has_receive_phase, asked, asked_send, asked_receive, orders, obeyed, calls_to_receive, turned_receive, turned_send, turns_in, turns}
use Rattle.l4_model.specs.Reached.{Suits, BeganBy, IsSendOf, ThreadFacts}
use Rattle.l4_model.proofs.Chains.{cond_keeps}
use Rattle.l4_model.proofs.Own.{own_sets}
use Rattle.l4_model.proofs.Requests.{act_request, message_short, shown_declared}
use Rattle.l4_model.proofs.Keeping.{Each, Maintained, step_each, opening_each}

-- a ready or a receiving thread has no send and no order, and a ready one no wish
pub ready_has_none : (p : Phase) (send : Option Send) (order : Option PendingOrder) → is_ready p ≡ true → Suits p send order → (send ≡ None) × (order ≡ None)
ready_has_none Ready send order h s = s
ready_has_none Sending send order h s = cc
ready_has_none (Receiving receive since) send order h s = cc
ready_has_none Ordering send order h s = cc
ready_has_none Ended send order h s = cc
ready_has_none Deleted send order h s = cc

pub receiving_has_none : (p : Phase) (send : Option Send) (order : Option PendingOrder) (receive : Receive) → receive_now p ≡ Some receive → Suits p send order → (send ≡ None) × (order ≡ None)
receiving_has_none Ready send order receive h s = cc
receiving_has_none Sending send order receive h s = cc
receiving_has_none (Receiving r since) send order receive h s = s
receiving_has_none Ordering send order receive h s = cc
receiving_has_none Ended send order receive h s = cc
receiving_has_none Deleted send order receive h s = cc

no_receive_phase : {P : Type 0} (p : Phase) (send : Option Send) → is_ready p ≡ true → has_receive_phase p send ≡ true → P
no_receive_phase Ready send h r = cc
no_receive_phase Sending send h r = cc
no_receive_phase (Receiving receive since) send h r = cc
no_receive_phase Ordering send h r = cc
no_receive_phase Ended send h r = cc
no_receive_phase Deleted send h r = cc

-- a thread that is alive and has an undecided send has no order, and one with an order no send and no receive phase
sender_has_no_order : (p : Phase) (send : Send) (order : Option PendingOrder) → is_alive p ≡ true → Suits p (Some send) order → order ≡ None
sender_has_no_order Ready send order h s = cc
sender_has_no_order Sending send order h s = s.1
sender_has_no_order (Receiving receive since) send order h s = cc
sender_has_no_order Ordering send order h s = cc
sender_has_no_order Ended send order h s = cc
sender_has_no_order Deleted send order h s = cc

caller_has_none : (p : Phase) (send : Option Send) (order : PendingOrder) → is_alive p ≡ true → Suits p send (Some order) → (send ≡ None) × (has_receive_phase p send ≡ false)
caller_has_none Ready send order h s = cc
caller_has_none Sending send order h s = cc
caller_has_none (Receiving receive since) send order h s = cc
caller_has_none Ordering send order h s = (s.0, refl)
caller_has_none Ended send order h s = cc
caller_has_none Deleted send order h s = cc

-- a deleted thread may have both
suits_deleted : (p : Phase) (send : Option Send) (order : Option PendingOrder) → is_alive p ≡ false → Suits p send order
suits_deleted Ready send order h = cc
suits_deleted Sending send order h = cc
suits_deleted (Receiving receive since) send order h = cc
suits_deleted Ordering send order h = cc
suits_deleted Ended send order h = cc
suits_deleted Deleted send order h = tt

suits_gone : (p : Phase) (send : Option Send) (order : Option PendingOrder) → is_deleted p ≡ true → Suits p send order
suits_gone Ready send order h = cc
suits_gone Sending send order h = cc
suits_gone (Receiving receive since) send order h = cc
suits_gone Ordering send order h = cc
suits_gone Ended send order h = cc
suits_gone Deleted send order h = tt

-- An instruction leaves as many registers as there were.
registers_ran : (i : Instr) (c : Context) → length (ran i c).words ≡ length c.words
registers_ran (Run own) c = own_sets (λ words. length words ≡ length c.words) own c refl (length-set c.words)
registers_ran (Ipc to from send_period receive_period) c = length-set c.words 0 0
registers_ran (Ask target what) c = refl
registers_ran End c = refl

registers_received : (message : Message) (mr0 : ℕ) (words : List ℕ) → length message.words < 64 → length words ≡ 64 → length (mr0 ∷ message.words ++ drop (1 + length message.words) words) ≡ 64
registers_received message mr0 words short all =
    omega (arith, length-append (mr0 ∷ message.words) (drop (1 + length message.words) words), length-drop (1 + length message.words) words)

-- no wish is left
no_wish : {P : Type 0} → false ≡ true → P
no_wish h = cc

-- each change of a thread keeps it
run_keeps : (m : Machine) (d : Declaration) (now : ℕ) (i : Instr) (t : Thread) → is_ready t.phase ≡ true → ThreadFacts m d now t → ThreadFacts m d now (runs i t)
run_keeps m d now i t ready h =
    record {
      suits = suits i (ready_has_none t.phase t.send t.order ready h.suits);
      send = h.send;
      began = began i;
      send_wish = h.send_wish;
      receive_wish = λ wish. no_receive_phase t.phase t.send ready (h.receive_wish wish);
      registers = registers_ran i t.context ∙ h.registers;
    }
  where
    suits : (i : Instr) → (t.send ≡ None) × (t.order ≡ None) → Suits (phase_after i) t.send t.order
    suits End none = none
    suits _ none = none

    began : (i : Instr) → BeganBy now (phase_after i)
    began End = tt
    began _ = tt

begin_keeps : (m : Machine) (d : Declaration) (now : ℕ) (t : Thread) (send : Send) → is_declared m d.id ≡ true → is_ready t.phase ≡ true →
    send_of (act m d.id now t.context (instruction_at d.script t.context.place)) ≡ Some send → ThreadFacts m d now t → ThreadFacts m d now (begins send t)
begin_keeps m d now t send declared ready sends h =
    let asks = act_request m d.id now t.context (instruction_at d.script t.context.place) send sends in
    record {
      suits = (refl, (ready_has_none t.phase t.send t.order ready h.suits).1);
      send = record {
        since = omega (arith, asks.since);
        actual = ap (λ (x : Message). x.actual) (sym asks.message);
        shown = ap (λ (x : Message). is_declared m x.shown) (sym asks.message) ∙ shown_declared m d.id t.context declared;
        short = subst (λ (x : Message). length x.words < 64) asks.message (message_short m d.id t.context);
      };
      began = tt;
      send_wish = λ wish. refl;
      receive_wish = λ wish. no_receive_phase t.phase t.send ready (h.receive_wish wish);
      registers = h.registers;
    }

wait_keeps : (m : Machine) (d : Declaration) (now : ℕ) (t : Thread) (receive : Receive) → is_ready t.phase ≡ true → ThreadFacts m d now t → ThreadFacts m d now (waits receive now t)
wait_keeps m d now t receive ready h =
    record { suits = ready_has_none t.phase t.send t.order ready h.suits; send = h.send; began = omega arith; send_wish = h.send_wish; receive_wish = λ wish. refl; registers = h.registers }

order_keeps : (m : Machine) (d : Declaration) (now : ℕ) (t : Thread) (order : PendingOrder) → is_ready t.phase ≡ true → ThreadFacts m d now t → ThreadFacts m d now (orders order t)
order_keeps m d now t order ready h =
    record {
      suits = ((ready_has_none t.phase t.send t.order ready h.suits).0, refl);
      send = h.send;
      began = tt;
      send_wish = h.send_wish;
      receive_wish = λ wish. no_receive_phase t.phase t.send ready (h.receive_wish wish);
      registers = h.registers;
    }

failure_keeps : (m : Machine) (d : Declaration) (now : ℕ) (t : Thread) (code : ℕ) (receive : Receive) → receive_now t.phase ≡ Some receive → ThreadFacts m d now t → ThreadFacts m d now (fails code t)
failure_keeps m d now t code receive receiving h =
    cond_keeps (ThreadFacts m d now) (is_alive t.phase) _ t
    (λ alive. record {
      suits = receiving_has_none t.phase t.send t.order receive receiving h.suits;
      send = h.send;
      began = tt;
      send_wish = h.send_wish;
      receive_wish = λ wish. no_wish wish;
      registers = length-set t.context.words 0 0x8000 ∙ h.registers;
    })
    (λ gone. h)

decided_gone : (m : Machine) (d : Declaration) (now : ℕ) (t : Thread) → Suits t.phase None t.order → ThreadFacts m d now t → ThreadFacts m d now (decided t)
decided_gone m d now t suits h = record { suits = suits; send = tt; began = h.began; send_wish = λ wish. no_wish wish; receive_wish = λ wish. no_wish wish; registers = h.registers }

sender_none : (t : Thread) (send : Send) → t.send ≡ Some send → is_alive t.phase ≡ true → Suits t.phase t.send t.order → t.order ≡ None
sender_none t send has alive h = sender_has_no_order t.phase send t.order alive (rw has at h)

refusal_keeps : (m : Machine) (d : Declaration) (now : ℕ) (t : Thread) (code : ℕ) (send : Send) → t.send ≡ Some send → ThreadFacts m d now t → ThreadFacts m d now (refused code t)
refusal_keeps m d now t code send has h =
    cond_keeps (ThreadFacts m d now) (is_alive t.phase) _ (decided t)
    (λ alive. record {
      suits = (refl, sender_none t send has alive h.suits);
      send = tt;
      began = tt;
      send_wish = λ wish. no_wish wish;
      receive_wish = λ wish. no_wish wish;
      registers = length-set t.context.words 0 0x8000 ∙ h.registers;
    })
    (λ gone. decided_gone m d now t (suits_deleted t.phase None t.order gone) h)

receipt_keeps : (m : Machine) (d sd : Declaration) (now sender_now : ℕ) (t sender : Thread) (receive : Receive) (send : Send) (tag : ℕ) → receive_now t.phase ≡ Some receive →
    sender.send ≡ Some send → ThreadFacts m sd sender_now sender → ThreadFacts m d now t → ThreadFacts m d now (receives send.message tag t)
receipt_keeps m d sd now sender_now t sender receive send tag receiving has sent h =
    let its : IsSendOf m sd.id sender_now send = rw has at sent.send in
    record {
      suits = receiving_has_none t.phase t.send t.order receive receiving h.suits;
      send = h.send;
      began = tt;
      send_wish = h.send_wish;
      receive_wish = λ wish. no_wish wish;
      registers = registers_received send.message tag t.context.words its.short h.registers;
    }

goes_on_keeps : (m : Machine) (d : Declaration) (now : ℕ) (t : Thread) (receive : Option Receive) → t.order ≡ None → ThreadFacts m d now t → ThreadFacts m d now (goes_on receive now t)
goes_on_keeps m d now t None none h =
    record { suits = (refl, none); send = tt; began = tt; send_wish = λ wish. no_wish wish; receive_wish = λ wish. no_wish wish; registers = length-set t.context.words 0 0 ∙ h.registers }
goes_on_keeps m d now t (Some receive) none h =
    record { suits = (refl, none); send = tt; began = omega arith; send_wish = λ wish. no_wish wish; receive_wish = λ wish. refl; registers = h.registers }

delivery_keeps : (m : Machine) (d : Declaration) (now : ℕ) (t : Thread) (send : Send) → t.send ≡ Some send → ThreadFacts m d now t → ThreadFacts m d now (delivered send now t)
delivery_keeps m d now t send has h =
    cond_keeps (ThreadFacts m d now) (is_alive t.phase) _ (decided t)
    (λ alive. goes_on_keeps m d now t send.receive (sender_none t send has alive h.suits) h)
    (λ gone. decided_gone m d now t (suits_deleted t.phase None t.order gone) h)

sending_has_one : (p : Phase) (send : Option Send) (order : Option PendingOrder) → is_sending p ≡ true → Suits p send order → is_some send ≡ true
sending_has_one Ready send order h s = cc
sending_has_one Sending send order h s = s.0
sending_has_one (Receiving receive since) send order h s = cc
sending_has_one Ordering send order h s = cc
sending_has_one Ended send order h s = cc
sending_has_one Deleted send order h s = cc

asked_send_keeps : (m : Machine) (d : Declaration) (now : ℕ) (t : Thread) → ThreadFacts m d now t → ThreadFacts m d now (asked_send t)
asked_send_keeps m d now t h =
    record {
      suits = h.suits;
      send = h.send;
      began = h.began;
      send_wish = λ wish. ⊎_elim h.send_wish (λ sending. sending_has_one t.phase t.send t.order sending h.suits) (or_cases t.cancel_send (is_sending t.phase) wish);
      receive_wish = h.receive_wish;
      registers = h.registers;
    }

asked_receive_keeps : (m : Machine) (d : Declaration) (now : ℕ) (t : Thread) → ThreadFacts m d now t → ThreadFacts m d now (asked_receive t)
asked_receive_keeps m d now t h =
    record {
      suits = h.suits;
      send = h.send;
      began = h.began;
      send_wish = h.send_wish;
      receive_wish = λ wish. ⊎_elim h.receive_wish (λ has. has) (or_cases t.cancel_receive (has_receive_phase t.phase t.send) wish);
      registers = h.registers;
    }

asked_keeps : (m : Machine) (d : Declaration) (now : ℕ) (t : Thread) (what : OrderKind) → ThreadFacts m d now t → ThreadFacts m d now (asked what t)
asked_keeps m d now t CancelSend h = asked_send_keeps m d now t h
asked_keeps m d now t CancelReceive h = asked_receive_keeps m d now t h
asked_keeps m d now t CancelBoth h = asked_receive_keeps m d now (asked_send t) (asked_send_keeps m d now t h)
asked_keeps m d now t Delete h = record { suits = tt; send = h.send; began = tt; send_wish = h.send_wish; receive_wish = λ wish. no_wish wish; registers = h.registers }

obedience_keeps : (m : Machine) (d : Declaration) (now : ℕ) (t : Thread) (order : PendingOrder) → t.order ≡ Some order → ThreadFacts m d now t → ThreadFacts m d now (obeyed t)
obedience_keeps m d now t order has h =
    cond_keeps (ThreadFacts m d now) (is_alive t.phase) _ _
    (λ alive.
    let none = caller_has_none t.phase t.send order alive (rw has at h.suits) in
    record { suits = (none.0, refl); send = h.send; began = tt; send_wish = h.send_wish; receive_wish = λ wish. no_wish (sym none.1 ∙ h.receive_wish wish); registers = h.registers })
    (λ gone. record { suits = suits_deleted t.phase t.send None gone; send = h.send; began = h.began; send_wish = h.send_wish; receive_wish = h.receive_wish; registers = h.registers })

-- a send that turns to another partner has the same message, and a receive phase where it had one
suits_turned : (o : Owed) (p : Phase) (send : Option Send) (order : Option PendingOrder) → Suits p send order → Suits p (option_map (turned_send o) send) order
suits_turned o Ready send order s = (ap (option_map (turned_send o)) s.0, s.1)
suits_turned o Sending None order s = s
suits_turned o Sending (Some send) order s = (refl, s.1)
suits_turned o (Receiving receive since) send order s = (ap (option_map (turned_send o)) s.0, s.1)
suits_turned o Ordering send order s = (ap (option_map (turned_send o)) s.0, s.1)
suits_turned o Ended send order s = (ap (option_map (turned_send o)) s.0, s.1)
suits_turned o Deleted send order s = tt

send_turned : (m : Machine) (id : GlobalId) (now : ℕ) (o : Owed) (send : Option Send) → IfSome send (IsSendOf m id now) → IfSome (option_map (turned_send o) send) (IsSendOf m id now)
send_turned m id now o None s = tt
send_turned m id now o (Some send) s = record { since = s.since; actual = s.actual; shown = s.shown; short = s.short }

some_turned : (o : Owed) (send : Option Send) → is_some send ≡ true → is_some (option_map (turned_send o) send) ≡ true
some_turned o None s = cc
some_turned o (Some send) s = refl

calls_turned : (o : Owed) (send : Option Send) → calls_to_receive send ≡ true → calls_to_receive (option_map (turned_send o) send) ≡ true
calls_turned o None s = cc
calls_turned o (Some send) s = by send.receive s
  where
    by : (r : Option Receive) → is_some r ≡ true → is_some (option_map (turned_receive o) r) ≡ true
    by None s = cc
    by (Some receive) s = refl

phase_turned : (o : Owed) (p : Phase) (send : Option Send) → has_receive_phase p send ≡ true → has_receive_phase p (option_map (turned_send o) send) ≡ true
phase_turned o Ready send h = cc
phase_turned o Sending send h = calls_turned o send h
phase_turned o (Receiving receive since) send h = refl
phase_turned o Ordering send h = cc
phase_turned o Ended send h = cc
phase_turned o Deleted send h = cc

turn_keeps : (m : Machine) (d : Declaration) (now : ℕ) (t : Thread) (o : Owed) → ThreadFacts m d now t → ThreadFacts m d now (turns o t)
turn_keeps m d now t o h = by t.phase refl
  where
    by : (p : Phase) → t.phase ≡ p → ThreadFacts m d now (turns_in p o t)
    by Ready is = h
    by Sending is = record {
      suits = suits_turned o t.phase t.send t.order h.suits;
      send = send_turned m d.id now o t.send h.send;
      began = h.began;
      send_wish = λ wish. some_turned o t.send (h.send_wish wish);
      receive_wish = λ wish. phase_turned o t.phase t.send (h.receive_wish wish);
      registers = h.registers;
    }
    by (Receiving receive since) is = record {
      suits = subst (λ p. Suits p t.send t.order) is h.suits;
      send = h.send;
      began = subst (BeganBy now) is h.began;
      send_wish = h.send_wish;
      receive_wish = λ wish. refl;
      registers = h.registers;
    }
    by Ordering is = h
    by Ended is = h
    by Deleted is = h

tick_keeps : (m : Machine) (d : Declaration) (now later : ℕ) (t : Thread) → now ≤ later → ThreadFacts m d now t → ThreadFacts m d later t
tick_keeps m d now later t le h =
    record { suits = h.suits; send = sent t.send h.send; began = began t.phase h.began; send_wish = h.send_wish; receive_wish = h.receive_wish; registers = h.registers }
  where
    sent : (o : Option Send) → IfSome o (IsSendOf m d.id now) → IfSome o (IsSendOf m d.id later)
    sent None s = tt
    sent (Some send) s = record { since = omega (arith, s.since); actual = s.actual; shown = s.shown; short = s.short }

    began : (p : Phase) → BeganBy now p → BeganBy later p
    began (Receiving receive since) b = omega arith
    began _ b = tt

facts_kept : (m : Machine) → Maintained m (ThreadFacts m)
facts_kept m =
    record {
      at_run = λ d now t. run_keeps m d now (instruction_at d.script t.context.place) t;
      at_begin = begin_keeps m;
      at_wait = wait_keeps m;
      at_order = order_keeps m;
      at_failure = failure_keeps m;
      at_refusal = refusal_keeps m;
      at_drop = λ d now t gone h. decided_gone m d now t (suits_gone t.phase None t.order gone) h;
      at_receipt = λ d sd now sender_now t sender receive send cross. receipt_keeps m d sd now sender_now t sender receive send (received_tag cross send.message);
      at_delivery = delivery_keeps m;
      at_asked = asked_keeps m;
      at_obedience = obedience_keeps m;
      at_turn = turn_keeps m;
      at_tick = tick_keeps m;
    }

abbrev pub AreSound : Machine → World → Type 0
AreSound m w = Each m (ThreadFacts m) w

pub opening_sound : (m : Machine) → AreSound m (opening m)
opening_sound m = opening_each m (ThreadFacts m) (λ d now. record { suits = (refl, refl); send = tt; began = tt; send_wish = λ wish. no_wish wish; receive_wish = λ wish. no_wish wish; registers = refl })

pub step_sound : (m : Machine) (w v : World) (step : Step) → next m w step ≡ Some v → AreSound m w → AreSound m v
step_sound m w v step h sound = step_each m (ThreadFacts m) w v step (facts_kept m) h sound
