-- What each step does to one thread.
use Rattle.std.specs.Prelude.{ℕ, ◌+◌, Bool, if◌then◌else◌, false, option_map, Option, Some, None, is_some, true, ◌||◌}
use Rattle.l4_model.specs.Machine.{OrderKind, CancelSend, CancelReceive, CancelBoth, Delete, Instr, End}
use Rattle.l4_model.specs.Words.{GlobalThread, is_id_of}
use Rattle.l4_model.specs.World.{Receive, Message, Send, PendingOrder, Owed, Phase, Ready, Sending, Receiving, Ordering, Ended, Deleted, Thread, is_sending, is_alive}
use Rattle.l4_model.specs.Rules.{advanced, failed, sent, received, ordered, ran}

-- At an `end` a thread has ended.
abbrev pub phase_after : Instr → Phase
phase_after End = Ended
phase_after _ = Ready

-- It runs an instruction that concerns nobody else.
abbrev pub runs : Instr → Thread → Thread
runs i t = record t { context = ran i t.context; phase = phase_after i }

-- It begins a send (manual: Ipc, send phase).
abbrev pub begins : Send → Thread → Thread
begins send t = record t {
  context = record (advanced t.context) { begun = t.context.begun + 1 };
  phase = Sending;
  send = Some send;
}

-- It begins a receive phase without a send (manual: Ipc, receive phase).
abbrev pub waits : Receive → (now : ℕ) → Thread → Thread
waits receive now t = record t { context = advanced t.context; phase = Receiving receive now }

-- Its ipc has failed (manual: Ipc). A deleted thread stays as it is (own).
abbrev pub fails : ℕ → Thread → Thread
fails code t = if is_alive t.phase then record t {
  context = failed code t.context;
  phase = Ready;
  cancel_receive = false;
} else t

-- Its send is decided, and no receive phase follows: no wish is left.
abbrev pub decided : Thread → Thread
decided t = record t { send = None; cancel_send = false; cancel_receive = false }

abbrev pub refused : ℕ → Thread → Thread
refused code t = fails code (decided t)

-- It receives a message (manual: Ipc, receive phase).
abbrev pub receives : Message → (tag : ℕ) → Thread → Thread
receives message tag t = record t {
  context = received message tag t.context;
  phase = Ready;
  cancel_receive = false;
}

-- Its send was delivered. A call's receive phase begins at once (manual: Ipc, the switch from the
-- one phase to the other is atomic) and keeps a wish `R` (own). Otherwise the ipc has ended.
abbrev pub goes_on : Option Receive → (now : ℕ) → Thread → Thread
goes_on (Some receive) now t = record t {
  phase = Receiving receive now;
  send = None;
  cancel_send = false;
}
goes_on None now t = record (decided t) { context = sent t.context; phase = Ready }

abbrev pub delivered : Send → (now : ℕ) → Thread → Thread
delivered send now t = if is_alive t.phase then goes_on send.receive now t else decided t

abbrev pub calls_to_receive : Option Send → Bool
calls_to_receive None = false
calls_to_receive (Some send) = is_some send.receive

abbrev pub has_receive_phase : Phase → Option Send → Bool
has_receive_phase (Receiving receive since) send = true
has_receive_phase Sending send = calls_to_receive send
has_receive_phase _ send = false

-- An order to cancel it is done (manual: ExchangeRegisters, `S` and `R`). Own: `S` leaves a wish in
-- a send phase; `R` leaves one in a receive phase and in the send phase of a call. Else there is no
-- effect.

abbrev pub asked_send : Thread → Thread
asked_send t = record t { cancel_send = t.cancel_send || is_sending t.phase }

abbrev pub asked_receive : Thread → Thread
asked_receive t = record t { cancel_receive = t.cancel_receive || has_receive_phase t.phase t.send }

-- An order to cancel it or to delete it (manual: ThreadControl) is done. Own: a deleted thread's
-- registers stay, and its send goes on.
abbrev pub asked : OrderKind → Thread → Thread
asked CancelSend t = asked_send t
asked CancelReceive t = asked_receive t
asked CancelBoth t = asked_receive (asked_send t)
asked Delete t = record t { phase = Deleted; cancel_receive = false }

-- It is the originator of a propagated message that was delivered (own, profile 2). Its current
-- receive phase, or the one after its send phase, turns to the new partner if it named the old one
-- alone. Nothing else changes, and nothing where it is deleted.

abbrev pub turned_receive : Owed → Receive → Receive
turned_receive o receive = if is_id_of receive.from o.old_partner
    then record receive { from = GlobalThread o.new_partner } else receive

abbrev pub turned_send : Owed → Send → Send
turned_send o send = record send { receive = option_map (turned_receive o) send.receive }

abbrev pub turns_in : Phase → Owed → Thread → Thread
turns_in (Receiving receive since) o t = record t {
  phase =
      Receiving (turned_receive o receive) since;
}
turns_in Sending o t = record t { send = option_map (turned_send o) t.send }
turns_in _ o t = t

abbrev pub turns : Owed → Thread → Thread
turns o t = turns_in t.phase o t

-- It has given an order, and waits until it is done.
abbrev pub orders : PendingOrder → Thread → Thread
orders order t = record t { phase = Ordering; order = Some order }

-- The order that it gave is done.
abbrev pub obeyed : Thread → Thread
obeyed t = if is_alive t.phase then record t {
  context = ordered 0 t.context;
  phase = Ready;
  order = None;
} else record t { order = None }
