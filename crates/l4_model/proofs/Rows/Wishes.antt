-- Worked rows: what a cancellation is worth, and how long.
use Rattle.std.specs.Prelude.{◌≡◌, Some, None, List, [], ◌∷◌, refl}
use Rattle.l4_model.specs.Words.{NilThread, AnyThread, period_of}
use Rattle.l4_model.specs.Machine.{Machine, Fixed, Last, CancelSend, CancelReceive, CancelBoth, Delete, Ipc, Ask, machine_of}
use Rattle.l4_model.specs.Steps.{Step, Local, Begin, Queue, Deliver, Wait, SendTimeout, ReceiveNobody, SendCancel, ReceiveCancel, Order, Obey, Tick}
use Rattle.l4_model.specs.History.{refused_place, IsReady, IsSending, IsOrdering, IsEnded, IsDeleted}
use Rattle.l4_model.proofs.Rows.Writing.{thread, id, send, sends, receives, declared, ends, quiet, spent, reports, report}
use Rattle.l4_model.proofs.Rows.Orders.{cancels}

-- A wish to cancel a send goes with the send.
abbrev pub sends_twice : Machine
sends_twice = machine_of 1 (
    declared 1 0 1 (sends 3 ∷ sends 3 ∷ [])
    ∷ declared 2 0 1 (Ask (Fixed (id 1)) CancelSend ∷ [])
    ∷ declared 3 0 2 (receives ∷ []) ∷ [])

wish_is_gone : refused_place sends_twice (
    Begin (send 1 1)
    ∷ Queue (send 1 1)
    ∷ Order (thread 2) (thread 1) CancelSend
    ∷ Obey (thread 2)
    ∷ Wait (thread 3)
    ∷ Deliver (send 1 1) (thread 3) (thread 1) (thread 1) 0 []
    ∷ Begin (send 1 2)
    ∷ Queue (send 1 2)
    ∷ SendCancel (send 1 2) ∷ []) ≡ Some 9
wish_is_gone = refl

-- Without a send phase it is without effect.
no_send_phase : refused_place sends_twice (
    Order (thread 2) (thread 1) CancelSend
    ∷ Obey (thread 2)
    ∷ Begin (send 1 1)
    ∷ Queue (send 1 1)
    ∷ SendCancel (send 1 1) ∷ []) ≡ Some 5
no_send_phase = refl

-- Nothing is cancelled without a wish, and a send not before it has arrived.
no_send_wish : refused_place sends_twice (
    Begin (send 1 1)
    ∷ Queue (send 1 1)
    ∷ SendCancel (send 1 1) ∷ []) ≡ Some 3
no_send_wish = refl

cancelled_not_arrived : refused_place sends_twice (
    Begin (send 1 1)
    ∷ Order (thread 2) (thread 1) CancelSend
    ∷ Obey (thread 2)
    ∷ SendCancel (send 1 1) ∷ []) ≡ Some 4
cancelled_not_arrived = refl

-- An order is told as it was given, where it was given, and obeyed once.
other_bits : refused_place sends_twice (
    Order (thread 2) (thread 1) CancelReceive ∷ []) ≡ Some 1
other_bits = refl

other_target : refused_place sends_twice (
    Order (thread 2) (thread 3) CancelSend ∷ []) ≡ Some 1
other_target = refl

obeyed_twice : refused_place sends_twice (
    Order (thread 2) (thread 1) CancelSend
    ∷ Obey (thread 2)
    ∷ Obey (thread 2) ∷ []) ≡ Some 3
obeyed_twice = refl

-- An undone order is not still.
abbrev pub undone_trace : List Step
undone_trace =
    Begin (send 1 1)
    ∷ Queue (send 1 1)
    ∷ Order (thread 2) (thread 1) CancelSend ∷ []

undone_ending : ends sends_twice undone_trace ≡ spent (((send 1 1), (id 3)) ∷ [])
undone_ending = refl

undone_view : reports sends_twice undone_trace ≡ Some (
    report 1 IsSending 0 NilThread NilThread (0 ∷ [])
    ∷ report 2 IsOrdering 0 NilThread NilThread (0 ∷ [])
    ∷ report 3 IsReady 0 NilThread NilThread (0 ∷ []) ∷ [])
undone_view = refl

-- A wish to cancel a receive phase goes with it.
abbrev pub receives_twice : Machine
receives_twice = machine_of 1 (
    declared 1 0 1 (receives ∷ receives ∷ [])
    ∷ declared 2 0 1 (Ask (Fixed (id 1)) CancelReceive ∷ [])
    ∷ declared 3 0 2 (sends 1 ∷ []) ∷ [])

receive_wish_is_gone : refused_place receives_twice (
    Wait (thread 1)
    ∷ Order (thread 2) (thread 1) CancelReceive
    ∷ Obey (thread 2)
    ∷ Begin (send 3 1)
    ∷ Queue (send 3 1)
    ∷ Deliver (send 3 1) (thread 1) (thread 3) (thread 3) 0 []
    ∷ Wait (thread 1)
    ∷ ReceiveCancel (thread 1) ∷ []) ≡ Some 8
receive_wish_is_gone = refl

no_receive_phase : refused_place receives_twice (
    Order (thread 2) (thread 1) CancelReceive
    ∷ Obey (thread 2)
    ∷ Wait (thread 1)
    ∷ ReceiveCancel (thread 1) ∷ []) ≡ Some 4
no_receive_phase = refl

no_receive_wish : refused_place receives_twice (
    Wait (thread 1)
    ∷ ReceiveCancel (thread 1) ∷ []) ≡ Some 2
no_receive_wish = refl

cancelled_once : refused_place receives_twice (
    Wait (thread 1)
    ∷ Order (thread 2) (thread 1) CancelReceive
    ∷ Obey (thread 2)
    ∷ ReceiveCancel (thread 1)
    ∷ Wait (thread 1)
    ∷ ReceiveCancel (thread 1) ∷ []) ≡ Some 6
cancelled_once = refl

receive_cancelled : refused_place receives_twice (
    Wait (thread 1)
    ∷ Order (thread 2) (thread 1) CancelReceive
    ∷ Obey (thread 2)
    ∷ ReceiveCancel (thread 1)
    ∷ Wait (thread 1) ∷ []) ≡ None
receive_cancelled = refl

-- A send without a receive phase has none to cancel.
abbrev pub sends_then_receives : Machine
sends_then_receives = machine_of 1 (
    declared 1 0 1 (sends 3 ∷ receives ∷ [])
    ∷ declared 2 0 1 (Ask (Fixed (id 1)) CancelReceive ∷ [])
    ∷ declared 3 0 2 (receives ∷ []) ∷ [])

later_receive_phase : refused_place sends_then_receives (
    Begin (send 1 1)
    ∷ Order (thread 2) (thread 1) CancelReceive
    ∷ Obey (thread 2)
    ∷ Queue (send 1 1)
    ∷ Wait (thread 3)
    ∷ Deliver (send 1 1) (thread 3) (thread 1) (thread 1) 0 []
    ∷ Wait (thread 1)
    ∷ ReceiveCancel (thread 1) ∷ []) ≡ Some 8
later_receive_phase = refl

-- A call that fails takes the wish to cancel its receive phase away.
abbrev pub call_that_fails : Machine
call_that_fails = machine_of 1 (
    declared 1 0 1 (Ipc (Fixed (id 3)) (Fixed AnyThread) (period_of 5) None ∷ receives ∷ [])
    ∷ declared 2 0 1 (Ask (Fixed (id 1)) CancelReceive ∷ [])
    ∷ declared 3 0 2 [] ∷ [])

wish_of_a_failed_call : refused_place call_that_fails (
    Begin (send 1 1)
    ∷ Queue (send 1 1)
    ∷ Order (thread 2) (thread 1) CancelReceive
    ∷ Obey (thread 2)
    ∷ Tick 0 5
    ∷ SendTimeout (send 1 1)
    ∷ Wait (thread 1)
    ∷ ReceiveCancel (thread 1) ∷ []) ≡ Some 8
wish_of_a_failed_call = refl

-- A delivered call takes the wish to cancel its send away.
abbrev pub calls_then_sends : Machine
calls_then_sends = machine_of 1 (
    declared 1 0 1 (Ipc (Fixed (id 3)) (Fixed (id 3)) None None ∷ sends 3 ∷ [])
    ∷ declared 2 0 1 (Ask (Fixed (id 1)) CancelSend ∷ [])
    ∷ declared 3 0 2 (receives ∷ Ipc Last (Fixed NilThread) None None ∷ []) ∷ [])

wish_of_a_delivered_call : refused_place calls_then_sends (
    Begin (send 1 1)
    ∷ Queue (send 1 1)
    ∷ Order (thread 2) (thread 1) CancelSend
    ∷ Obey (thread 2)
    ∷ Wait (thread 3)
    ∷ Deliver (send 1 1) (thread 3) (thread 1) (thread 1) 0 []
    ∷ Begin (send 3 1)
    ∷ Queue (send 3 1)
    ∷ Deliver (send 3 1) (thread 1) (thread 3) (thread 3) 0 []
    ∷ Begin (send 1 2)
    ∷ Queue (send 1 2)
    ∷ SendCancel (send 1 2) ∷ []) ≡ Some 12
wish_of_a_delivered_call = refl

-- Both bits at once.
abbrev pub both_wishes : Machine
both_wishes = machine_of 1 (
    declared 1 0 1 (Ipc (Fixed (id 3)) (Fixed (id 3)) None None ∷ [])
    ∷ declared 2 0 1 (Ask (Fixed (id 1)) CancelBoth ∷ [])
    ∷ declared 3 0 2 (receives ∷ []) ∷ [])

abbrev pub both_wishes_trace : List Step
both_wishes_trace =
    Begin (send 1 1)
    ∷ Queue (send 1 1)
    ∷ Order (thread 2) (thread 1) CancelBoth
    ∷ Obey (thread 2)
    ∷ Wait (thread 3)
    ∷ Deliver (send 1 1) (thread 3) (thread 1) (thread 1) 0 []
    ∷ ReceiveCancel (thread 1)
    ∷ Local (thread 1)
    ∷ Local (thread 2)
    ∷ Local (thread 3) ∷ []

both_wishes_ending : ends both_wishes both_wishes_trace ≡ quiet []
both_wishes_ending = refl

both_wishes_view : reports both_wishes both_wishes_trace ≡ Some (
    report 1 IsEnded 7 NilThread NilThread (0x8000 ∷ [])
    ∷ report 2 IsEnded 0 NilThread NilThread (0 ∷ [])
    ∷ report 3 IsEnded 0 (id 1) (id 1) (0 ∷ []) ∷ [])
both_wishes_view = refl

send_cancelled_by_both : refused_place both_wishes (
    Begin (send 1 1)
    ∷ Queue (send 1 1)
    ∷ Order (thread 2) (thread 1) CancelBoth
    ∷ Obey (thread 2)
    ∷ SendCancel (send 1 1) ∷ []) ≡ None
send_cancelled_by_both = refl

-- A cancellation from another space is no order.
from_another_space : refused_place cancels (
    Order (thread 3) (thread 1) CancelSend ∷ []) ≡ Some 1
from_another_space = refl

-- A deletion is admitted from any space, of a declared thread.
abbrev pub deleted_from_elsewhere : Machine
deleted_from_elsewhere = machine_of 1 (
    declared 1 0 1 (receives ∷ [])
    ∷ declared 2 0 2 (Ask (Fixed (id 1)) Delete ∷ Ask (Fixed (id 9)) Delete ∷ Ipc (Fixed NilThread) (Fixed (id 9)) None None ∷ []) ∷ [])

abbrev pub deleted_from_elsewhere_trace : List Step
deleted_from_elsewhere_trace =
    Order (thread 2) (thread 1) Delete
    ∷ Obey (thread 2)
    ∷ Local (thread 2)
    ∷ Wait (thread 2)
    ∷ ReceiveNobody (thread 2)
    ∷ Local (thread 2) ∷ []

deleted_from_elsewhere_ending : ends deleted_from_elsewhere deleted_from_elsewhere_trace ≡ quiet []
deleted_from_elsewhere_ending = refl

deleted_from_elsewhere_view : reports deleted_from_elsewhere deleted_from_elsewhere_trace ≡ Some (
    report 1 IsDeleted 0 NilThread NilThread (0 ∷ [])
    ∷ report 2 IsEnded 5 NilThread NilThread (0x8000 ∷ []) ∷ [])
deleted_from_elsewhere_view = refl
