-- Worked rows: from when on, and until when.
use Rattle.std.specs.Prelude.{◌≡◌, Some, None, List, [], ◌∷◌, refl}
use Rattle.l4_model.specs.Words.{NilThread, AnyThread, period_of}
use Rattle.l4_model.specs.Machine.{Machine, Fixed, Ipc, machine_of}
use Rattle.l4_model.specs.Steps.{Step, Local, Begin, Queue, Deliver, Wait, SendTimeout, ReceiveTimeout, Tick}
use Rattle.l4_model.specs.History.{refused_place}
use Rattle.l4_model.proofs.Rows.Writing.{thread, id, send, sends, receives, declared, ends, spent}
use Rattle.l4_model.proofs.Rows.Messages.{first_path}
use Rattle.l4_model.proofs.Rows.Queues.{mutual_sends}
use Rattle.l4_model.proofs.Rows.Timeouts.{withdrawn, finite_receive}

-- A send is not refused before its period has passed, nor by another processor's clock, nor before it has arrived.
send_one_tick_early : refused_place withdrawn (
    Begin (send 1 1)
    ∷ Queue (send 1 1)
    ∷ Tick 0 4
    ∷ SendTimeout (send 1 1) ∷ []) ≡ Some 4
send_one_tick_early = refl

send_by_another_clock : refused_place withdrawn (
    Begin (send 1 1)
    ∷ Queue (send 1 1)
    ∷ Tick 1 5
    ∷ SendTimeout (send 1 1) ∷ []) ≡ Some 4
send_by_another_clock = refl

send_not_arrived : refused_place withdrawn (
    Begin (send 1 1)
    ∷ Tick 0 5
    ∷ SendTimeout (send 1 1) ∷ []) ≡ Some 3
send_not_arrived = refl

-- Its period counts from its beginning.
send_since_its_beginning : refused_place withdrawn (
    Tick 0 7
    ∷ Begin (send 1 1)
    ∷ Queue (send 1 1)
    ∷ Tick 0 11
    ∷ SendTimeout (send 1 1) ∷ []) ≡ Some 5
send_since_its_beginning = refl

send_at_its_time : refused_place withdrawn (
    Tick 0 7
    ∷ Begin (send 1 1)
    ∷ Queue (send 1 1)
    ∷ Tick 0 12
    ∷ SendTimeout (send 1 1) ∷ []) ≡ None
send_at_its_time = refl

-- The period of a receive phase counts from its beginning.
receive_since_its_beginning : refused_place finite_receive (
    Tick 0 7
    ∷ Wait (thread 1)
    ∷ Tick 0 30
    ∷ ReceiveTimeout (thread 1) ∷ []) ≡ Some 4
receive_since_its_beginning = refl

receive_at_its_time : refused_place finite_receive (
    Tick 0 7
    ∷ Wait (thread 1)
    ∷ Tick 0 31
    ∷ ReceiveTimeout (thread 1) ∷ []) ≡ None
receive_at_its_time = refl

-- The receive phase of a call begins with the delivery, by the caller's clock.
abbrev pub timed_call : Machine
timed_call = machine_of 2 (
    declared 1 0 1 (Ipc (Fixed (id 2)) (Fixed (id 2)) None (period_of 5) ∷ [])
    ∷ declared 2 1 1 (receives ∷ []) ∷ [])

call_since_its_delivery : refused_place timed_call (
    Begin (send 1 1)
    ∷ Queue (send 1 1)
    ∷ Tick 0 7
    ∷ Tick 1 50
    ∷ Wait (thread 2)
    ∷ Deliver (send 1 1) (thread 2) (thread 1) (thread 1) 0x4000 []
    ∷ Tick 0 11
    ∷ ReceiveTimeout (thread 1) ∷ []) ≡ Some 8
call_since_its_delivery = refl

call_at_its_time : refused_place timed_call (
    Begin (send 1 1)
    ∷ Queue (send 1 1)
    ∷ Tick 0 7
    ∷ Tick 1 50
    ∷ Wait (thread 2)
    ∷ Deliver (send 1 1) (thread 2) (thread 1) (thread 1) 0x4000 []
    ∷ Tick 0 12
    ∷ ReceiveTimeout (thread 1) ∷ []) ≡ None
call_at_its_time = refl

-- A receive does not time out while a sender waits that it accepts.
abbrev pub served_in_time : Machine
served_in_time = machine_of 1 (
    declared 1 0 1 (Ipc (Fixed NilThread) (Fixed AnyThread) None (period_of 3) ∷ [])
    ∷ declared 2 0 1 (sends 1 ∷ []) ∷ [])

not_while_one_waits : refused_place served_in_time (
    Wait (thread 1)
    ∷ Begin (send 2 1)
    ∷ Queue (send 2 1)
    ∷ Tick 0 3
    ∷ ReceiveTimeout (thread 1) ∷ []) ≡ Some 5
not_while_one_waits = refl

-- Never is never.
never : refused_place mutual_sends (
    Begin (send 1 1)
    ∷ Queue (send 1 1)
    ∷ Tick 0 4611686018427387903
    ∷ SendTimeout (send 1 1) ∷ []) ≡ Some 4
never = refl

never_received : refused_place first_path (
    Wait (thread 2)
    ∷ Tick 0 4611686018427387903
    ∷ ReceiveTimeout (thread 2) ∷ []) ≡ Some 3
never_received = refl

-- A clock goes on, below 2^62, and only a processor of the machine has one.
tick_to_zero : refused_place first_path (
    Tick 0 0 ∷ []) ≡ Some 1
tick_to_zero = refl

tick_again : refused_place first_path (
    Tick 0 5
    ∷ Tick 0 5 ∷ []) ≡ Some 2
tick_again = refl

tick_back : refused_place first_path (
    Tick 0 5
    ∷ Tick 0 4 ∷ []) ≡ Some 2
tick_back = refl

tick_too_far : refused_place first_path (
    Tick 0 4611686018427387904 ∷ []) ≡ Some 1
tick_too_far = refl

tick_of_none : refused_place first_path (
    Tick 1 1 ∷ []) ≡ Some 1
tick_of_none = refl

-- What only time can end is not still.
abbrev pub waits_its_time_trace : List Step
waits_its_time_trace =
    Wait (thread 1) ∷ []

waits_its_time_ending : ends finite_receive waits_its_time_trace ≡ spent []
waits_its_time_ending = refl

-- A thread that has not ended is not still.
abbrev pub waits_for_ever_trace : List Step
waits_for_ever_trace =
    Local (thread 1)
    ∷ Local (thread 1)
    ∷ Wait (thread 2) ∷ []

waits_for_ever_ending : ends first_path waits_for_ever_trace ≡ spent []
waits_for_ever_ending = refl
