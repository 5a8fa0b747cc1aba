-- Worked rows: clocks and timeouts.
use Rattle.std.specs.Prelude.{◌≡◌, Some, None, List, [], ◌∷◌, refl}
use Rattle.l4_model.specs.Words.{NilThread, AnyThread, AnyLocalThread, period_of}
use Rattle.l4_model.specs.Machine.{Machine, Fixed, Set, Tag, Ipc, machine_of}
use Rattle.l4_model.specs.Steps.{Step, Local, Begin, Queue, Deliver, Wait, SendTimeout, ReceiveTimeout, Tick}
use Rattle.l4_model.specs.History.{IsReady, IsReceiving, IsEnded}
use Rattle.l4_model.proofs.Rows.Writing.{thread, id, send, sends, receives, declared, ends, quiet, spent, reports, report}

-- A send of timeout zero is refused where its receiver does not wait.
abbrev pub zero_send : Machine
zero_send = machine_of 1 (
    declared 1 0 1 (Tag 0x70000 ∷ Ipc (Fixed (id 2)) (Fixed NilThread) (Some 0) None ∷ [])
    ∷ declared 2 0 2 (Set 1 5 ∷ receives ∷ []) ∷ [])

abbrev pub zero_send_trace : List Step
zero_send_trace =
    Local (thread 1)
    ∷ Local (thread 2)
    ∷ Begin (send 1 1)
    ∷ SendTimeout (send 1 1) ∷ []

zero_send_ending : ends zero_send zero_send_trace ≡ spent []
zero_send_ending = refl

zero_send_view : reports zero_send zero_send_trace ≡ Some (
    report 1 IsReady 2 NilThread NilThread (0x8000 ∷ [])
    ∷ report 2 IsReady 0 NilThread NilThread (0 ∷ 0x5 ∷ []) ∷ [])
zero_send_view = refl

-- It is not refused while its receiver is in the send phase of a call to another processor that would accept it.
abbrev pub crossing_calls : Machine
crossing_calls = machine_of 3 (
    declared 1 0 1 (Ipc (Fixed (id 3)) (Fixed AnyThread) None None ∷ [])
    ∷ declared 2 1 1 (receives ∷ Ipc (Fixed (id 1)) (Fixed NilThread) (Some 0) None ∷ [])
    ∷ declared 3 2 1 (receives ∷ sends 2 ∷ []) ∷ [])

abbrev pub crossing_calls_trace : List Step
crossing_calls_trace =
    Wait (thread 2)
    ∷ Wait (thread 3)
    ∷ Begin (send 1 1)
    ∷ Queue (send 1 1)
    ∷ Deliver (send 1 1) (thread 3) (thread 1) (thread 1) 0x4000 []
    ∷ Begin (send 3 1)
    ∷ Queue (send 3 1)
    ∷ Deliver (send 3 1) (thread 2) (thread 3) (thread 3) 0x4000 []
    ∷ Begin (send 2 1)
    ∷ Queue (send 2 1)
    ∷ Deliver (send 2 1) (thread 1) (thread 2) (thread 2) 0x4000 [] ∷ []

crossing_calls_ending : ends crossing_calls crossing_calls_trace ≡ spent []
crossing_calls_ending = refl

-- A send may be delivered after its period has passed.
abbrev pub withdrawn_too_late : Machine
withdrawn_too_late = machine_of 2 (
    declared 1 0 1 (Ipc (Fixed (id 2)) (Fixed NilThread) (period_of 5) None ∷ [])
    ∷ declared 2 1 1 (receives ∷ []) ∷ [])

abbrev pub withdrawn_too_late_trace : List Step
withdrawn_too_late_trace =
    Wait (thread 2)
    ∷ Begin (send 1 1)
    ∷ Tick 0 5
    ∷ Queue (send 1 1)
    ∷ Deliver (send 1 1) (thread 2) (thread 1) (thread 1) 0x4000 []
    ∷ Local (thread 1)
    ∷ Local (thread 2) ∷ []

withdrawn_too_late_ending : ends withdrawn_too_late withdrawn_too_late_trace ≡ quiet []
withdrawn_too_late_ending = refl

withdrawn_too_late_view : reports withdrawn_too_late withdrawn_too_late_trace ≡ Some (
    report 1 IsEnded 0 NilThread NilThread (0 ∷ [])
    ∷ report 2 IsEnded 0 (id 1) (id 1) (0x4000 ∷ []) ∷ [])
withdrawn_too_late_view = refl

-- It may be refused from then on.
abbrev pub withdrawn : Machine
withdrawn = machine_of 2 (
    declared 1 0 1 (Ipc (Fixed (id 2)) (Fixed NilThread) (period_of 5) None ∷ [])
    ∷ declared 2 1 1 (receives ∷ []) ∷ [])

abbrev pub withdrawn_trace : List Step
withdrawn_trace =
    Begin (send 1 1)
    ∷ Queue (send 1 1)
    ∷ Tick 0 5
    ∷ SendTimeout (send 1 1)
    ∷ Local (thread 1)
    ∷ Wait (thread 2) ∷ []

withdrawn_ending : ends withdrawn withdrawn_trace ≡ quiet []
withdrawn_ending = refl

withdrawn_view : reports withdrawn withdrawn_trace ≡ Some (
    report 1 IsEnded 2 NilThread NilThread (0x8000 ∷ [])
    ∷ report 2 IsReceiving 0 NilThread NilThread (0 ∷ []) ∷ [])
withdrawn_view = refl

-- A receive of 24 ticks.
abbrev pub finite_receive : Machine
finite_receive = machine_of 1 (declared 1 0 1 (Ipc (Fixed NilThread) (Fixed AnyThread) None (period_of 0xc03) ∷ []) ∷ [])

abbrev pub finite_receive_trace : List Step
finite_receive_trace =
    Wait (thread 1)
    ∷ Tick 0 24
    ∷ ReceiveTimeout (thread 1)
    ∷ Local (thread 1) ∷ []

finite_receive_ending : ends finite_receive finite_receive_trace ≡ quiet []
finite_receive_ending = refl

finite_receive_view : reports finite_receive finite_receive_trace ≡ Some (
    report 1 IsEnded 3 NilThread NilThread (0x8000 ∷ []) ∷ [])
finite_receive_view = refl

-- It may time out later.
abbrev pub finite_receive_late_trace : List Step
finite_receive_late_trace =
    Wait (thread 1)
    ∷ Tick 0 30
    ∷ ReceiveTimeout (thread 1)
    ∷ Local (thread 1) ∷ []

finite_receive_late_ending : ends finite_receive finite_receive_late_trace ≡ quiet []
finite_receive_late_ending = refl

-- A receive of timeout zero.
abbrev pub zero_receive : Machine
zero_receive = machine_of 1 (declared 1 0 1 (Ipc (Fixed NilThread) (Fixed AnyThread) None (Some 0) ∷ []) ∷ [])

abbrev pub zero_receive_trace : List Step
zero_receive_trace =
    Wait (thread 1)
    ∷ ReceiveTimeout (thread 1)
    ∷ Local (thread 1) ∷ []

zero_receive_ending : ends zero_receive zero_receive_trace ≡ quiet []
zero_receive_ending = refl

zero_receive_view : reports zero_receive zero_receive_trace ≡ Some (
    report 1 IsEnded 3 NilThread NilThread (0x8000 ∷ []) ∷ [])
zero_receive_view = refl

-- Closed receives and a send, each with its period.
abbrev pub timeouts : Machine
timeouts = machine_of 1 (
    declared 1 0 1 (Ipc (Fixed NilThread) (Fixed (id 2)) None (period_of 3) ∷ [])
    ∷ declared 2 0 1 (Ipc (Fixed NilThread) (Fixed AnyLocalThread) None (period_of 3) ∷ [])
    ∷ declared 3 0 2 (Ipc (Fixed (id 2)) (Fixed NilThread) (period_of 2) None ∷ []) ∷ [])

abbrev pub timeouts_trace : List Step
timeouts_trace =
    Wait (thread 1)
    ∷ Wait (thread 2)
    ∷ Begin (send 3 1)
    ∷ Queue (send 3 1)
    ∷ Tick 0 2
    ∷ SendTimeout (send 3 1)
    ∷ Local (thread 3)
    ∷ Tick 0 3
    ∷ ReceiveTimeout (thread 1)
    ∷ ReceiveTimeout (thread 2)
    ∷ Local (thread 1)
    ∷ Local (thread 2) ∷ []

timeouts_ending : ends timeouts timeouts_trace ≡ quiet []
timeouts_ending = refl

timeouts_view : reports timeouts timeouts_trace ≡ Some (
    report 1 IsEnded 3 NilThread NilThread (0x8000 ∷ [])
    ∷ report 2 IsEnded 3 NilThread NilThread (0x8000 ∷ [])
    ∷ report 3 IsEnded 2 NilThread NilThread (0x8000 ∷ []) ∷ [])
timeouts_view = refl
