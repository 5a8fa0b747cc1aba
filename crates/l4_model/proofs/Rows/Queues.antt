-- Worked rows: who waits where, and who is taken first.
use Rattle.std.specs.Prelude.{◌≡◌, Some, None, List, [], ◌∷◌, refl}
use Rattle.l4_model.specs.Words.{NilThread, AnyThread, LocalThread}
use Rattle.l4_model.specs.Machine.{Machine, Fixed, Ipc, Jump, machine_of}
use Rattle.l4_model.specs.Steps.{Step, Local, Begin, Queue, Deliver, Wait, SendNobody, ReceiveNobody}
use Rattle.l4_model.specs.History.{IsReady, IsSending, IsEnded}
use Rattle.l4_model.proofs.Rows.Writing.{thread, id, send, sends, receives, declared, ends, quiet, spent, reports, report}

-- Order of arrival, not of beginning.
abbrev pub order_of_arrival : Machine
order_of_arrival = machine_of 3 (
    declared 1 0 1 (sends 4 ∷ [])
    ∷ declared 2 1 1 (sends 4 ∷ [])
    ∷ declared 3 2 1 (sends 4 ∷ [])
    ∷ declared 4 0 1 (receives ∷ Jump 0 ∷ []) ∷ [])

abbrev pub order_of_arrival_trace : List Step
order_of_arrival_trace =
    Begin (send 3 1)
    ∷ Begin (send 2 1)
    ∷ Queue (send 2 1)
    ∷ Queue (send 3 1)
    ∷ Begin (send 1 1)
    ∷ Queue (send 1 1)
    ∷ Wait (thread 4)
    ∷ Deliver (send 2 1) (thread 4) (thread 2) (thread 2) 0x4000 []
    ∷ Local (thread 4)
    ∷ Wait (thread 4)
    ∷ Deliver (send 3 1) (thread 4) (thread 3) (thread 3) 0x4000 []
    ∷ Local (thread 4)
    ∷ Wait (thread 4)
    ∷ Deliver (send 1 1) (thread 4) (thread 1) (thread 1) 0 [] ∷ []

order_of_arrival_ending : ends order_of_arrival order_of_arrival_trace ≡ spent []
order_of_arrival_ending = refl

-- A closed receive passes over the senders before its own.
abbrev pub closed_receive : Machine
closed_receive = machine_of 1 (
    declared 1 0 1 (sends 4 ∷ [])
    ∷ declared 2 0 1 (sends 4 ∷ [])
    ∷ declared 3 0 1 (sends 4 ∷ [])
    ∷ declared 4 0 1 (Ipc (Fixed NilThread) (Fixed (id 2)) None None ∷ receives ∷ receives ∷ []) ∷ [])

abbrev pub closed_receive_trace : List Step
closed_receive_trace =
    Begin (send 1 1)
    ∷ Queue (send 1 1)
    ∷ Begin (send 2 1)
    ∷ Queue (send 2 1)
    ∷ Begin (send 3 1)
    ∷ Queue (send 3 1)
    ∷ Wait (thread 4)
    ∷ Deliver (send 2 1) (thread 4) (thread 2) (thread 2) 0 []
    ∷ Wait (thread 4)
    ∷ Deliver (send 1 1) (thread 4) (thread 1) (thread 1) 0 []
    ∷ Local (thread 2)
    ∷ Wait (thread 4)
    ∷ Deliver (send 3 1) (thread 4) (thread 3) (thread 3) 0 []
    ∷ Local (thread 1)
    ∷ Local (thread 4)
    ∷ Local (thread 3) ∷ []

closed_receive_ending : ends closed_receive closed_receive_trace ≡ quiet []
closed_receive_ending = refl

-- Nobody can be sent to by anythread, a local or an undeclared id, nor received from by an undeclared one.
abbrev pub nobody_there : Machine
nobody_there = machine_of 1 (declared 1 0 1 (Ipc (Fixed AnyThread) (Fixed NilThread) None None ∷ Ipc (Fixed (LocalThread 64)) (Fixed NilThread) None None ∷ sends 9 ∷ Ipc (Fixed NilThread) (Fixed (id 9)) None None ∷ []) ∷ [])

abbrev pub nobody_there_trace : List Step
nobody_there_trace =
    Begin (send 1 1)
    ∷ SendNobody (send 1 1)
    ∷ Begin (send 1 2)
    ∷ SendNobody (send 1 2)
    ∷ Begin (send 1 3)
    ∷ SendNobody (send 1 3)
    ∷ Wait (thread 1)
    ∷ ReceiveNobody (thread 1)
    ∷ Local (thread 1) ∷ []

nobody_there_ending : ends nobody_there nobody_there_trace ≡ quiet []
nobody_there_ending = refl

nobody_there_view : reports nobody_there nobody_there_trace ≡ Some (
    report 1 IsEnded 5 NilThread NilThread (0x8000 ∷ []) ∷ [])
nobody_there_view = refl

-- Two threads that send to each other wait for ever.
abbrev pub mutual_sends : Machine
mutual_sends = machine_of 1 (
    declared 1 0 1 (sends 2 ∷ [])
    ∷ declared 2 0 1 (sends 1 ∷ []) ∷ [])

abbrev pub mutual_sends_trace : List Step
mutual_sends_trace =
    Begin (send 1 1)
    ∷ Queue (send 1 1)
    ∷ Begin (send 2 1)
    ∷ Queue (send 2 1) ∷ []

mutual_sends_ending : ends mutual_sends mutual_sends_trace ≡ quiet (((send 1 1), (id 2)) ∷ ((send 2 1), (id 1)) ∷ [])
mutual_sends_ending = refl

mutual_sends_view : reports mutual_sends mutual_sends_trace ≡ Some (
    report 1 IsSending 0 NilThread NilThread (0 ∷ [])
    ∷ report 2 IsSending 0 NilThread NilThread (0 ∷ []) ∷ [])
mutual_sends_view = refl

-- Sends that have not arrived are waiting too.
abbrev pub room_one : Machine
room_one = machine_of 2 (
    declared 1 0 1 (sends 4 ∷ [])
    ∷ declared 2 0 1 (sends 4 ∷ [])
    ∷ declared 3 0 1 (sends 4 ∷ [])
    ∷ declared 4 1 1 (receives ∷ Jump 0 ∷ []) ∷ [])

abbrev pub room_one_trace : List Step
room_one_trace =
    Begin (send 1 1)
    ∷ Begin (send 2 1)
    ∷ Queue (send 1 1)
    ∷ Begin (send 3 1)
    ∷ Wait (thread 4)
    ∷ Deliver (send 1 1) (thread 4) (thread 1) (thread 1) 0x4000 [] ∷ []

room_one_ending : ends room_one room_one_trace ≡ spent (((send 2 1), (id 4)) ∷ ((send 3 1), (id 4)) ∷ [])
room_one_ending = refl

room_one_view : reports room_one room_one_trace ≡ Some (
    report 1 IsReady 0 NilThread NilThread (0 ∷ [])
    ∷ report 2 IsSending 0 NilThread NilThread (0 ∷ [])
    ∷ report 3 IsSending 0 NilThread NilThread (0 ∷ [])
    ∷ report 4 IsReady 0 (id 1) (id 1) (0x4000 ∷ []) ∷ [])
room_one_view = refl
