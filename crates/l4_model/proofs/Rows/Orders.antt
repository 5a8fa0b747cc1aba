-- Worked rows: cancellations and deletions.
use Rattle.std.specs.Prelude.{◌≡◌, Some, None, List, [], ◌∷◌, refl}
use Rattle.l4_model.specs.Words.{NilThread}
use Rattle.l4_model.specs.Machine.{Machine, Fixed, CancelSend, CancelReceive, Delete, Ipc, Ask, Jump, machine_of}
use Rattle.l4_model.specs.Steps.{Step, Local, Begin, Queue, Deliver, Wait, SendNobody, ReceiveNobody, SendCancel, ReceiveCancel, Drop, Order, Obey}
use Rattle.l4_model.specs.History.{IsEnded, IsDeleted}
use Rattle.l4_model.proofs.Rows.Writing.{thread, id, send, sends, receives, declared, ends, quiet, reports, report}

-- A send is cancelled from its own space, and not from another.
abbrev pub cancels : Machine
cancels = machine_of 1 (
    declared 1 0 1 (sends 3 ∷ [])
    ∷ declared 2 0 1 (Ask (Fixed (id 1)) CancelSend ∷ [])
    ∷ declared 3 0 2 (Ask (Fixed (id 1)) CancelSend ∷ []) ∷ [])

abbrev pub cancels_trace : List Step
cancels_trace =
    Begin (send 1 1)
    ∷ Queue (send 1 1)
    ∷ Order (thread 2) (thread 1) CancelSend
    ∷ Obey (thread 2)
    ∷ SendCancel (send 1 1)
    ∷ Local (thread 3)
    ∷ Local (thread 2)
    ∷ Local (thread 1)
    ∷ Local (thread 3) ∷ []

cancels_ending : ends cancels cancels_trace ≡ quiet []
cancels_ending = refl

cancels_view : reports cancels cancels_trace ≡ Some (
    report 1 IsEnded 6 NilThread NilThread (0x8000 ∷ [])
    ∷ report 2 IsEnded 0 NilThread NilThread (0 ∷ [])
    ∷ report 3 IsEnded 2 NilThread NilThread (0 ∷ []) ∷ [])
cancels_view = refl

-- A receive phase that was cancelled in the send phase of its call ends when it begins.
abbrev pub cancelled_receive : Machine
cancelled_receive = machine_of 2 (
    declared 1 0 1 (Ipc (Fixed (id 3)) (Fixed (id 3)) None None ∷ [])
    ∷ declared 2 0 1 (Ask (Fixed (id 1)) CancelReceive ∷ [])
    ∷ declared 3 1 2 (receives ∷ Ask (Fixed (id 1)) CancelSend ∷ []) ∷ [])

abbrev pub cancelled_receive_trace : List Step
cancelled_receive_trace =
    Begin (send 1 1)
    ∷ Order (thread 2) (thread 1) CancelReceive
    ∷ Obey (thread 2)
    ∷ Queue (send 1 1)
    ∷ Wait (thread 3)
    ∷ Deliver (send 1 1) (thread 3) (thread 1) (thread 1) 0x4000 []
    ∷ ReceiveCancel (thread 1)
    ∷ Local (thread 2)
    ∷ Local (thread 1)
    ∷ Local (thread 3)
    ∷ Local (thread 3) ∷ []

cancelled_receive_ending : ends cancelled_receive cancelled_receive_trace ≡ quiet []
cancelled_receive_ending = refl

cancelled_receive_view : reports cancelled_receive cancelled_receive_trace ≡ Some (
    report 1 IsEnded 7 NilThread NilThread (0x8000 ∷ [])
    ∷ report 2 IsEnded 0 NilThread NilThread (0 ∷ [])
    ∷ report 3 IsEnded 2 (id 1) (id 1) (0x4000 ∷ []) ∷ [])
cancelled_receive_view = refl

-- Who waits at a deleted thread, or for it, is refused.
abbrev pub deletion : Machine
deletion = machine_of 2 (
    declared 1 0 1 (Jump 0 ∷ [])
    ∷ declared 2 0 1 (sends 1 ∷ [])
    ∷ declared 3 1 1 (sends 1 ∷ sends 1 ∷ [])
    ∷ declared 4 1 1 (Ipc (Fixed NilThread) (Fixed (id 1)) None None ∷ [])
    ∷ declared 5 0 1 (Ask (Fixed (id 1)) Delete ∷ []) ∷ [])

abbrev pub deletion_trace : List Step
deletion_trace =
    Begin (send 3 1)
    ∷ Wait (thread 4)
    ∷ Queue (send 3 1)
    ∷ Local (thread 1)
    ∷ Begin (send 2 1)
    ∷ Queue (send 2 1)
    ∷ Order (thread 5) (thread 1) Delete
    ∷ Obey (thread 5)
    ∷ SendNobody (send 3 1)
    ∷ SendNobody (send 2 1)
    ∷ Local (thread 5)
    ∷ Local (thread 2)
    ∷ ReceiveNobody (thread 4)
    ∷ Begin (send 3 2)
    ∷ Local (thread 4)
    ∷ SendNobody (send 3 2)
    ∷ Local (thread 3) ∷ []

deletion_ending : ends deletion deletion_trace ≡ quiet []
deletion_ending = refl

deletion_view : reports deletion deletion_trace ≡ Some (
    report 1 IsDeleted 0 NilThread NilThread (0 ∷ [])
    ∷ report 2 IsEnded 4 NilThread NilThread (0x8000 ∷ [])
    ∷ report 3 IsEnded 4 NilThread NilThread (0x8000 ∷ [])
    ∷ report 4 IsEnded 5 NilThread NilThread (0x8000 ∷ [])
    ∷ report 5 IsEnded 0 NilThread NilThread (0 ∷ []) ∷ [])
deletion_view = refl

-- A thread that deletes itself gets no code.
abbrev pub deletes_itself : Machine
deletes_itself = machine_of 1 (
    declared 1 0 1 (Ask (Fixed (id 1)) Delete ∷ [])
    ∷ declared 2 0 1 (Ipc (Fixed NilThread) (Fixed (id 1)) None None ∷ [])
    ∷ declared 3 0 1 (sends 1 ∷ []) ∷ [])

abbrev pub deletes_itself_trace : List Step
deletes_itself_trace =
    Order (thread 1) (thread 1) Delete
    ∷ Obey (thread 1)
    ∷ Wait (thread 2)
    ∷ ReceiveNobody (thread 2)
    ∷ Begin (send 3 1)
    ∷ SendNobody (send 3 1)
    ∷ Local (thread 2)
    ∷ Local (thread 3) ∷ []

deletes_itself_ending : ends deletes_itself deletes_itself_trace ≡ quiet []
deletes_itself_ending = refl

deletes_itself_view : reports deletes_itself deletes_itself_trace ≡ Some (
    report 1 IsDeleted 0 NilThread NilThread (0 ∷ [])
    ∷ report 2 IsEnded 5 NilThread NilThread (0x8000 ∷ [])
    ∷ report 3 IsEnded 4 NilThread NilThread (0x8000 ∷ []) ∷ [])
deletes_itself_view = refl

-- The call of a deleted thread is dropped.
abbrev pub call_deleted_a : Machine
call_deleted_a = machine_of 2 (
    declared 1 0 1 (Ipc (Fixed (id 4)) (Fixed (id 4)) None None ∷ [])
    ∷ declared 2 0 1 (sends 1 ∷ [])
    ∷ declared 3 0 1 (Ask (Fixed (id 1)) Delete ∷ [])
    ∷ declared 4 1 1 (receives ∷ []) ∷ [])

abbrev pub call_deleted_a_trace : List Step
call_deleted_a_trace =
    Begin (send 1 1)
    ∷ Begin (send 2 1)
    ∷ Queue (send 2 1)
    ∷ Order (thread 3) (thread 1) Delete
    ∷ Obey (thread 3)
    ∷ Queue (send 1 1)
    ∷ Drop (send 1 1)
    ∷ SendNobody (send 2 1)
    ∷ Wait (thread 4)
    ∷ Local (thread 3)
    ∷ Local (thread 2) ∷ []

call_deleted_a_ending : ends call_deleted_a call_deleted_a_trace ≡ quiet []
call_deleted_a_ending = refl

-- The call of a deleted thread is delivered.
abbrev pub call_deleted_b : Machine
call_deleted_b = machine_of 2 (
    declared 1 0 1 (Ipc (Fixed (id 4)) (Fixed (id 4)) None None ∷ [])
    ∷ declared 2 0 1 (sends 1 ∷ [])
    ∷ declared 3 0 1 (Ask (Fixed (id 1)) Delete ∷ [])
    ∷ declared 4 1 1 (receives ∷ []) ∷ [])

abbrev pub call_deleted_b_trace : List Step
call_deleted_b_trace =
    Wait (thread 4)
    ∷ Begin (send 1 1)
    ∷ Begin (send 2 1)
    ∷ Queue (send 2 1)
    ∷ Order (thread 3) (thread 1) Delete
    ∷ Obey (thread 3)
    ∷ Queue (send 1 1)
    ∷ Deliver (send 1 1) (thread 4) (thread 1) (thread 1) 0x4000 []
    ∷ SendNobody (send 2 1)
    ∷ Local (thread 3)
    ∷ Local (thread 2)
    ∷ Local (thread 4) ∷ []

call_deleted_b_ending : ends call_deleted_b call_deleted_b_trace ≡ quiet []
call_deleted_b_ending = refl
