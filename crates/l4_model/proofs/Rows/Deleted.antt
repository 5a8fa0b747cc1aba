-- Worked rows: what is left of a deleted thread.
use Rattle.std.specs.Prelude.{◌≡◌, Some, None, List, [], ◌∷◌, refl}
use Rattle.l4_model.specs.Words.{NilThread, period_of}
use Rattle.l4_model.specs.Machine.{Machine, Fixed, CancelSend, Delete, Set, Tag, Vs, Ipc, Ask, End, machine_of}
use Rattle.l4_model.specs.Steps.{Step, Local, Begin, Queue, Deliver, Wait, SendTimeout, SendNobody, ReceiveNobody, Drop, Order, Obey, Tick}
use Rattle.l4_model.specs.History.{refused_place, IsReceiving, IsEnded, IsDeleted}
use Rattle.l4_model.proofs.Rows.Writing.{thread, id, send, sends, receives, declared, ends, quiet, spent, reports, report}
use Rattle.l4_model.proofs.Rows.Orders.{call_deleted_a, call_deleted_a_trace, call_deleted_b, call_deleted_b_trace}

-- A deleted thread runs, receives and is sent nothing more; it gets no code.
abbrev pub one_deleted : Machine
one_deleted = machine_of 1 (
    declared 1 0 1 (Set 1 7 ∷ receives ∷ [])
    ∷ declared 2 0 1 (sends 1 ∷ [])
    ∷ declared 3 0 1 (Ask (Fixed (id 1)) Delete ∷ [])
    ∷ declared 4 0 1 (Ipc (Fixed NilThread) (Fixed (id 1)) None None ∷ []) ∷ [])

runs_no_more : refused_place one_deleted (
    Local (thread 1)
    ∷ Order (thread 3) (thread 1) Delete
    ∷ Obey (thread 3)
    ∷ Wait (thread 1) ∷ []) ≡ Some 4
runs_no_more = refl

receives_no_more : refused_place one_deleted (
    Local (thread 1)
    ∷ Wait (thread 1)
    ∷ Order (thread 3) (thread 1) Delete
    ∷ Obey (thread 3)
    ∷ Begin (send 2 1)
    ∷ Queue (send 2 1) ∷ []) ≡ Some 6
receives_no_more = refl

nothing_delivered : refused_place one_deleted (
    Begin (send 2 1)
    ∷ Queue (send 2 1)
    ∷ Local (thread 1)
    ∷ Order (thread 3) (thread 1) Delete
    ∷ Obey (thread 3)
    ∷ Deliver (send 2 1) (thread 1) (thread 2) (thread 2) 0 [] ∷ []) ≡ Some 6
nothing_delivered = refl

-- Only a deleted sender's send is dropped, and only the deleted and the undeclared are nobody.
not_dropped_alive : refused_place one_deleted (
    Begin (send 2 1)
    ∷ Queue (send 2 1)
    ∷ Drop (send 2 1) ∷ []) ≡ Some 3
not_dropped_alive = refl

not_dropped_before_it_arrives : refused_place call_deleted_a (
    Begin (send 1 1)
    ∷ Order (thread 3) (thread 1) Delete
    ∷ Obey (thread 3)
    ∷ Drop (send 1 1) ∷ []) ≡ Some 4
not_dropped_before_it_arrives = refl

not_nobody_alive : refused_place one_deleted (
    Begin (send 2 1)
    ∷ Queue (send 2 1)
    ∷ SendNobody (send 2 1) ∷ []) ≡ Some 3
not_nobody_alive = refl

not_nobody_to_receive_from : refused_place one_deleted (
    Wait (thread 4)
    ∷ ReceiveNobody (thread 4) ∷ []) ≡ Some 2
not_nobody_to_receive_from = refl

-- Its registers stay.
abbrev pub registers_stay_trace : List Step
registers_stay_trace =
    Local (thread 1)
    ∷ Wait (thread 1)
    ∷ Order (thread 3) (thread 1) Delete
    ∷ Obey (thread 3)
    ∷ Begin (send 2 1)
    ∷ SendNobody (send 2 1)
    ∷ Local (thread 2)
    ∷ Local (thread 3)
    ∷ Wait (thread 4)
    ∷ ReceiveNobody (thread 4)
    ∷ Local (thread 4) ∷ []

registers_stay_ending : ends one_deleted registers_stay_trace ≡ quiet []
registers_stay_ending = refl

registers_stay_view : reports one_deleted registers_stay_trace ≡ Some (
    report 1 IsDeleted 0 NilThread NilThread (0 ∷ 0x7 ∷ [])
    ∷ report 2 IsEnded 4 NilThread NilThread (0x8000 ∷ [])
    ∷ report 3 IsEnded 0 NilThread NilThread (0 ∷ [])
    ∷ report 4 IsEnded 5 NilThread NilThread (0x8000 ∷ []) ∷ [])
registers_stay_view = refl

-- Its send may still be refused, without a code.
abbrev pub refused_after_deletion : Machine
refused_after_deletion = machine_of 1 (
    declared 1 0 1 (Set 1 7 ∷ Ipc (Fixed (id 2)) (Fixed NilThread) (period_of 5) None ∷ [])
    ∷ declared 2 0 1 (End ∷ [])
    ∷ declared 3 0 1 (Ask (Fixed (id 1)) Delete ∷ []) ∷ [])

abbrev pub refused_after_deletion_trace : List Step
refused_after_deletion_trace =
    Local (thread 1)
    ∷ Begin (send 1 1)
    ∷ Queue (send 1 1)
    ∷ Order (thread 3) (thread 1) Delete
    ∷ Obey (thread 3)
    ∷ Tick 0 5
    ∷ SendTimeout (send 1 1)
    ∷ Local (thread 2)
    ∷ Local (thread 3) ∷ []

refused_after_deletion_ending : ends refused_after_deletion refused_after_deletion_trace ≡ quiet []
refused_after_deletion_ending = refl

refused_after_deletion_view : reports refused_after_deletion refused_after_deletion_trace ≡ Some (
    report 1 IsDeleted 0 NilThread NilThread (0 ∷ 0x7 ∷ [])
    ∷ report 2 IsEnded 0 NilThread NilThread (0 ∷ [])
    ∷ report 3 IsEnded 0 NilThread NilThread (0 ∷ []) ∷ [])
refused_after_deletion_view = refl

-- Who deletes itself is deleted before it could get a code: its own stays.
abbrev pub deletes_itself_late : Machine
deletes_itself_late = machine_of 1 (declared 1 0 1 (Ask (Fixed (id 9)) CancelSend ∷ Ask (Fixed (id 1)) Delete ∷ []) ∷ [])

abbrev pub deletes_itself_late_trace : List Step
deletes_itself_late_trace =
    Local (thread 1)
    ∷ Order (thread 1) (thread 1) Delete
    ∷ Obey (thread 1) ∷ []

deletes_itself_late_ending : ends deletes_itself_late deletes_itself_late_trace ≡ quiet []
deletes_itself_late_ending = refl

deletes_itself_late_view : reports deletes_itself_late deletes_itself_late_trace ≡ Some (
    report 1 IsDeleted 2 NilThread NilThread (0 ∷ []) ∷ [])
deletes_itself_late_view = refl

-- Where an order can be given, a world is not still.
abbrev pub to_be_deleted : Machine
to_be_deleted = machine_of 1 (declared 1 0 1 (Ask (Fixed (id 1)) Delete ∷ []) ∷ [])

abbrev pub to_be_deleted_trace : List Step
to_be_deleted_trace =
    []

to_be_deleted_ending : ends to_be_deleted to_be_deleted_trace ≡ spent []
to_be_deleted_ending = refl

call_deleted_a_view : reports call_deleted_a call_deleted_a_trace ≡ Some (
    report 1 IsDeleted 0 NilThread NilThread (0 ∷ [])
    ∷ report 2 IsEnded 4 NilThread NilThread (0x8000 ∷ [])
    ∷ report 3 IsEnded 0 NilThread NilThread (0 ∷ [])
    ∷ report 4 IsReceiving 0 NilThread NilThread (0 ∷ []) ∷ [])
call_deleted_a_view = refl

call_deleted_b_view : reports call_deleted_b call_deleted_b_trace ≡ Some (
    report 1 IsDeleted 0 NilThread NilThread (0 ∷ [])
    ∷ report 2 IsEnded 4 NilThread NilThread (0x8000 ∷ [])
    ∷ report 3 IsEnded 0 NilThread NilThread (0 ∷ [])
    ∷ report 4 IsEnded 0 (id 1) (id 1) (0x4000 ∷ []) ∷ [])
call_deleted_b_view = refl

-- A message that shows a deleted originator is still accepted by who waits for it.
abbrev pub shows_the_deleted : Machine
shows_the_deleted = machine_of 1 (
    declared 1 0 1 []
    ∷ declared 2 0 1 (Vs (Fixed (id 1)) ∷ Tag 0x1000 ∷ sends 3 ∷ [])
    ∷ declared 3 0 2 (Ipc (Fixed NilThread) (Fixed (id 1)) None None ∷ [])
    ∷ declared 4 0 2 (Ask (Fixed (id 1)) Delete ∷ []) ∷ [])

not_while_it_waits : refused_place shows_the_deleted (
    Local (thread 2)
    ∷ Local (thread 2)
    ∷ Begin (send 2 1)
    ∷ Queue (send 2 1)
    ∷ Order (thread 4) (thread 1) Delete
    ∷ Obey (thread 4)
    ∷ Wait (thread 3)
    ∷ ReceiveNobody (thread 3) ∷ []) ≡ Some 8
not_while_it_waits = refl

delivered_for_the_deleted : refused_place shows_the_deleted (
    Local (thread 2)
    ∷ Local (thread 2)
    ∷ Begin (send 2 1)
    ∷ Queue (send 2 1)
    ∷ Order (thread 4) (thread 1) Delete
    ∷ Obey (thread 4)
    ∷ Wait (thread 3)
    ∷ Deliver (send 2 1) (thread 3) (thread 1) (thread 2) 0x1000 [] ∷ []) ≡ None
delivered_for_the_deleted = refl
