-- Worked rows: what the instructions of a script do.
use Rattle.std.specs.Prelude.{◌≡◌, Some, None, List, [], ◌∷◌, map, refl}
use Rattle.l4_model.specs.Words.{W64, W32, NilThread, AnyThread}
use Rattle.l4_model.specs.Machine.{Machine, Fixed, Last, CancelSend, CancelReceive, Delete, Set, Copy, Add, Tag, Vs, Ipc, Ask, Jump, OnErr, End, machine_of}
use Rattle.l4_model.specs.Rules.{assigned_by}
use Rattle.l4_model.specs.Steps.{Step, Local, Begin, Queue, Deliver, Wait, SendNobody}
use Rattle.l4_model.specs.History.{IsEnded}
use Rattle.l4_model.proofs.Rows.Writing.{thread, id, send, sends, receives, declared, ends, quiet, reports, report}

-- Sums wrap, jumps are taken, an order to nobody gives code 2, and at an `end` the thread has ended.
abbrev pub scripted : Machine
scripted = machine_of 1 (declared 1 0 1 (Set 1 18446744073709551615 ∷ Add W64 1 2 ∷ Copy 2 1 ∷ OnErr 5 ∷ Jump 6 ∷ Set 3 7 ∷ Ask (Fixed (id 9)) CancelSend ∷ OnErr 9 ∷ Set 4 7 ∷ End ∷ Set 5 7 ∷ []) ∷ [])

abbrev pub scripted_trace : List Step
scripted_trace =
    Local (thread 1)
    ∷ Local (thread 1)
    ∷ Local (thread 1)
    ∷ Local (thread 1)
    ∷ Local (thread 1)
    ∷ Local (thread 1)
    ∷ Local (thread 1)
    ∷ Local (thread 1) ∷ []

scripted_ending : ends scripted scripted_trace ≡ quiet []
scripted_ending = refl

scripted_view : reports scripted scripted_trace ≡ Some (
    report 1 IsEnded 2 NilThread NilThread (0 ∷ 0x1 ∷ 0x1 ∷ []) ∷ [])
scripted_view = refl

-- A sum in 32 bits wraps at their limit, and one in 64 bits goes on.
abbrev pub short_sum : Machine
short_sum = machine_of 1 (
    declared 1 0 1 (Set 1 0xffffffff ∷ Add W32 1 2 ∷ Tag 0x70001 ∷ sends 2 ∷ [])
    ∷ declared 2 0 2 (receives ∷ []) ∷ [])

abbrev pub short_sum_trace : List Step
short_sum_trace =
    Local (thread 1)
    ∷ Wait (thread 2)
    ∷ Local (thread 1)
    ∷ Local (thread 1)
    ∷ Begin (send 1 1)
    ∷ Queue (send 1 1)
    ∷ Deliver (send 1 1) (thread 2) (thread 1) (thread 1) 0x70001 (0x1 ∷ [])
    ∷ Local (thread 2)
    ∷ Local (thread 1) ∷ []

short_sum_ending : ends short_sum short_sum_trace ≡ quiet []
short_sum_ending = refl

short_sum_view : reports short_sum short_sum_trace ≡ Some (
    report 1 IsEnded 0 NilThread NilThread (0 ∷ 0x1 ∷ [])
    ∷ report 2 IsEnded 0 (id 1) (id 1) (0x70001 ∷ 0x1 ∷ []) ∷ [])
short_sum_view = refl

abbrev pub long_sum : Machine
long_sum = machine_of 1 (declared 1 0 1 (Set 1 0xffffffff ∷ Add W64 1 2 ∷ []) ∷ [])

long_sum_view : reports long_sum (Local (thread 1) ∷ Local (thread 1) ∷ Local (thread 1) ∷ []) ≡ Some (
    report 1 IsEnded 0 NilThread NilThread (0 ∷ 0x100000001 ∷ []) ∷ [])
long_sum_view = refl

-- Which register is assigned a value. MR0 becomes a tag otherwise.
assigning : map assigned_by (Set 3 7 ∷ Copy 2 1 ∷ Add W64 1 2 ∷ Tag 0 ∷ Vs (Fixed NilThread) ∷ Jump 4 ∷ End ∷ [])
    ≡ Some 3 ∷ Some 2 ∷ Some 1 ∷ None ∷ None ∷ None ∷ None ∷ []
assigning = refl

-- An ipc without phases ends well. `last` names nobody at the start.
abbrev pub no_phases : Machine
no_phases = machine_of 1 (declared 1 0 1 (Tag 0x10001 ∷ Set 1 7 ∷ Ask (Fixed NilThread) CancelReceive ∷ Ask (Fixed AnyThread) Delete ∷ Ipc Last (Fixed NilThread) None None ∷ []) ∷ [])

abbrev pub no_phases_trace : List Step
no_phases_trace =
    Local (thread 1)
    ∷ Local (thread 1)
    ∷ Local (thread 1)
    ∷ Local (thread 1)
    ∷ Local (thread 1)
    ∷ Local (thread 1) ∷ []

no_phases_ending : ends no_phases no_phases_trace ≡ quiet []
no_phases_ending = refl

no_phases_view : reports no_phases no_phases_trace ≡ Some (
    report 1 IsEnded 0 NilThread NilThread (0 ∷ 0x7 ∷ []) ∷ [])
no_phases_view = refl

-- A failed send phase leaves the registers but MR0, `from` and ErrorCode, and has no receive phase.
abbrev pub failed_send : Machine
failed_send = machine_of 1 (
    declared 1 0 1 (receives ∷ Vs (Fixed (id 1)) ∷ Set 2 9 ∷ Ipc (Fixed (id 9)) (Fixed AnyThread) None None ∷ [])
    ∷ declared 2 0 1 (Set 1 8 ∷ Tag 0x70001 ∷ sends 1 ∷ []) ∷ [])

abbrev pub failed_send_trace : List Step
failed_send_trace =
    Wait (thread 1)
    ∷ Local (thread 2)
    ∷ Local (thread 2)
    ∷ Begin (send 2 1)
    ∷ Queue (send 2 1)
    ∷ Deliver (send 2 1) (thread 1) (thread 2) (thread 2) 0x70001 (0x8 ∷ [])
    ∷ Local (thread 1)
    ∷ Local (thread 1)
    ∷ Begin (send 1 1)
    ∷ SendNobody (send 1 1)
    ∷ Local (thread 1)
    ∷ Local (thread 2) ∷ []

failed_send_ending : ends failed_send failed_send_trace ≡ quiet []
failed_send_ending = refl

failed_send_view : reports failed_send failed_send_trace ≡ Some (
    report 1 IsEnded 4 NilThread (id 1) (0x8000 ∷ 0x8 ∷ 0x9 ∷ [])
    ∷ report 2 IsEnded 0 NilThread NilThread (0 ∷ 0x8 ∷ []) ∷ [])
failed_send_view = refl

-- Propagation in one's own name: the tag keeps `p`. Without bit 12 there is none.
abbrev pub own_name : Machine
own_name = machine_of 1 (
    declared 1 0 1 (Vs (Fixed (id 1)) ∷ Tag 0x1000 ∷ sends 2 ∷ Vs (Fixed (id 3)) ∷ Tag 0x2000 ∷ sends 2 ∷ [])
    ∷ declared 2 0 2 (receives ∷ receives ∷ [])
    ∷ declared 3 0 1 [] ∷ [])

abbrev pub own_name_trace : List Step
own_name_trace =
    Local (thread 1)
    ∷ Local (thread 1)
    ∷ Begin (send 1 1)
    ∷ Queue (send 1 1)
    ∷ Wait (thread 2)
    ∷ Deliver (send 1 1) (thread 2) (thread 1) (thread 1) 0x1000 []
    ∷ Local (thread 1)
    ∷ Local (thread 1)
    ∷ Begin (send 1 2)
    ∷ Queue (send 1 2)
    ∷ Wait (thread 2)
    ∷ Deliver (send 1 2) (thread 2) (thread 1) (thread 1) 0 []
    ∷ Local (thread 1)
    ∷ Local (thread 2)
    ∷ Local (thread 3) ∷ []

own_name_ending : ends own_name own_name_trace ≡ quiet []
own_name_ending = refl

-- An ipc that ended well without receiving clears `from`, and leaves ActualSender.
abbrev pub answered_once : Machine
answered_once = machine_of 1 (
    declared 1 0 1 (sends 2 ∷ receives ∷ [])
    ∷ declared 2 0 1 (receives ∷ Ipc Last (Fixed NilThread) None None ∷ []) ∷ [])

abbrev pub answered_once_trace : List Step
answered_once_trace =
    Begin (send 1 1)
    ∷ Queue (send 1 1)
    ∷ Wait (thread 2)
    ∷ Deliver (send 1 1) (thread 2) (thread 1) (thread 1) 0 []
    ∷ Begin (send 2 1)
    ∷ Queue (send 2 1)
    ∷ Wait (thread 1)
    ∷ Deliver (send 2 1) (thread 1) (thread 2) (thread 2) 0 []
    ∷ Local (thread 1)
    ∷ Local (thread 2) ∷ []

answered_once_ending : ends answered_once answered_once_trace ≡ quiet []
answered_once_ending = refl

answered_once_view : reports answered_once answered_once_trace ≡ Some (
    report 1 IsEnded 0 (id 2) (id 2) (0 ∷ [])
    ∷ report 2 IsEnded 0 NilThread (id 1) (0 ∷ []) ∷ [])
answered_once_view = refl

-- `X` is of the current sender's processor, not of the originator's.
abbrev pub originator_elsewhere : Machine
originator_elsewhere = machine_of 2 (
    declared 1 1 1 []
    ∷ declared 2 0 1 (Vs (Fixed (id 1)) ∷ Tag 0x1000 ∷ sends 3 ∷ [])
    ∷ declared 3 0 1 (receives ∷ []) ∷ [])

abbrev pub originator_elsewhere_trace : List Step
originator_elsewhere_trace =
    Local (thread 1)
    ∷ Local (thread 2)
    ∷ Local (thread 2)
    ∷ Begin (send 2 1)
    ∷ Queue (send 2 1)
    ∷ Wait (thread 3)
    ∷ Deliver (send 2 1) (thread 3) (thread 1) (thread 2) 0x1000 []
    ∷ Local (thread 2)
    ∷ Local (thread 3) ∷ []

originator_elsewhere_ending : ends originator_elsewhere originator_elsewhere_trace ≡ quiet []
originator_elsewhere_ending = refl
