-- Worked rows: what servers need, ids in registers and branches.
use Rattle.std.specs.Prelude.{◌≡◌, true, false, Some, None, List, [], ◌∷◌, map, refl}
use Rattle.l4_model.specs.Words.{W64, W32, NilThread, AnyThread, AnyLocalThread, LocalThread, GlobalThread, global_id, is_same}
use Rattle.l4_model.specs.Machine.{Machine, Instr, Fixed, Last, InRegister, CancelReceive, Delete, Set, From, Tag, Vs, Ipc, Ask, OnLabel, OnWord, OnFrom, Jump, End, machine_of, retargeting_machine_of}
use Rattle.l4_model.specs.Rules.{assigned_by}
use Rattle.l4_model.specs.Steps.{Step, Local, Begin, Queue, Deliver, Wait, Order, Obey, Retarget, SendNobody}
use Rattle.l4_model.specs.History.{IsEnded, IsDeleted, IsReceiving}
use Rattle.l4_model.proofs.Rows.Writing.{thread, id, send, sends, receives, declared, ends, quiet, reports, report}

-- A branch by the label tests the MR0 that the message wrote, and so does one by a word.
abbrev pub dispatched : Machine
dispatched = machine_of 1 (
    declared 1 0 1 (Set 1 5 ∷ Tag 0x70001 ∷ sends 2 ∷ [])
    ∷ declared 2 0 2 (Tag 0x90000 ∷ Set 1 6 ∷ receives ∷ OnLabel 9 6 ∷ OnLabel 7 7 ∷ Set 2 1 ∷ End ∷ OnWord 1 6 6 ∷ OnWord 1 5 10 ∷ Set 3 1 ∷ Set 4 1 ∷ []) ∷ [])

abbrev pub dispatched_trace : List Step
dispatched_trace =
    Local (thread 1)
    ∷ Local (thread 1)
    ∷ Begin (send 1 1)
    ∷ Queue (send 1 1)
    ∷ Local (thread 2)
    ∷ Local (thread 2)
    ∷ Wait (thread 2)
    ∷ Deliver (send 1 1) (thread 2) (thread 1) (thread 1) 0x70001 (5 ∷ [])
    ∷ Local (thread 2)
    ∷ Local (thread 2)
    ∷ Local (thread 2)
    ∷ Local (thread 2)
    ∷ Local (thread 2)
    ∷ Local (thread 2)
    ∷ Local (thread 1) ∷ []

dispatched_ending : ends dispatched dispatched_trace ≡ quiet []
dispatched_ending = refl

dispatched_view : reports dispatched dispatched_trace ≡ Some (
    report 1 IsEnded 0 NilThread NilThread (0 ∷ 5 ∷ [])
    ∷ report 2 IsEnded 0 (id 1) (id 1) (0x70001 ∷ 5 ∷ 0 ∷ 0 ∷ 1 ∷ []) ∷ [])
dispatched_view = refl

-- The label stands above the flags and the number of words; MR0 can be tested whole.
abbrev pub labels : Machine
labels = machine_of 1 (declared 1 0 1 (Tag 0x73002 ∷ OnLabel 0x73 5 ∷ OnLabel 7 4 ∷ Set 1 1 ∷ OnWord 0 0x73002 6 ∷ Set 2 1 ∷ Set 3 1 ∷ []) ∷ [])

labels_view : reports labels (Local (thread 1) ∷ Local (thread 1) ∷ Local (thread 1) ∷ Local (thread 1) ∷ Local (thread 1) ∷ Local (thread 1) ∷ []) ≡ Some (
    report 1 IsEnded 0 NilThread NilThread (0x73002 ∷ 0 ∷ 0 ∷ 1 ∷ []) ∷ [])
labels_view = refl

-- The word of `from`: 0 where nobody is, else as the format has it. Two callers are kept so, and
-- answered in the other order by what a register has when the ipc begins.
abbrev pub kept : Machine
kept = machine_of 1 (
    declared 1 0 1 (sends 3 ∷ receives ∷ [])
    ∷ declared 2 0 1 (sends 3 ∷ receives ∷ [])
    ∷ declared 3 0 2 (Set 7 9 ∷ From W64 7 ∷ receives ∷ From W64 4 ∷ receives ∷ From W64 5 ∷ From W32 6 ∷ Ipc (InRegister W64 5) (Fixed NilThread) None None ∷ Ipc (InRegister W64 4) (Fixed NilThread) None None ∷ []) ∷ [])

abbrev pub kept_trace : List Step
kept_trace =
    Begin (send 1 1)
    ∷ Queue (send 1 1)
    ∷ Local (thread 3)
    ∷ Local (thread 3)
    ∷ Wait (thread 3)
    ∷ Deliver (send 1 1) (thread 3) (thread 1) (thread 1) 0 []
    ∷ Wait (thread 1)
    ∷ Local (thread 3)
    ∷ Wait (thread 3)
    ∷ Begin (send 2 1)
    ∷ Queue (send 2 1)
    ∷ Deliver (send 2 1) (thread 3) (thread 2) (thread 2) 0 []
    ∷ Wait (thread 2)
    ∷ Local (thread 3)
    ∷ Local (thread 3)
    ∷ Begin (send 3 1)
    ∷ Queue (send 3 1)
    ∷ Deliver (send 3 1) (thread 2) (thread 3) (thread 3) 0 []
    ∷ Begin (send 3 2)
    ∷ Queue (send 3 2)
    ∷ Deliver (send 3 2) (thread 1) (thread 3) (thread 3) 0 []
    ∷ Local (thread 1)
    ∷ Local (thread 2)
    ∷ Local (thread 3) ∷ []

kept_ending : ends kept kept_trace ≡ quiet []
kept_ending = refl

kept_view : reports kept kept_trace ≡ Some (
    report 1 IsEnded 0 (id 3) (id 3) (0 ∷ [])
    ∷ report 2 IsEnded 0 (id 3) (id 3) (0 ∷ [])
    ∷ report 3 IsEnded 0 NilThread (id 2) (0 ∷ 0 ∷ 0 ∷ 0 ∷ 0x100000001 ∷ 0x200000001 ∷ 0x8001 ∷ 0 ∷ []) ∷ [])
kept_view = refl

-- One word names other threads in other formats.
abbrev pub by_format : Machine
by_format = machine_of 1 (
    declared 1 0 1 (Set 4 0x8001 ∷ Ipc (InRegister W64 4) (Fixed NilThread) None None ∷ Ipc (InRegister W32 4) (Fixed NilThread) None None ∷ [])
    ∷ declared 2 0 1 (receives ∷ []) ∷ [])

abbrev pub by_format_trace : List Step
by_format_trace =
    Local (thread 1)
    ∷ Begin (send 1 1)
    ∷ SendNobody (send 1 1)
    ∷ Begin (send 1 2)
    ∷ Queue (send 1 2)
    ∷ Wait (thread 2)
    ∷ Deliver (send 1 2) (thread 2) (thread 1) (thread 1) 0 []
    ∷ Local (thread 1)
    ∷ Local (thread 2) ∷ []

by_format_ending : ends by_format by_format_trace ≡ quiet []
by_format_ending = refl

-- Words of nilthread and anythread in a register: no phase, and an open receive. The register is the
-- one that is named, and no other.
abbrev pub open_word : Machine
open_word = machine_of 1 (
    declared 1 0 1 (Set 4 0xFFFFFFFFFFFFFFFF ∷ Ipc (InRegister W64 5) (InRegister W64 3) None None ∷ Ipc (InRegister W64 5) (InRegister W64 4) None None ∷ [])
    ∷ declared 2 0 1 (sends 1 ∷ []) ∷ [])

abbrev pub open_word_trace : List Step
open_word_trace =
    Local (thread 1)
    ∷ Local (thread 1)
    ∷ Wait (thread 1)
    ∷ Begin (send 2 1)
    ∷ Queue (send 2 1)
    ∷ Deliver (send 2 1) (thread 1) (thread 2) (thread 2) 0 []
    ∷ Local (thread 1)
    ∷ Local (thread 2) ∷ []

open_word_ending : ends open_word open_word_trace ≡ quiet []
open_word_ending = refl

-- A closed receive from `last`: another thread, though it came first, waits on.
abbrev pub closed_for_last : Machine
closed_for_last = machine_of 1 (
    declared 1 0 1 (receives ∷ Ipc (Fixed NilThread) Last None None ∷ [])
    ∷ declared 2 0 1 (sends 1 ∷ sends 1 ∷ [])
    ∷ declared 3 0 1 (sends 1 ∷ []) ∷ [])

abbrev pub closed_for_last_trace : List Step
closed_for_last_trace =
    Wait (thread 1)
    ∷ Begin (send 2 1)
    ∷ Queue (send 2 1)
    ∷ Deliver (send 2 1) (thread 1) (thread 2) (thread 2) 0 []
    ∷ Begin (send 3 1)
    ∷ Queue (send 3 1)
    ∷ Wait (thread 1)
    ∷ Begin (send 2 2)
    ∷ Queue (send 2 2)
    ∷ Deliver (send 2 2) (thread 1) (thread 2) (thread 2) 0 []
    ∷ Local (thread 1)
    ∷ Local (thread 2) ∷ []

closed_for_last_ending : ends closed_for_last closed_for_last_trace ≡ quiet ((send 3 1, id 1) ∷ [])
closed_for_last_ending = refl

-- `last` and a register for VirtualSender and for an order. `last` is whom the message shows, not
-- who sent it, and so is the word of `from`.
abbrev pub named_by_last : Machine
named_by_last = machine_of 1 (
    declared 1 0 1 (receives ∷ [])
    ∷ declared 2 0 1 (Vs (Fixed (id 1)) ∷ Tag 0x1000 ∷ sends 3 ∷ [])
    ∷ declared 3 0 2 (receives ∷ From W64 1 ∷ Vs Last ∷ Ask Last CancelReceive ∷ Ask Last Delete ∷ []) ∷ [])

abbrev pub named_by_last_trace : List Step
named_by_last_trace =
    Local (thread 2)
    ∷ Local (thread 2)
    ∷ Wait (thread 3)
    ∷ Begin (send 2 1)
    ∷ Queue (send 2 1)
    ∷ Deliver (send 2 1) (thread 3) (thread 1) (thread 2) 0x1000 []
    ∷ Local (thread 3)
    ∷ Local (thread 3)
    ∷ Local (thread 3)
    ∷ Order (thread 3) (thread 1) Delete
    ∷ Obey (thread 3)
    ∷ Local (thread 3)
    ∷ Local (thread 2) ∷ []

named_by_last_ending : ends named_by_last named_by_last_trace ≡ quiet []
named_by_last_ending = refl

named_by_last_view : reports named_by_last named_by_last_trace ≡ Some (
    report 1 IsDeleted 0 NilThread NilThread []
    ∷ report 2 IsEnded 0 NilThread (id 1) []
    ∷ report 3 IsEnded 0 (id 1) (id 1) (0x1000 ∷ 0x100000001 ∷ []) ∷ [])
named_by_last_view = refl

abbrev pub named_by_word : Machine
named_by_word = machine_of 1 (
    declared 1 0 1 (Set 4 0x200000001 ∷ Vs (InRegister W64 4) ∷ Ask (InRegister W64 4) Delete ∷ Ask (InRegister W64 5) Delete ∷ [])
    ∷ declared 2 0 1 (receives ∷ []) ∷ [])

abbrev pub named_by_word_trace : List Step
named_by_word_trace =
    Local (thread 1)
    ∷ Local (thread 1)
    ∷ Order (thread 1) (thread 2) Delete
    ∷ Obey (thread 1)
    ∷ Local (thread 1)
    ∷ Local (thread 1) ∷ []

named_by_word_ending : ends named_by_word named_by_word_trace ≡ quiet []
named_by_word_ending = refl

named_by_word_view : reports named_by_word named_by_word_trace ≡ Some (
    report 1 IsEnded 2 NilThread (id 2) (0 ∷ 0 ∷ 0 ∷ 0 ∷ 0x200000001 ∷ [])
    ∷ report 2 IsDeleted 0 NilThread NilThread [] ∷ [])
named_by_word_view = refl

-- A branch by `from`: nilthread before the first message, then whom it shows, not who sent it.
abbrev pub by_sender : Machine
by_sender = machine_of 1 (
    declared 1 0 1 (OnFrom NilThread 2 ∷ Set 1 1 ∷ receives ∷ OnFrom (id 2) 7 ∷ OnFrom (id 3) 6 ∷ Set 2 1 ∷ Set 3 1 ∷ [])
    ∷ declared 2 0 2 (Vs (Fixed (id 3)) ∷ Tag 0x1000 ∷ sends 1 ∷ [])
    ∷ declared 3 0 2 [] ∷ [])

abbrev pub by_sender_trace : List Step
by_sender_trace =
    Local (thread 1)
    ∷ Wait (thread 1)
    ∷ Local (thread 2)
    ∷ Local (thread 2)
    ∷ Begin (send 2 1)
    ∷ Queue (send 2 1)
    ∷ Deliver (send 2 1) (thread 1) (thread 3) (thread 2) 0x1000 []
    ∷ Local (thread 1)
    ∷ Local (thread 1)
    ∷ Local (thread 1)
    ∷ Local (thread 1)
    ∷ Local (thread 2)
    ∷ Local (thread 3) ∷ []

by_sender_view : reports by_sender by_sender_trace ≡ Some (
    report 1 IsEnded 0 (id 3) (id 2) (0x1000 ∷ 0 ∷ 0 ∷ 1 ∷ [])
    ∷ report 2 IsEnded 0 NilThread (id 3) []
    ∷ report 3 IsEnded 0 NilThread NilThread [] ∷ [])
by_sender_view = refl

same : (is_same NilThread NilThread ≡ true) × (is_same NilThread AnyThread ≡ false) × (is_same AnyThread AnyThread ≡ true) × (is_same AnyThread AnyLocalThread ≡ false) × (is_same AnyLocalThread AnyLocalThread ≡ true)
    × (is_same (LocalThread 64) (LocalThread 64) ≡ true) × (is_same (LocalThread 64) (LocalThread 128) ≡ false) × (is_same (LocalThread 64) NilThread ≡ false) × (is_same (id 1) (id 1) ≡ true) × (is_same (id 1) (id 2) ≡ false)
    × (is_same (id 1) (GlobalThread (global_id 1 2)) ≡ false)
same = (refl, refl, refl, refl, refl, refl, refl, refl, refl, refl, refl)

-- Which register these assign a value.
assigning : map assigned_by (From W64 4 ∷ OnLabel 7 1 ∷ OnWord 3 7 1 ∷ OnFrom NilThread 1 ∷ Vs Last ∷ [])
    ≡ Some 4 ∷ None ∷ None ∷ None ∷ None ∷ []
assigning = refl

-- Profile 2: a receive phase that a register closed turns like any other.
abbrev pub turned : Machine
turned = retargeting_machine_of 1 (
    declared 1 0 1 (Set 4 0x200000001 ∷ Ipc (InRegister W64 4) (InRegister W64 4) None None ∷ [])
    ∷ declared 2 0 1 (receives ∷ Vs Last ∷ Tag 0x1000 ∷ sends 3 ∷ [])
    ∷ declared 3 0 2 (receives ∷ Ipc Last (Fixed NilThread) None None ∷ []) ∷ [])

abbrev pub turned_trace : List Step
turned_trace =
    Local (thread 1)
    ∷ Begin (send 1 1)
    ∷ Queue (send 1 1)
    ∷ Wait (thread 2)
    ∷ Deliver (send 1 1) (thread 2) (thread 1) (thread 1) 0 []
    ∷ Local (thread 2)
    ∷ Local (thread 2)
    ∷ Begin (send 2 1)
    ∷ Queue (send 2 1)
    ∷ Wait (thread 3)
    ∷ Deliver (send 2 1) (thread 3) (thread 1) (thread 2) 0x1000 []
    ∷ Begin (send 3 1)
    ∷ Retarget (send 2 1)
    ∷ Queue (send 3 1)
    ∷ Deliver (send 3 1) (thread 1) (thread 3) (thread 3) 0 []
    ∷ Local (thread 1)
    ∷ Local (thread 2)
    ∷ Local (thread 3) ∷ []

turned_ending : ends turned turned_trace ≡ quiet []
turned_ending = refl

-- A lock server of one thread: label 1 takes the lock, label 2 gives it back. Who asks for it
-- meanwhile is kept in a register, and answered when it is given back.
abbrev pub lock : Machine
lock = machine_of 1 (
    declared 1 0 2 takes_the_lock
    ∷ declared 2 0 2 takes_the_lock
    ∷ declared 3 0 1 (receives ∷ OnLabel 1 3 ∷ Jump 0 ∷ Ipc Last (Fixed AnyThread) (Some 0) None ∷ OnLabel 2 0 ∷ From W64 4 ∷ receives ∷ Ipc (InRegister W64 4) (Fixed AnyThread) None None ∷ Jump 4 ∷ []) ∷ [])
  where
    takes_the_lock : List Instr
    takes_the_lock = Tag 0x10000 ∷ Ipc (Fixed (id 3)) (Fixed (id 3)) None None ∷ Tag 0x20000 ∷ sends 3 ∷ []

abbrev pub lock_trace : List Step
lock_trace =
    Wait (thread 3)
    ∷ Local (thread 1)
    ∷ Begin (send 1 1)
    ∷ Queue (send 1 1)
    ∷ Deliver (send 1 1) (thread 3) (thread 1) (thread 1) 0x10000 []
    ∷ Local (thread 3)
    ∷ Begin (send 3 1)
    ∷ Queue (send 3 1)
    ∷ Deliver (send 3 1) (thread 1) (thread 3) (thread 3) 0x10000 []
    ∷ Local (thread 2)
    ∷ Begin (send 2 1)
    ∷ Queue (send 2 1)
    ∷ Deliver (send 2 1) (thread 3) (thread 2) (thread 2) 0x10000 []
    ∷ Local (thread 3)
    ∷ Local (thread 3)
    ∷ Wait (thread 3)
    ∷ Local (thread 1)
    ∷ Begin (send 1 2)
    ∷ Queue (send 1 2)
    ∷ Deliver (send 1 2) (thread 3) (thread 1) (thread 1) 0x20000 []
    ∷ Begin (send 3 2)
    ∷ Queue (send 3 2)
    ∷ Deliver (send 3 2) (thread 2) (thread 3) (thread 3) 0x20000 []
    ∷ Local (thread 2)
    ∷ Begin (send 2 2)
    ∷ Queue (send 2 2)
    ∷ Deliver (send 2 2) (thread 3) (thread 2) (thread 2) 0x20000 []
    ∷ Local (thread 3)
    ∷ Local (thread 3)
    ∷ Wait (thread 3)
    ∷ Local (thread 1)
    ∷ Local (thread 2) ∷ []

lock_ending : ends lock lock_trace ≡ quiet []
lock_ending = refl

lock_view : reports lock lock_trace ≡ Some (
    report 1 IsEnded 0 NilThread (id 3) []
    ∷ report 2 IsEnded 0 NilThread (id 3) []
    ∷ report 3 IsReceiving 0 (id 2) (id 2) (0x20000 ∷ 0 ∷ 0 ∷ 0 ∷ 0x200000001 ∷ []) ∷ [])
lock_view = refl
