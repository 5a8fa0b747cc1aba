-- Worked rows of core runs of profile 2, computed.
use Rattle.std.specs.Prelude.{ℕ, ◌≡◌, None, true, false, is_some, List, [], ◌∷◌, refl}
use Rattle.l4_model.specs.Words.{NilThread}
use Rattle.l4_model.specs.Machine.{Machine, Fixed, Tag, Vs, Ipc, Ask, Delete, machine_of, retargeting_machine_of}
use Rattle.l4_model.specs.Steps.{Local, Begin, Queue, Deliver, Wait, SendNobody, ReceiveNobody, Order, Obey, Retarget}
use Rattle.l4_model.specs.World.{Owed}
use Rattle.l4_model.proofs.Rows.Writing.{thread, id, send, sends, declared}
use Rattle.l4_model.proofs.Rows.Retargets.{hand_on, one_processor, one_processor_trace, three_processors, three_processors_trace, profile_one, profile_one_trace}
use Rattle.l4_core_model.specs.Letters.{RetargetLetter}
use Rattle.l4_core_model.specs.Local.{opening_local}
use Rattle.l4_core_model.specs.Mail.{handle}
use Rattle.l4_core_model.specs.Runs.{told, at_rest}
use Rattle.l4_core_model.specs.Schedules.{replay, run}

one_processor_told : told (run one_processor 100).events ≡ one_processor_trace
one_processor_told = refl

one_processor_rests : at_rest one_processor (run one_processor 100).system ≡ true
one_processor_rests = refl

profile_one_told : told (run profile_one 100).events ≡ profile_one_trace
profile_one_told = refl

profile_one_rests : at_rest profile_one (run profile_one 100).system ≡ true
profile_one_rests = refl

abbrev three_processors_schedule : List ℕ
three_processors_schedule = 1 ∷ 2 ∷ 0 ∷ 1 ∷ 1 ∷ 1 ∷ 1 ∷ 2 ∷ 2 ∷ 0 ∷ 0 ∷ 0 ∷ 0 ∷ 1 ∷ 1 ∷ 2 ∷ 2 ∷ []

three_processors_told : told (replay three_processors three_processors_schedule).events ≡ three_processors_trace
three_processors_told = refl

three_processors_rests : at_rest three_processors (replay three_processors three_processors_schedule).system ≡ true
three_processors_rests = refl

-- A letter of a retarget is lawful at the originator's processor, where the new partner is of another and all three are declared, in profile 2.
abbrev owed : (originator old_partner new_partner : ℕ) → Owed
owed o a r = record { send = send 2 1; originator = thread o; old_partner = thread a; new_partner = thread r }

lawful : is_some (handle three_processors 0 (opening_local three_processors 0) (record { stamp = 1; content = RetargetLetter (owed 1 2 3) })) ≡ true
lawful = refl

not_its_processor : is_some (handle three_processors 1 (opening_local three_processors 1) (record { stamp = 1; content = RetargetLetter (owed 1 2 3) })) ≡ false
not_its_processor = refl

from_itself : is_some (handle three_processors 0 (opening_local three_processors 0) (record { stamp = 1; content = RetargetLetter (owed 1 2 1) })) ≡ false
from_itself = refl

of_undeclared : is_some (handle three_processors 0 (opening_local three_processors 0) (record { stamp = 1; content = RetargetLetter (owed 1 7 3) })) ≡ false
of_undeclared = refl

-- The same threads in profile 1.
abbrev three_in_profile_one : Machine
three_in_profile_one = machine_of 3 (hand_on 0 1 2)

not_in_profile_one :
    is_some (handle three_in_profile_one 0 (opening_local three_in_profile_one 0) (record { stamp = 1; content = RetargetLetter (owed 1 2 3) })) ≡ false
not_in_profile_one = refl

-- 2.1 hands a message on to 3.1 in the name of 1.1, and 3.1 is deleted from elsewhere before its duty. The duty is done all the same, and before the
-- send of 4.1 that waits at 3.1 is refused. So 1.1 awaits a deleted thread, which ends its receive phase.
abbrev deleted_while_owed : Machine
deleted_while_owed = retargeting_machine_of 2 (
    declared 1 0 1 (Ipc (Fixed NilThread) (Fixed (id 2)) None None ∷ [])
    ∷ declared 2 0 1 (Vs (Fixed (id 1)) ∷ Tag 0x1000 ∷ sends 3 ∷ [])
    ∷ declared 3 0 1 (Ipc (Fixed NilThread) (Fixed (id 1)) None None ∷ [])
    ∷ declared 4 0 1 (sends 3 ∷ [])
    ∷ declared 5 1 1 (Ask (Fixed (id 3)) Delete ∷ []) ∷ [])

deleted_while_owed_told : told (replay deleted_while_owed (0 ∷ 0 ∷ 0 ∷ 0 ∷ 0 ∷ 0 ∷ 1 ∷ 0 ∷ 0 ∷ 0 ∷ 0 ∷ [])).events
    ≡ Wait (thread 1) ∷ Local (thread 2) ∷ Wait (thread 3) ∷ Begin (send 4 1) ∷ Queue (send 4 1) ∷ Local (thread 2)
    ∷ Begin (send 2 1) ∷ Queue (send 2 1) ∷ Deliver (send 2 1) (thread 3) (thread 1) (thread 2) 0x1000 []
    ∷ Order (thread 5) (thread 3) Delete ∷ Obey (thread 5) ∷ Retarget (send 2 1) ∷ ReceiveNobody (thread 1)
    ∷ SendNobody (send 4 1) ∷ []
deleted_while_owed_told = refl
