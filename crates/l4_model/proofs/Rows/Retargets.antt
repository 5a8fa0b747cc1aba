-- Worked rows: profile 2, where the originator's waiting follows its message.
use Rattle.std.specs.Prelude.{ℕ, ◌≡◌, Some, None, List, [], ◌∷◌, ◌++◌, refl}
use Rattle.l4_model.specs.Words.{NilThread}
use Rattle.l4_model.specs.Machine.{Machine, Fixed, Last, Tag, Vs, Ipc, Ask, Delete, Declaration, machine_of, retargeting_machine_of}
use Rattle.l4_model.specs.Steps.{Step, Local, Begin, Queue, Deliver, Wait, SendTimeout, SendNobody, Order, Obey, Retarget}
use Rattle.l4_model.specs.History.{IsEnded, refused_place}
use Rattle.l4_model.proofs.Rows.Writing.{thread, id, send, sends, receives, declared, ends, quiet, spent, reports, report}

-- 1.1 calls 2.1, which hands the message on to 3.1 in the name of 1.1; 3.1 answers 1.1.
abbrev pub hand_on : (first second third : ℕ) → List Declaration
hand_on first second third =
    declared 1 first 1 (Ipc (Fixed (id 2)) (Fixed (id 2)) None None ∷ [])
    ∷ declared 2 second 1 (receives ∷ Vs (Fixed (id 1)) ∷ Tag 0x1000 ∷ sends 3 ∷ [])
    ∷ declared 3 third 2 (receives ∷ Ipc Last (Fixed NilThread) None None ∷ []) ∷ []

abbrev pub one_processor : Machine
one_processor = retargeting_machine_of 1 (hand_on 0 0 0)

abbrev pub to_the_hand_on : List Step
to_the_hand_on =
    Begin (send 1 1)
    ∷ Queue (send 1 1)
    ∷ Wait (thread 2)
    ∷ Deliver (send 1 1) (thread 2) (thread 1) (thread 1) 0 []
    ∷ Wait (thread 3)
    ∷ Local (thread 2)
    ∷ Local (thread 2)
    ∷ Begin (send 2 1)
    ∷ Queue (send 2 1)
    ∷ Deliver (send 2 1) (thread 3) (thread 1) (thread 2) 0x1000 [] ∷ []

abbrev pub answered : List Step
answered =
    Begin (send 3 1)
    ∷ Queue (send 3 1)
    ∷ Deliver (send 3 1) (thread 1) (thread 3) (thread 3) 0 []
    ∷ Local (thread 2)
    ∷ Local (thread 1)
    ∷ Local (thread 3) ∷ []

abbrev pub one_processor_trace : List Step
one_processor_trace = to_the_hand_on ++ Retarget (send 2 1) ∷ answered

one_processor_ending : ends one_processor one_processor_trace ≡ quiet []
one_processor_ending = refl

one_processor_view : reports one_processor one_processor_trace ≡ Some (
    report 1 IsEnded 0 (id 3) (id 3) (0 ∷ [])
    ∷ report 2 IsEnded 0 NilThread (id 1) (0 ∷ [])
    ∷ report 3 IsEnded 0 NilThread (id 2) (0 ∷ []) ∷ [])
one_processor_view = refl

-- Nothing is still while one is owed.
owed_is_not_still : ends one_processor (to_the_hand_on ++ Local (thread 2) ∷ Begin (send 3 1) ∷ []) ≡ spent ((send 3 1, id 1) ∷ [])
owed_is_not_still = refl

-- The answer is not queued before.
answer_too_early : refused_place one_processor (to_the_hand_on ++ answered) ≡ Some 12
answer_too_early = refl

-- It is done once.
retargeted_twice : refused_place one_processor (to_the_hand_on ++ Retarget (send 2 1) ∷ Retarget (send 2 1) ∷ []) ≡ Some 12
retargeted_twice = refl

-- Nothing is owed for a message that is not propagated.
nothing_owed : refused_place one_processor (Begin (send 1 1) ∷ Queue (send 1 1) ∷ Wait (thread 2) ∷ Deliver (send 1 1) (thread 2) (thread 1) (thread 1) 0 [] ∷ Retarget (send 1 1) ∷ []) ≡ Some 5
nothing_owed = refl

-- In profile 1 nothing is owed, and the originator waits for ever.
abbrev pub profile_one : Machine
profile_one = machine_of 1 (hand_on 0 0 0)

abbrev pub profile_one_trace : List Step
profile_one_trace = to_the_hand_on ++ Begin (send 3 1) ∷ Queue (send 3 1) ∷ Local (thread 2) ∷ []

profile_one_ending : ends profile_one profile_one_trace ≡ quiet ((send 3 1, id 1) ∷ [])
profile_one_ending = refl

profile_one_refuses : refused_place profile_one one_processor_trace ≡ Some 11
profile_one_refuses = refl

-- On three processors, the retarget between the answer's beginning and its queue step.
abbrev pub three_processors : Machine
three_processors = retargeting_machine_of 3 (hand_on 0 1 2)

abbrev pub three_processors_beginning : List Step
three_processors_beginning =
    Wait (thread 2)
    ∷ Wait (thread 3)
    ∷ Begin (send 1 1)
    ∷ Queue (send 1 1)
    ∷ Deliver (send 1 1) (thread 2) (thread 1) (thread 1) 0x4000 []
    ∷ Local (thread 2)
    ∷ Local (thread 2)
    ∷ Begin (send 2 1)
    ∷ Queue (send 2 1)
    ∷ Deliver (send 2 1) (thread 3) (thread 1) (thread 2) 0x5000 []
    ∷ Begin (send 3 1) ∷ []

abbrev pub three_processors_end : List Step
three_processors_end =
    Deliver (send 3 1) (thread 1) (thread 3) (thread 3) 0x4000 []
    ∷ Local (thread 1)
    ∷ Local (thread 2)
    ∷ Local (thread 3) ∷ []

abbrev pub three_processors_trace : List Step
three_processors_trace = three_processors_beginning ++ Retarget (send 2 1) ∷ Queue (send 3 1) ∷ three_processors_end

three_processors_ending : ends three_processors three_processors_trace ≡ quiet []
three_processors_ending = refl

three_processors_exchanged : refused_place three_processors (three_processors_beginning ++ Queue (send 3 1) ∷ Retarget (send 2 1) ∷ three_processors_end) ≡ Some 12
three_processors_exchanged = refl

-- The originator is in the send phase of a call: the receive phase that follows is for the new partner.
abbrev pub in_send_phase : Machine
in_send_phase = retargeting_machine_of 1 (
    declared 1 0 1 (Ipc (Fixed (id 4)) (Fixed (id 2)) None None ∷ [])
    ∷ declared 2 0 1 (Vs (Fixed (id 1)) ∷ Tag 0x1000 ∷ sends 3 ∷ [])
    ∷ declared 3 0 2 (receives ∷ sends 1 ∷ [])
    ∷ declared 4 0 2 (receives ∷ []) ∷ [])

abbrev pub in_send_phase_trace : List Step
in_send_phase_trace =
    Begin (send 1 1)
    ∷ Queue (send 1 1)
    ∷ Local (thread 2)
    ∷ Local (thread 2)
    ∷ Wait (thread 3)
    ∷ Begin (send 2 1)
    ∷ Queue (send 2 1)
    ∷ Deliver (send 2 1) (thread 3) (thread 1) (thread 2) 0x1000 []
    ∷ Retarget (send 2 1)
    ∷ Begin (send 3 1)
    ∷ Queue (send 3 1)
    ∷ Wait (thread 4)
    ∷ Deliver (send 1 1) (thread 4) (thread 1) (thread 1) 0 []
    ∷ Deliver (send 3 1) (thread 1) (thread 3) (thread 3) 0 []
    ∷ Local (thread 1)
    ∷ Local (thread 2)
    ∷ Local (thread 3)
    ∷ Local (thread 4) ∷ []

in_send_phase_ending : ends in_send_phase in_send_phase_trace ≡ quiet []
in_send_phase_ending = refl

-- A receive phase for anybody, or for another thread, stays as it is.
abbrev pub open_receive : Machine
open_receive = retargeting_machine_of 1 (
    declared 1 0 1 (receives ∷ [])
    ∷ declared 2 0 1 (Vs (Fixed (id 1)) ∷ Tag 0x1000 ∷ sends 3 ∷ Tag 0 ∷ sends 1 ∷ [])
    ∷ declared 3 0 2 (receives ∷ []) ∷ [])

abbrev pub open_receive_trace : List Step
open_receive_trace =
    Wait (thread 1)
    ∷ Local (thread 2)
    ∷ Local (thread 2)
    ∷ Wait (thread 3)
    ∷ Begin (send 2 1)
    ∷ Queue (send 2 1)
    ∷ Deliver (send 2 1) (thread 3) (thread 1) (thread 2) 0x1000 []
    ∷ Retarget (send 2 1)
    ∷ Local (thread 2)
    ∷ Begin (send 2 2)
    ∷ Queue (send 2 2)
    ∷ Deliver (send 2 2) (thread 1) (thread 2) (thread 2) 0 []
    ∷ Local (thread 1)
    ∷ Local (thread 2)
    ∷ Local (thread 3) ∷ []

open_receive_ending : ends open_receive open_receive_trace ≡ quiet []
open_receive_ending = refl

-- A deleted originator owes too. While it does, the answer is not refused; then it is.
abbrev pub deleted_originator : Machine
deleted_originator = retargeting_machine_of 1 (
    hand_on 0 0 0 ++ declared 4 0 3 (Ask (Fixed (id 1)) Delete ∷ []) ∷ [])

abbrev pub deleted_originator_trace : List Step
deleted_originator_trace =
    to_the_hand_on
    ++ Order (thread 4) (thread 1) Delete
    ∷ Obey (thread 4)
    ∷ Begin (send 3 1)
    ∷ Retarget (send 2 1)
    ∷ SendNobody (send 3 1)
    ∷ Local (thread 2)
    ∷ Local (thread 3)
    ∷ Local (thread 4) ∷ []

deleted_originator_ending : ends deleted_originator deleted_originator_trace ≡ quiet []
deleted_originator_ending = refl

no_refusal_while_owed : refused_place deleted_originator (
    to_the_hand_on ++ Order (thread 4) (thread 1) Delete ∷ Obey (thread 4) ∷ Begin (send 3 1) ∷ SendNobody (send 3 1) ∷ []) ≡ Some 14
no_refusal_while_owed = refl

-- A zero answer is not refused while it must wait, though the originator does not accept it yet.
abbrev pub zero_answer : Machine
zero_answer = retargeting_machine_of 1 (
    declared 1 0 1 (Ipc (Fixed (id 2)) (Fixed (id 2)) None None ∷ [])
    ∷ declared 2 0 1 (receives ∷ Vs (Fixed (id 1)) ∷ Tag 0x1000 ∷ sends 3 ∷ [])
    ∷ declared 3 0 2 (receives ∷ Ipc Last (Fixed NilThread) (Some 0) None ∷ []) ∷ [])

zero_answer_waits : refused_place zero_answer (to_the_hand_on ++ Begin (send 3 1) ∷ SendTimeout (send 3 1) ∷ []) ≡ Some 12
zero_answer_waits = refl

zero_answer_ending : ends zero_answer (to_the_hand_on ++ Begin (send 3 1) ∷ Retarget (send 2 1) ∷ Queue (send 3 1) ∷ Deliver (send 3 1) (thread 1) (thread 3) (thread 3) 0 [] ∷ Local (thread 2) ∷ Local (thread 1) ∷ Local (thread 3) ∷ []) ≡ quiet []
zero_answer_ending = refl
