-- Worked rows: what a message carries.
use Rattle.std.specs.Prelude.{◌≡◌, Some, None, List, [], ◌∷◌, ◌++◌, map, replicate, refl}
use Rattle.l4_model.specs.Words.{W64, NilThread, AnyThread}
use Rattle.l4_model.specs.Machine.{Machine, Fixed, Last, Set, Add, Tag, Vs, Ipc, Jump, machine_of}
use Rattle.l4_model.specs.Steps.{Step, Local, Begin, Queue, Deliver, Wait, SendNobody}
use Rattle.l4_model.specs.History.{IsSending, IsReceiving, IsEnded}
use Rattle.l4_model.proofs.Rows.Writing.{thread, id, send, sends, receives, declared, ends, quiet, spent, reports, report}
use Rattle.std.specs.List.{range_with_len}

-- One send and one open wait.
abbrev pub first_path : Machine
first_path = machine_of 1 (
    declared 1 0 1 (Set 1 10 ∷ Tag 0x70001 ∷ sends 2 ∷ [])
    ∷ declared 2 0 2 (receives ∷ []) ∷ [])

abbrev pub first_path_trace : List Step
first_path_trace =
    Local (thread 1)
    ∷ Wait (thread 2)
    ∷ Local (thread 1)
    ∷ Begin (send 1 1)
    ∷ Queue (send 1 1)
    ∷ Deliver (send 1 1) (thread 2) (thread 1) (thread 1) 0x70001 (0xa ∷ [])
    ∷ Local (thread 2)
    ∷ Local (thread 1) ∷ []

first_path_ending : ends first_path first_path_trace ≡ quiet []
first_path_ending = refl

first_path_view : reports first_path first_path_trace ≡ Some (
    report 1 IsEnded 0 NilThread NilThread (0 ∷ 0xa ∷ [])
    ∷ report 2 IsEnded 0 (id 1) (id 1) (0x70001 ∷ 0xa ∷ []) ∷ [])
first_path_view = refl

-- The first two steps concern nobody else, so they may be exchanged.
abbrev pub first_path_exchanged_trace : List Step
first_path_exchanged_trace =
    Wait (thread 2)
    ∷ Local (thread 1)
    ∷ Local (thread 1)
    ∷ Begin (send 1 1)
    ∷ Queue (send 1 1)
    ∷ Deliver (send 1 1) (thread 2) (thread 1) (thread 1) 0x70001 (0xa ∷ [])
    ∷ Local (thread 2)
    ∷ Local (thread 1) ∷ []

first_path_exchanged_ending : ends first_path first_path_exchanged_trace ≡ quiet []
first_path_exchanged_ending = refl

-- A history without a step, which is not still.
abbrev pub nothing_told_trace : List Step
nothing_told_trace =
    []

nothing_told_ending : ends first_path nothing_told_trace ≡ spent []
nothing_told_ending = refl

-- The same on two processors: the tag says so.
abbrev pub two_processors : Machine
two_processors = machine_of 2 (
    declared 1 0 1 (Set 1 10 ∷ Tag 0x70001 ∷ sends 2 ∷ [])
    ∷ declared 2 1 2 (receives ∷ []) ∷ [])

abbrev pub two_processors_trace : List Step
two_processors_trace =
    Wait (thread 2)
    ∷ Local (thread 1)
    ∷ Local (thread 1)
    ∷ Begin (send 1 1)
    ∷ Queue (send 1 1)
    ∷ Deliver (send 1 1) (thread 2) (thread 1) (thread 1) 0x74001 (0xa ∷ [])
    ∷ Local (thread 1)
    ∷ Local (thread 2) ∷ []

two_processors_ending : ends two_processors two_processors_trace ≡ quiet []
two_processors_ending = refl

two_processors_view : reports two_processors two_processors_trace ≡ Some (
    report 1 IsEnded 0 NilThread NilThread (0 ∷ 0xa ∷ [])
    ∷ report 2 IsEnded 0 (id 1) (id 1) (0x74001 ∷ 0xa ∷ []) ∷ [])
two_processors_view = refl

-- Another order of the same.
abbrev pub two_processors_gathered_trace : List Step
two_processors_gathered_trace =
    Local (thread 1)
    ∷ Wait (thread 2)
    ∷ Local (thread 1)
    ∷ Begin (send 1 1)
    ∷ Queue (send 1 1)
    ∷ Deliver (send 1 1) (thread 2) (thread 1) (thread 1) 0x74001 (0xa ∷ [])
    ∷ Local (thread 2)
    ∷ Local (thread 1) ∷ []

two_processors_gathered_ending : ends two_processors two_processors_gathered_trace ≡ quiet []
two_processors_gathered_ending = refl

-- An empty message changes MR0 alone.
abbrev pub empty_message : Machine
empty_message = machine_of 1 (
    declared 1 0 1 (Tag 0x70000 ∷ sends 2 ∷ [])
    ∷ declared 2 0 2 (Set 1 5 ∷ receives ∷ []) ∷ [])

abbrev pub empty_message_trace : List Step
empty_message_trace =
    Local (thread 1)
    ∷ Local (thread 2)
    ∷ Begin (send 1 1)
    ∷ Queue (send 1 1)
    ∷ Wait (thread 2)
    ∷ Deliver (send 1 1) (thread 2) (thread 1) (thread 1) 0x70000 []
    ∷ Local (thread 1)
    ∷ Local (thread 2) ∷ []

empty_message_ending : ends empty_message empty_message_trace ≡ quiet []
empty_message_ending = refl

empty_message_view : reports empty_message empty_message_trace ≡ Some (
    report 1 IsEnded 0 NilThread NilThread (0 ∷ [])
    ∷ report 2 IsEnded 0 (id 1) (id 1) (0x70000 ∷ 0x5 ∷ []) ∷ [])
empty_message_view = refl

-- All 63 words, from one processor to another.
abbrev pub whole_message : Machine
whole_message = machine_of 2 (
    declared 1 0 1 (map (λ n. Set n n) (range_with_len 1 63) ++ Tag 0x7003f ∷ sends 2 ∷ [])
    ∷ declared 2 1 2 (receives ∷ []) ∷ [])

abbrev pub whole_message_trace : List Step
whole_message_trace =
    Wait (thread 2) ∷ replicate 64 (Local (thread 1)) ++ Begin (send 1 1)
    ∷ Queue (send 1 1)
    ∷ Deliver (send 1 1) (thread 2) (thread 1) (thread 1) 0x7403f (range_with_len 1 63)
    ∷ Local (thread 1)
    ∷ Local (thread 2) ∷ []

whole_message_ending : ends whole_message whole_message_trace ≡ quiet []
whole_message_ending = refl

whole_message_view : reports whole_message whole_message_trace ≡ Some (
    report 1 IsEnded 0 NilThread NilThread (0 ∷ range_with_len 1 63)
    ∷ report 2 IsEnded 0 (id 1) (id 1) (0x7403f ∷ range_with_len 1 63) ∷ [])
whole_message_view = refl

-- All 63 words, on one processor.
abbrev pub whole_message_within : Machine
whole_message_within = machine_of 1 (
    declared 1 0 1 (map (λ n. Set n n) (range_with_len 1 63) ++ Tag 0x7003f ∷ sends 2 ∷ [])
    ∷ declared 2 0 2 (receives ∷ []) ∷ [])

abbrev pub whole_message_within_trace : List Step
whole_message_within_trace =
    Wait (thread 2) ∷ replicate 64 (Local (thread 1)) ++ Begin (send 1 1)
    ∷ Queue (send 1 1)
    ∷ Deliver (send 1 1) (thread 2) (thread 1) (thread 1) 0x7003f (range_with_len 1 63)
    ∷ Local (thread 1)
    ∷ Local (thread 2) ∷ []

whole_message_within_ending : ends whole_message_within whole_message_within_trace ≡ quiet []
whole_message_within_ending = refl

whole_message_within_view : reports whole_message_within whole_message_within_trace ≡ Some (
    report 1 IsEnded 0 NilThread NilThread (0 ∷ range_with_len 1 63)
    ∷ report 2 IsEnded 0 (id 1) (id 1) (0x7003f ∷ range_with_len 1 63) ∷ [])
whole_message_within_view = refl

-- A call, and an answer to the last sender.
abbrev pub answer : Machine
answer = machine_of 1 (
    declared 1 0 1 (Set 1 41 ∷ Tag 0x10001 ∷ Ipc (Fixed (id 2)) (Fixed (id 2)) None None ∷ [])
    ∷ declared 2 0 2 (receives ∷ Add W64 1 1 ∷ Ipc Last (Fixed AnyThread) None None ∷ Jump 1 ∷ []) ∷ [])

abbrev pub answer_trace : List Step
answer_trace =
    Local (thread 1)
    ∷ Wait (thread 2)
    ∷ Local (thread 1)
    ∷ Begin (send 1 1)
    ∷ Queue (send 1 1)
    ∷ Deliver (send 1 1) (thread 2) (thread 1) (thread 1) 0x10001 (0x29 ∷ [])
    ∷ Local (thread 2)
    ∷ Begin (send 2 1)
    ∷ Queue (send 2 1)
    ∷ Deliver (send 2 1) (thread 1) (thread 2) (thread 2) 0x10001 (0x2a ∷ [])
    ∷ Local (thread 1) ∷ []

answer_ending : ends answer answer_trace ≡ quiet []
answer_ending = refl

answer_view : reports answer answer_trace ≡ Some (
    report 1 IsEnded 0 (id 2) (id 2) (0x10001 ∷ 0x2a ∷ [])
    ∷ report 2 IsReceiving 0 (id 1) (id 1) (0x10001 ∷ 0x2a ∷ []) ∷ [])
answer_view = refl

-- Propagation is permitted within the space of the originator, and not from another.
abbrev pub originator : Machine
originator = machine_of 1 (
    declared 1 0 1 []
    ∷ declared 2 0 1 (Vs (Fixed (id 1)) ∷ Tag 0x51001 ∷ sends 4 ∷ [])
    ∷ declared 3 0 2 (Vs (Fixed (id 1)) ∷ Tag 0x51001 ∷ sends 4 ∷ [])
    ∷ declared 4 0 2 (receives ∷ receives ∷ []) ∷ [])

abbrev pub originator_trace : List Step
originator_trace =
    Local (thread 1)
    ∷ Local (thread 2)
    ∷ Local (thread 3)
    ∷ Wait (thread 4)
    ∷ Local (thread 2)
    ∷ Local (thread 3)
    ∷ Begin (send 2 1)
    ∷ Queue (send 2 1)
    ∷ Deliver (send 2 1) (thread 4) (thread 1) (thread 2) 0x51001 (0 ∷ [])
    ∷ Begin (send 3 1)
    ∷ Queue (send 3 1)
    ∷ Wait (thread 4)
    ∷ Deliver (send 3 1) (thread 4) (thread 3) (thread 3) 0x50001 (0 ∷ [])
    ∷ Local (thread 2)
    ∷ Local (thread 3)
    ∷ Local (thread 4) ∷ []

originator_ending : ends originator originator_trace ≡ quiet []
originator_ending = refl

originator_view : reports originator originator_trace ≡ Some (
    report 1 IsEnded 0 NilThread NilThread (0 ∷ [])
    ∷ report 2 IsEnded 0 NilThread (id 1) (0 ∷ [])
    ∷ report 3 IsEnded 0 NilThread (id 1) (0 ∷ [])
    ∷ report 4 IsEnded 0 (id 3) (id 3) (0x50001 ∷ []) ∷ [])
originator_view = refl

-- A closed receive compares the sender that it is shown, and ActualSender is the current one.
abbrev pub propagates : Machine
propagates = machine_of 1 (
    declared 1 0 1 (Ipc (Fixed (id 9)) (Fixed AnyThread) None None ∷ [])
    ∷ declared 2 0 1 (Vs (Fixed (id 1)) ∷ Tag 0x1000 ∷ sends 3 ∷ [])
    ∷ declared 3 0 2 (Ipc (Fixed NilThread) (Fixed (id 1)) None None ∷ Ipc Last (Fixed NilThread) None None ∷ []) ∷ [])

abbrev pub propagates_trace : List Step
propagates_trace =
    Begin (send 1 1)
    ∷ SendNobody (send 1 1)
    ∷ Local (thread 2)
    ∷ Wait (thread 3)
    ∷ Local (thread 1)
    ∷ Local (thread 2)
    ∷ Begin (send 2 1)
    ∷ Queue (send 2 1)
    ∷ Deliver (send 2 1) (thread 3) (thread 1) (thread 2) 0x1000 []
    ∷ Begin (send 3 1)
    ∷ Queue (send 3 1)
    ∷ Local (thread 2) ∷ []

propagates_ending : ends propagates propagates_trace ≡ quiet (((send 3 1), (id 1)) ∷ [])
propagates_ending = refl

propagates_view : reports propagates propagates_trace ≡ Some (
    report 1 IsEnded 4 NilThread NilThread (0x8000 ∷ [])
    ∷ report 2 IsEnded 0 NilThread (id 1) (0 ∷ [])
    ∷ report 3 IsSending 0 (id 1) (id 2) (0x1000 ∷ []) ∷ [])
propagates_view = refl
