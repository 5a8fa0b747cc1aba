-- Worked rows: who is accepted, and in what order.
use Rattle.std.specs.Prelude.{◌≡◌, Some, None, List, [], ◌∷◌, refl}
use Rattle.l4_model.specs.Words.{NilThread, AnyThread, AnyLocalThread, period_of}
use Rattle.l4_model.specs.Machine.{Machine, Fixed, Tag, Vs, Ipc, End, machine_of}
use Rattle.l4_model.specs.Steps.{Step, Local, Begin, Queue, Deliver, Wait, SendTimeout, Tick}
use Rattle.l4_model.specs.History.{refused_place}
use Rattle.l4_model.proofs.Rows.Writing.{thread, id, send, sends, receives, declared, ends, quiet, spent}
use Rattle.l4_model.proofs.Rows.Queues.{order_of_arrival}

-- Two sends of one thread to one receiver.
abbrev pub two_sends : Machine
two_sends = machine_of 1 (
    declared 1 0 1 (sends 2 ∷ sends 2 ∷ [])
    ∷ declared 2 0 1 (receives ∷ receives ∷ []) ∷ [])

abbrev pub two_sends_trace : List Step
two_sends_trace =
    Begin (send 1 1)
    ∷ Queue (send 1 1)
    ∷ Wait (thread 2)
    ∷ Deliver (send 1 1) (thread 2) (thread 1) (thread 1) 0 []
    ∷ Begin (send 1 2)
    ∷ Queue (send 1 2)
    ∷ Wait (thread 2)
    ∷ Deliver (send 1 2) (thread 2) (thread 1) (thread 1) 0 []
    ∷ Local (thread 1)
    ∷ Local (thread 2) ∷ []

two_sends_ending : ends two_sends two_sends_trace ≡ quiet []
two_sends_ending = refl

-- A refused send is in no list when the next one begins.
abbrev pub refused_then_sent : Machine
refused_then_sent = machine_of 1 (
    declared 1 0 1 (Ipc (Fixed (id 2)) (Fixed NilThread) (period_of 5) None ∷ sends 2 ∷ [])
    ∷ declared 2 0 1 (End ∷ []) ∷ [])

abbrev pub refused_then_sent_trace : List Step
refused_then_sent_trace =
    Begin (send 1 1)
    ∷ Queue (send 1 1)
    ∷ Tick 0 5
    ∷ SendTimeout (send 1 1)
    ∷ Begin (send 1 2)
    ∷ Queue (send 1 2)
    ∷ Local (thread 2) ∷ []

refused_then_sent_ending : ends refused_then_sent refused_then_sent_trace ≡ quiet (((send 1 2), (id 2)) ∷ [])
refused_then_sent_ending = refl

-- anylocalthread accepts the senders of the receiver's space.
abbrev pub local_senders : Machine
local_senders = machine_of 1 (
    declared 1 0 1 (sends 2 ∷ [])
    ∷ declared 2 0 1 (Ipc (Fixed NilThread) (Fixed AnyLocalThread) None None ∷ [])
    ∷ declared 3 0 2 (sends 2 ∷ []) ∷ [])

abbrev pub local_senders_trace : List Step
local_senders_trace =
    Begin (send 3 1)
    ∷ Queue (send 3 1)
    ∷ Wait (thread 2)
    ∷ Begin (send 1 1)
    ∷ Queue (send 1 1)
    ∷ Deliver (send 1 1) (thread 2) (thread 1) (thread 1) 0 []
    ∷ Local (thread 1)
    ∷ Local (thread 2) ∷ []

local_senders_ending : ends local_senders local_senders_trace ≡ quiet (((send 3 1), (id 2)) ∷ [])
local_senders_ending = refl

-- It goes by the sender that the message shows.
abbrev pub originators_space : Machine
originators_space = machine_of 1 (
    declared 1 0 1 []
    ∷ declared 2 0 1 (Vs (Fixed (id 1)) ∷ Tag 0x1000 ∷ sends 3 ∷ [])
    ∷ declared 3 0 2 (Ipc (Fixed NilThread) (Fixed (id 2)) None None ∷ []) ∷ [])

abbrev pub originators_space_trace : List Step
originators_space_trace =
    Local (thread 1)
    ∷ Local (thread 2)
    ∷ Local (thread 2)
    ∷ Begin (send 2 1)
    ∷ Queue (send 2 1)
    ∷ Wait (thread 3) ∷ []

originators_space_ending : ends originators_space originators_space_trace ≡ quiet (((send 2 1), (id 3)) ∷ [])
originators_space_ending = refl

-- Sends that wait are listed in order of beginning.
abbrev pub order_of_beginning_trace : List Step
order_of_beginning_trace =
    Begin (send 3 1)
    ∷ Begin (send 2 1)
    ∷ Queue (send 2 1)
    ∷ Queue (send 3 1)
    ∷ Begin (send 1 1)
    ∷ Queue (send 1 1) ∷ []

order_of_beginning_ending : ends order_of_arrival order_of_beginning_trace ≡ spent (((send 3 1), (id 4)) ∷ ((send 2 1), (id 4)) ∷ ((send 1 1), (id 4)) ∷ [])
order_of_beginning_ending = refl

-- Where a message can be delivered, a world is not still.
abbrev pub accepted_and_waiting_trace : List Step
accepted_and_waiting_trace =
    Begin (send 1 1)
    ∷ Queue (send 1 1)
    ∷ Wait (thread 2) ∷ []

accepted_and_waiting_ending : ends two_sends accepted_and_waiting_trace ≡ spent (((send 1 1), (id 2)) ∷ [])
accepted_and_waiting_ending = refl

-- A send to oneself waits for ever.
abbrev pub to_itself : Machine
to_itself = machine_of 1 (declared 1 0 1 (Ipc (Fixed (id 1)) (Fixed AnyThread) None None ∷ []) ∷ [])

abbrev pub to_itself_trace : List Step
to_itself_trace =
    Begin (send 1 1)
    ∷ Queue (send 1 1) ∷ []

to_itself_ending : ends to_itself to_itself_trace ≡ quiet (((send 1 1), (id 1)) ∷ [])
to_itself_ending = refl

foreign_for_local : refused_place local_senders (
    Begin (send 3 1)
    ∷ Queue (send 3 1)
    ∷ Wait (thread 2)
    ∷ Deliver (send 3 1) (thread 2) (thread 3) (thread 3) 0 [] ∷ []) ≡ Some 4
foreign_for_local = refl
