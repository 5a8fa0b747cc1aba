-- Worked rows: where a send of timeout zero may be refused.
use Rattle.std.specs.Prelude.{◌≡◌, Some, None, [], ◌∷◌, refl}
use Rattle.l4_model.specs.Words.{NilThread, AnyThread}
use Rattle.l4_model.specs.Machine.{Machine, Fixed, Delete, Ipc, Ask, machine_of}
use Rattle.l4_model.specs.Steps.{Begin, Wait, SendTimeout, SendNobody, Order, Obey}
use Rattle.l4_model.specs.History.{refused_place}
use Rattle.l4_model.proofs.Rows.Writing.{thread, id, send, sends, receives, declared}

-- A call to another processor than the receiver's protects the send, also where that processor is the sender's.
abbrev pub to_a_call_elsewhere : Machine
to_a_call_elsewhere = machine_of 2 (
    declared 1 0 1 (Ipc (Fixed (id 3)) (Fixed AnyThread) None None ∷ [])
    ∷ declared 2 1 1 (Ipc (Fixed (id 1)) (Fixed NilThread) (Some 0) None ∷ [])
    ∷ declared 3 1 1 [] ∷ [])

not_while_it_calls : refused_place to_a_call_elsewhere (
    Begin (send 1 1)
    ∷ Begin (send 2 1)
    ∷ SendTimeout (send 2 1) ∷ []) ≡ Some 3
not_while_it_calls = refl

-- A call within the receiver's processor does not protect it.
abbrev pub to_a_call_within : Machine
to_a_call_within = machine_of 2 (
    declared 1 0 1 (Ipc (Fixed (id 3)) (Fixed AnyThread) None None ∷ [])
    ∷ declared 2 1 1 (Ipc (Fixed (id 1)) (Fixed NilThread) (Some 0) None ∷ [])
    ∷ declared 3 0 1 [] ∷ [])

while_it_calls_within : refused_place to_a_call_within (
    Begin (send 1 1)
    ∷ Begin (send 2 1)
    ∷ SendTimeout (send 2 1) ∷ []) ≡ None
while_it_calls_within = refl

-- A send without a receive phase does not.
abbrev pub to_a_send_elsewhere : Machine
to_a_send_elsewhere = machine_of 2 (
    declared 1 0 1 (sends 3 ∷ [])
    ∷ declared 2 1 1 (Ipc (Fixed (id 1)) (Fixed NilThread) (Some 0) None ∷ [])
    ∷ declared 3 1 1 [] ∷ [])

while_it_sends : refused_place to_a_send_elsewhere (
    Begin (send 1 1)
    ∷ Begin (send 2 1)
    ∷ SendTimeout (send 2 1) ∷ []) ≡ None
while_it_sends = refl

-- A call whose receive phase would not accept the sender does not.
abbrev pub to_a_closed_call : Machine
to_a_closed_call = machine_of 2 (
    declared 1 0 1 (Ipc (Fixed (id 3)) (Fixed (id 3)) None None ∷ [])
    ∷ declared 2 1 1 (Ipc (Fixed (id 1)) (Fixed NilThread) (Some 0) None ∷ [])
    ∷ declared 3 1 1 [] ∷ [])

while_it_calls_another : refused_place to_a_closed_call (
    Begin (send 1 1)
    ∷ Begin (send 2 1)
    ∷ SendTimeout (send 2 1) ∷ []) ≡ None
while_it_calls_another = refl

-- A call to nobody does not.
abbrev pub to_a_call_of_nobody : Machine
to_a_call_of_nobody = machine_of 2 (
    declared 1 0 1 (Ipc (Fixed (id 9)) (Fixed AnyThread) None None ∷ [])
    ∷ declared 2 1 1 (Ipc (Fixed (id 1)) (Fixed NilThread) (Some 0) None ∷ []) ∷ [])

while_it_calls_nobody : refused_place to_a_call_of_nobody (
    Begin (send 1 1)
    ∷ Begin (send 2 1)
    ∷ SendTimeout (send 2 1) ∷ []) ≡ None
while_it_calls_nobody = refl

-- A receiver that waits and accepts takes the send; one that does not accept it lets it be refused.
abbrev pub to_a_receiver : Machine
to_a_receiver = machine_of 1 (
    declared 1 0 1 (receives ∷ [])
    ∷ declared 2 0 1 (Ipc (Fixed (id 1)) (Fixed NilThread) (Some 0) None ∷ [])
    ∷ declared 3 0 1 (Ipc (Fixed NilThread) (Fixed (id 1)) None None ∷ [])
    ∷ declared 4 0 1 (Ipc (Fixed (id 3)) (Fixed NilThread) (Some 0) None ∷ []) ∷ [])

not_while_it_waits : refused_place to_a_receiver (
    Wait (thread 1)
    ∷ Begin (send 2 1)
    ∷ SendTimeout (send 2 1) ∷ []) ≡ Some 3
not_while_it_waits = refl

while_it_waits_for_another : refused_place to_a_receiver (
    Wait (thread 3)
    ∷ Begin (send 4 1)
    ∷ SendTimeout (send 4 1) ∷ []) ≡ None
while_it_waits_for_another = refl

-- Nobody gives code 4, not 2: neither an undeclared nor a deleted thread.
abbrev pub to_nobody : Machine
to_nobody = machine_of 1 (
    declared 1 0 1 (Ipc (Fixed (id 9)) (Fixed NilThread) (Some 0) None ∷ [])
    ∷ declared 2 0 1 (Ipc (Fixed (id 3)) (Fixed NilThread) (Some 0) None ∷ [])
    ∷ declared 3 0 1 []
    ∷ declared 4 0 1 (Ask (Fixed (id 3)) Delete ∷ []) ∷ [])

not_by_the_undeclared : refused_place to_nobody (
    Begin (send 1 1)
    ∷ SendTimeout (send 1 1) ∷ []) ≡ Some 2
not_by_the_undeclared = refl

not_by_the_deleted : refused_place to_nobody (
    Order (thread 4) (thread 3) Delete
    ∷ Obey (thread 4)
    ∷ Begin (send 2 1)
    ∷ SendTimeout (send 2 1) ∷ []) ≡ Some 4
not_by_the_deleted = refl

by_nobody : refused_place to_nobody (
    Order (thread 4) (thread 3) Delete
    ∷ Obey (thread 4)
    ∷ Begin (send 2 1)
    ∷ SendNobody (send 2 1)
    ∷ Begin (send 1 1)
    ∷ SendNobody (send 1 1) ∷ []) ≡ None
by_nobody = refl
