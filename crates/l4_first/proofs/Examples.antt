-- Small machines: what each premise leaves out, and what needs none.
use Rattle.std.specs.Prelude.{◌≡◌, true, false, Option, Some, None, List, [], ◌∷◌, ◌++◌, option_map, map, refl}
use Rattle.l4_model.specs.Words.{W64, NilThread}
use Rattle.l4_model.specs.Machine.{Machine, Fixed, Last, InRegister, CancelSend, CancelReceive, CancelBoth, Delete, Set, Tag, Vs, Ipc, Ask, machine_of, retargeting_machine_of}
use Rattle.l4_model.specs.World.{Receive, receive_now}
use Rattle.l4_model.specs.Steps.{Step, Local, Begin, Queue, Deliver, Wait, SendTimeout, ReceiveCancel, Order, Obey, Retarget}
use Rattle.l4_model.specs.History.{reached, refused_place}
use Rattle.l4_model.proofs.Rows.Writing.{thread, id, send, sends, receives, declared}
use Rattle.l4_first.specs.First.{is_deletable, is_orderable, is_tried}

-- A deletion stands in the way of a local step: it cannot be told after.
abbrev pub deletes : Machine
deletes = machine_of 1 (declared 1 0 1 (Set 1 5 ∷ []) ∷ declared 2 0 1 (Ask (Fixed (id 1)) Delete ∷ []) ∷ [])

deletion_first : refused_place deletes (Order (thread 2) (thread 1) Delete ∷ Obey (thread 2) ∷ Local (thread 1) ∷ []) ≡ Some 3
deletion_first = refl

deletion_told : is_deletable deletes (thread 1) ≡ true
deletion_told = refl

-- Who deletes by `last` or by a register may delete anybody.
abbrev pub deletes_unnamed : Machine
deletes_unnamed = machine_of 1 (declared 1 0 1 (Set 1 5 ∷ []) ∷ declared 2 0 1 (Set 4 0x100000001 ∷ Ask (InRegister W64 4) Delete ∷ []) ∷ [])

unnamed_deletion_first : refused_place deletes_unnamed (Local (thread 2) ∷ Order (thread 2) (thread 1) Delete ∷ Obey (thread 2) ∷ Local (thread 1) ∷ []) ≡ Some 4
unnamed_deletion_first = refl

unnamed_deletion_told : (is_deletable deletes_unnamed (thread 1) ≡ true) × (is_orderable deletes_unnamed (thread 1) ≡ true)
unnamed_deletion_told = (refl, refl)

abbrev pub deletes_last : Machine
deletes_last = machine_of 1 (declared 1 0 1 (sends 2 ∷ Set 1 5 ∷ []) ∷ declared 2 0 1 (receives ∷ Ask Last Delete ∷ []) ∷ [])

last_deletion_told : (is_deletable deletes_last (thread 1) ≡ true) × (is_orderable deletes_last (thread 1) ≡ true)
last_deletion_told = (refl, refl)

-- A cancellation does not: both orders meet, for both wishes at once.
abbrev pub cancels : Machine
cancels = machine_of 1 (declared 1 0 1 (Set 1 5 ∷ []) ∷ declared 2 0 1 (Ask (Fixed (id 1)) CancelBoth ∷ []) ∷ [])

cancellation_meets : reached cancels (Order (thread 2) (thread 1) CancelBoth ∷ Obey (thread 2) ∷ Local (thread 1) ∷ [])
    ≡ reached cancels (Order (thread 2) (thread 1) CancelBoth ∷ Local (thread 1) ∷ Obey (thread 2) ∷ [])
cancellation_meets = refl

cancellation_allowed : is_deletable cancels (thread 1) ≡ false
cancellation_allowed = refl

-- A wish `R` finds a receive phase, or comes too early for it.
abbrev pub cancels_receive : Machine
cancels_receive = machine_of 1 (declared 1 0 1 (receives ∷ []) ∷ declared 2 0 1 (Ask (Fixed (id 1)) CancelReceive ∷ []) ∷ [])

wish_finds : refused_place cancels_receive (Order (thread 2) (thread 1) CancelReceive ∷ Wait (thread 1) ∷ Obey (thread 2) ∷ ReceiveCancel (thread 1) ∷ []) ≡ None
wish_finds = refl

wish_too_early : refused_place cancels_receive (Order (thread 2) (thread 1) CancelReceive ∷ Obey (thread 2) ∷ Wait (thread 1) ∷ ReceiveCancel (thread 1) ∷ []) ≡ Some 4
wish_too_early = refl

wish_told : is_orderable cancels_receive (thread 1) ≡ true
wish_told = refl

-- So of a wish `S` and a send phase.
abbrev pub cancels_send : Machine
cancels_send = machine_of 1 (declared 1 0 1 (sends 3 ∷ []) ∷ declared 2 0 1 (Ask (Fixed (id 1)) CancelSend ∷ []) ∷ declared 3 0 1 [] ∷ [])

send_wish_differs : option_map (λ w. map (λ t. t.cancel_send) w.threads) (reached cancels_send (Order (thread 2) (thread 1) CancelSend ∷ Begin (send 1 1) ∷ Obey (thread 2) ∷ [])) ≡ Some (true ∷ false ∷ false ∷ [])
send_wish_differs = refl

no_send_wish : option_map (λ w. map (λ t. t.cancel_send) w.threads) (reached cancels_send (Order (thread 2) (thread 1) CancelSend ∷ Obey (thread 2) ∷ Begin (send 1 1) ∷ [])) ≡ Some (false ∷ false ∷ false ∷ [])
no_send_wish = refl

-- A send of time zero is refused by a ready thread, and not by one that waits for it.
abbrev pub tries_it : Machine
tries_it = machine_of 1 (declared 1 0 1 (receives ∷ []) ∷ declared 2 0 1 (Ipc (Fixed (id 1)) (Fixed NilThread) (Some 0) None ∷ []) ∷ [])

refused_by_a_ready_one : refused_place tries_it (Begin (send 2 1) ∷ SendTimeout (send 2 1) ∷ Wait (thread 1) ∷ []) ≡ None
refused_by_a_ready_one = refl

not_by_one_that_waits : refused_place tries_it (Begin (send 2 1) ∷ Wait (thread 1) ∷ SendTimeout (send 2 1) ∷ []) ≡ Some 3
not_by_one_that_waits = refl

trial_told : is_tried tries_it (thread 1) ≡ true
trial_told = refl

abbrev pub tries_unnamed : Machine
tries_unnamed = machine_of 1 (declared 1 0 1 (receives ∷ []) ∷ declared 2 0 1 (Set 4 0x100000001 ∷ Ipc (InRegister W64 4) (Fixed NilThread) (Some 0) None ∷ []) ∷ [])

unnamed_trial_told : is_tried tries_unnamed (thread 1) ≡ true
unnamed_trial_told = refl

-- In profile 2 a retarget turns an originator only where it is in a phase.
abbrev pub hands_on : Machine
hands_on = retargeting_machine_of 1 (
    declared 1 0 1 (Ipc (Fixed NilThread) (Fixed (id 2)) None None ∷ [])
    ∷ declared 2 0 1 (Vs (Fixed (id 1)) ∷ Tag 0x1000 ∷ sends 3 ∷ [])
    ∷ declared 3 0 2 (receives ∷ []) ∷ [])

abbrev pub to_the_retarget : List Step
to_the_retarget =
    Wait (thread 3)
    ∷ Local (thread 2)
    ∷ Local (thread 2)
    ∷ Begin (send 2 1)
    ∷ Queue (send 2 1)
    ∷ Deliver (send 2 1) (thread 3) (thread 1) (thread 2) 0x1000 [] ∷ []

abbrev pub awaits : List Step → Option (List (Option Receive))
awaits h = option_map (λ w. map (λ t. receive_now t.phase) w.threads) (reached hands_on h)

waits_for_the_old : awaits (to_the_retarget ++ Retarget (send 2 1) ∷ Wait (thread 1) ∷ []) ≡ Some (Some (record { from = id 2; period = None }) ∷ None ∷ None ∷ [])
waits_for_the_old = refl

waits_for_the_new : awaits (to_the_retarget ++ Wait (thread 1) ∷ Retarget (send 2 1) ∷ []) ≡ Some (Some (record { from = id 3; period = None }) ∷ None ∷ None ∷ [])
waits_for_the_new = refl
