-- Small machines: who may post to whom.
use Rattle.std.specs.Prelude.{ℕ, ◌≡◌, Bool, true, false, Option, Some, None, List, [], ◌∷◌, ◌++◌, slice_get, map, refl}
use Rattle.l4_model.specs.Words.{W64, NilThread}
use Rattle.l4_model.specs.Machine.{Machine, Instr, Fixed, Last, InRegister, CancelSend, Delete, Set, Tag, Vs, Ipc, Ask, Jump, OnErr, OnLabel, OnWord, OnFrom, End, machine_of}
use Rattle.l4_model.specs.Conditions.{◌>>=◌}
use Rattle.l4_model.proofs.Rows.Writing.{id, sends, receives, declared}
use Rattle.l4_core_model.specs.Runs.{Action, Handles, Turns, core_run, opening_run, letters, is_empty}
use Rattle.l4_persistent.specs.Inner.Posts.{may_post, aims_of}

-- Whether one processor may post to another, behind these events.
abbrev pub tells : Machine → List Action → (from to : ℕ) → Option Bool
tells m es from to = do
  r ← core_run m (opening_run m) es
  l ← slice_get r.system.locals from
  k ← slice_get r.system.locals to
  Some (may_post m (aims_of m) from to l k)

-- Thread 1 sends to thread 2, each on a processor of its own.
abbrev pub sending : Machine
sending = machine_of 2 (declared 1 0 1 (sends 2 ∷ []) ∷ declared 2 1 1 (receives ∷ []) ∷ [])

-- The sender may, by its script.
by_its_script : tells sending [] 0 1 ≡ Some true
by_its_script = refl

-- The receiver may not, before somebody waits for it, and then it may tell that the send is decided.
nobody_waits : tells sending [] 1 0 ≡ Some false
nobody_waits = refl

somebody_waits : tells sending (Turns 0 ∷ []) 1 0 ≡ Some true
somebody_waits = refl

-- Its script is over then, but the sender may withdraw the send.
may_withdraw : tells sending (Turns 0 ∷ []) 0 1 ≡ Some true
may_withdraw = refl

-- Once the send is decided neither may.
abbrev pub decided : List Action
decided = Turns 0 ∷ Turns 1 ∷ Handles 1 0 ∷ Handles 0 1 ∷ []

sender_is_done : tells sending decided 0 1 ≡ Some false
sender_is_done = refl

receiver_is_done : tells sending decided 1 0 ≡ Some false
receiver_is_done = refl

-- A loop comes back to its first instruction.
abbrev pub sending_again : Machine
sending_again = machine_of 2 (declared 1 0 1 (sends 2 ∷ Jump 0 ∷ []) ∷ declared 2 1 1 (receives ∷ []) ∷ [])

comes_back : tells sending_again decided 0 1 ≡ Some true
comes_back = refl

-- Who answers `last` may post to whom the message came from.
abbrev pub answering : Machine
answering = machine_of 2 (
    declared 1 0 1 (sends 2 ∷ [])
    ∷ declared 2 1 1 (receives ∷ Ipc Last (Fixed NilThread) None None ∷ []) ∷ [])

nothing_came : tells answering [] 1 0 ≡ Some false
nothing_came = refl

answers : tells answering decided 1 0 ≡ Some true
answers = refl

-- An order is aimed at its target, whose processor tells that it is done.
abbrev pub ordering : Machine
ordering = machine_of 2 (declared 1 0 1 (Ask (Fixed (id 2)) CancelSend ∷ []) ∷ declared 2 1 1 (receives ∷ []) ∷ [])

may_order : tells ordering [] 0 1 ≡ Some true
may_order = refl

is_ordered : tells ordering (Turns 0 ∷ []) 1 0 ≡ Some true
is_ordered = refl

has_ordered : tells ordering (Turns 0 ∷ []) 0 1 ≡ Some false
has_ordered = refl

-- Who sends, or gives an order, to the id that a register has may post to any processor.
abbrev pub by_a_register : Machine
by_a_register = machine_of 3 (
    declared 1 0 1 (Set 4 0x200000001 ∷ Ipc (InRegister W64 4) (Fixed NilThread) None None ∷ [])
    ∷ declared 2 1 1 (receives ∷ [])
    ∷ declared 3 2 1 (Ask (InRegister W64 4) CancelSend ∷ []) ∷ [])

sends_by_it : tells by_a_register [] 0 1 ≡ Some true
sends_by_it = refl

sends_to_any : tells by_a_register [] 0 2 ≡ Some true
sends_to_any = refl

orders_any : tells by_a_register [] 2 1 ≡ Some true
orders_any = refl

-- An order to `last` is aimed at whom the last message came from.
abbrev pub ordering_last : Machine
ordering_last = machine_of 2 (declared 1 0 1 (sends 2 ∷ []) ∷ declared 2 1 1 (receives ∷ Ask Last CancelSend ∷ []) ∷ [])

nobody_came : tells ordering_last [] 1 0 ≡ Some false
nobody_came = refl

orders_last : tells ordering_last decided 1 0 ≡ Some true
orders_last = refl

-- A branch may go on at its target, and behind it.
abbrev pub branching : Instr → Machine
branching branch = machine_of 3 (
    declared 1 0 1 (branch ∷ sends 2 ∷ End ∷ sends 3 ∷ [])
    ∷ declared 2 1 1 (receives ∷ [])
    ∷ declared 3 2 1 (receives ∷ []) ∷ [])

goes_behind : map (λ i. tells (branching i) [] 0 1) (OnErr 3 ∷ OnLabel 7 3 ∷ OnWord 1 5 3 ∷ OnFrom NilThread 3 ∷ [])
    ≡ Some true ∷ Some true ∷ Some true ∷ Some true ∷ []
goes_behind = refl

goes_to_its_target : map (λ i. tells (branching i) [] 0 2) (OnErr 3 ∷ OnLabel 7 3 ∷ OnWord 1 5 3 ∷ OnFrom NilThread 3 ∷ [])
    ≡ Some true ∷ Some true ∷ Some true ∷ Some true ∷ []
goes_to_its_target = refl

-- Of a deletion all processors are told.
abbrev pub deleting : Machine
deleting = machine_of 3 (
    declared 1 0 1 (receives ∷ [])
    ∷ declared 2 1 1 (receives ∷ [])
    ∷ declared 3 2 1 (Ask (Fixed (id 2)) Delete ∷ []) ∷ [])

tells_of_a_deletion : tells deleting [] 1 0 ≡ Some true
tells_of_a_deletion = refl

-- Each of them once.
abbrev pub deleted : List Action
deleted = Turns 2 ∷ Handles 1 2 ∷ []

not_told_yet : tells deleting deleted 1 0 ≡ Some true
not_told_yet = refl

was_told : tells deleting (deleted ++ Turns 1 ∷ []) 1 0 ≡ Some false
was_told = refl

the_next_is_told : tells deleting (deleted ++ Turns 1 ∷ []) 1 2 ≡ Some true
the_next_is_told = refl

is_never_deleted : tells deleting [] 0 1 ≡ Some false
is_never_deleted = refl

-- A message that is propagated shows another thread than its sender. So thread 3, of another space, answers thread 1,
-- which does nothing.
abbrev pub handing_on : Machine
handing_on = machine_of 3 (
    declared 1 0 1 (receives ∷ [])
    ∷ declared 2 1 1 (Vs (Fixed (id 1)) ∷ Tag 0x1000 ∷ sends 3 ∷ [])
    ∷ declared 3 2 2 (receives ∷ Ipc Last (Fixed NilThread) None None ∷ []) ∷ [])

abbrev pub handed_on : List Action
handed_on = Turns 1 ∷ Turns 1 ∷ Turns 1 ∷ Turns 2 ∷ Handles 2 1 ∷ Turns 2 ∷ []

may_answer_another : tells handing_on [] 2 0 ≡ Some true
may_answer_another = refl

answers_another : (core_run handing_on (opening_run handing_on) handed_on >>= λ r. Some
    (is_empty (letters r.system.mail 2 0)))
    ≡ Some false
answers_another = refl
