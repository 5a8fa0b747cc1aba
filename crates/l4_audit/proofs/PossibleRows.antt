-- Worked rows: what is possible behind these steps.
use Rattle.std.specs.Prelude.{ℕ, ◌≡◌, Option, Some, None, List, [], ◌∷◌, option_map, refl}
use Rattle.l4_model.specs.Words.{GlobalId, NilThread, AnyThread, GlobalThread, global_id}
use Rattle.l4_model.specs.Machine.{Instr, Declaration, Machine, Fixed, CancelSend, Tag, Ipc, Ask, machine_of}
use Rattle.l4_model.specs.World.{Name}
use Rattle.l4_model.specs.Steps.{Step, Local, Begin, Queue, Deliver, Wait, SendTimeout, SendCancel, Order, Obey, Tick}
use Rattle.l4_model.specs.History.{reached}
use Rattle.l4_audit.specs.Possible.{possible}

abbrev thread : ℕ → GlobalId
thread n = global_id n 1

abbrev first_of : ℕ → Name
first_of n = record { thread = thread n; k = 1 }

abbrev declared : ℕ → List Instr → Declaration
declared n script = record { id = thread n; cpu = 0; space = 1; script = script }

abbrev behind : Machine → List Step → Option (List Step)
behind m h = option_map (possible m) (reached m h)

-- 1.1 sends one word to 2.1, which waits for anybody.
abbrev talking : Machine
talking =
    machine_of 1 (
    declared 1 (Tag 0x70001 ∷ Ipc (Fixed (GlobalThread (thread 2))) (Fixed NilThread) None None ∷ [])
    ∷ declared 2 (Ipc (Fixed NilThread) (Fixed AnyThread) None None ∷ []) ∷ [])

each_in_order : behind talking [] ≡ Some (Local (thread 1) ∷ Wait (thread 2) ∷ [])
each_in_order = refl

queued_first : behind talking (Local (thread 1) ∷ Begin (first_of 1) ∷ Wait (thread 2) ∷ []) ≡ Some (Queue (first_of 1) ∷ [])
queued_first = refl

delivered_then :
    behind talking (Local (thread 1) ∷ Begin (first_of 1) ∷ Wait (thread 2) ∷ Queue (first_of 1) ∷ [])
    ≡ Some (Deliver (first_of 1) (thread 2) (thread 1) (thread 1) 0x70001 (0 ∷ []) ∷ [])
delivered_then = refl

-- A send waits whose time is over and which is to be cancelled: either may come first. 2.1 has no more instructions.
abbrev cancelling : Machine
cancelling =
    machine_of 1 (
    declared 1 (Ipc (Fixed (GlobalThread (thread 2))) (Fixed NilThread) (Some 5) None ∷ [])
    ∷ declared 2 (Ask (Fixed (GlobalThread (thread 1))) CancelSend ∷ []) ∷ [])

several_of_one :
    behind cancelling (Begin (first_of 1) ∷ Queue (first_of 1) ∷ Order (thread 2) (thread 1) CancelSend ∷ Obey (thread 2) ∷ Tick 0 5 ∷ [])
    ≡ Some (SendTimeout (first_of 1) ∷ SendCancel (first_of 1) ∷ Local (thread 2) ∷ [])
several_of_one = refl
