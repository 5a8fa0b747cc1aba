-- Worked rows: which steps a condition sees, which worlds on its way a history meets, and that a step
-- told alone need not be one of a shortest history.
use Rattle.std.proofs.Common.{◌≡◌, ℕ, Bool, true, false, Option, Some, None, List, [], ◌∷◌, refl}
use Rattle.std.specs.Prelude.{◌==◌, ◌&&◌, slice_get, map, replicate}
use Rattle.l4_model.specs.Machine.{Machine, Instr, Fixed, CancelReceive, Delete, Set, Copy, Add, From, Tag, Vs, Jump, OnErr, OnLabel, OnWord, OnFrom, Ipc, Ask, machine_of}
use Rattle.l4_model.specs.Words.{NilThread, W64}
use Rattle.l4_model.specs.World.{World, Thread, opening}
use Rattle.l4_model.specs.Rules.{register}
use Rattle.l4_model.specs.Conditions.{◌>>=◌}
use Rattle.l4_model.specs.Steps.{Step, Local, Begin, Queue, Wait, Order}
use Rattle.l4_model.specs.History.{reached}
use Rattle.l4_model.proofs.Rows.Writing.{thread, id, send, sends, receives, declared}
use Rattle.l4_worlds.specs.Late.{next_late}
use Rattle.l4_first.specs.First.{stands_alone}
use Rattle.l4_futures.specs.Inner.Search.{state_in}
use Rattle.l4_forever.specs.Inner.Walks.{is_fresh}
use Rattle.l4_invariants.specs.Inner.Reads.{InState, InCode, InSenders, InRegisters, InSend, Reads, is_visible, goes_unseen}
use Rattle.l4_invariants.specs.Invariants.{Meets, MeetsAtLast}

-- Conditions that read one part of each thread

abbrev only_state : Reads
only_state t InState = true
only_state t part = false

abbrev only_code : Reads
only_code t InCode = true
only_code t part = false

abbrev only_senders : Reads
only_senders t InSenders = true
only_senders t part = false

abbrev only_registers : Reads
only_registers t InRegisters = true
only_registers t part = false

abbrev only_sends : Reads
only_sends t InSend = true
only_sends t part = false

-- Which of these see the first step of a thread with this instruction
abbrev seen_by : Instr → Step → List Bool
seen_by i step = by (machine_of 1 (declared 1 0 1 (i ∷ []) ∷ declared 2 0 2 [] ∷ []))
  where
    by : Machine → List Bool
    by m =
        is_visible m only_state (opening m) step
        ∷ is_visible m only_code (opening m) step
        ∷ is_visible m only_senders (opening m) step
        ∷ is_visible m only_registers (opening m) step
        ∷ is_visible m only_sends (opening m) step
        ∷ []

set_seen : seen_by (Set 1 5) (Local (thread 1)) ≡ false ∷ false ∷ false ∷ true ∷ false ∷ []
set_seen = refl

copy_seen : seen_by (Copy 1 2) (Local (thread 1)) ≡ false ∷ false ∷ false ∷ true ∷ false ∷ []
copy_seen = refl

add_seen : seen_by (Add W64 1 2) (Local (thread 1)) ≡ false ∷ false ∷ false ∷ true ∷ false ∷ []
add_seen = refl

tag_seen : seen_by (Tag 5) (Local (thread 1)) ≡ false ∷ false ∷ false ∷ true ∷ false ∷ []
tag_seen = refl

vs_seen : seen_by (Vs (Fixed (id 2))) (Local (thread 1)) ≡ false ∷ false ∷ true ∷ false ∷ false ∷ []
vs_seen = refl

jump_seen : seen_by (Jump 0) (Local (thread 1)) ≡ false ∷ false ∷ false ∷ false ∷ false ∷ []
jump_seen = refl

onerr_seen : seen_by (OnErr 0) (Local (thread 1)) ≡ false ∷ false ∷ false ∷ false ∷ false ∷ []
onerr_seen = refl

from_seen : seen_by (From W64 1) (Local (thread 1)) ≡ false ∷ false ∷ false ∷ true ∷ false ∷ []
from_seen = refl

branches_seen : map (λ i. seen_by i (Local (thread 1))) (OnLabel 7 0 ∷ OnWord 1 5 0 ∷ OnFrom NilThread 0 ∷ [])
    ≡ replicate 3 (false ∷ false ∷ false ∷ false ∷ false ∷ [])
branches_seen = refl

-- An ipc without phases, an order that is refused, and an end
no_phases_seen : seen_by (Ipc (Fixed NilThread) (Fixed NilThread) None None) (Local (thread 1))
    ≡ false ∷ true ∷ true ∷ true ∷ false ∷ []
no_phases_seen = refl

refused_seen : seen_by (Ask (Fixed (id 2)) CancelReceive) (Local (thread 1)) ≡ false ∷ true ∷ false ∷ false ∷ false ∷ []
refused_seen = refl

end_seen : seen_by (Jump 0) (Local (thread 2)) ≡ true ∷ false ∷ false ∷ false ∷ false ∷ []
end_seen = refl

-- Steps that begin a phase or give an order
begin_seen : seen_by (sends 2) (Begin (send 1 1)) ≡ true ∷ false ∷ false ∷ false ∷ true ∷ []
begin_seen = refl

wait_seen : seen_by receives (Wait (thread 1)) ≡ true ∷ false ∷ false ∷ false ∷ false ∷ []
wait_seen = refl

order_seen : seen_by (Ask (Fixed (id 2)) Delete) (Order (thread 1) (thread 2) Delete)
    ≡ true ∷ false ∷ false ∷ false ∷ false ∷ []
order_seen = refl

-- A step that never stands alone
queue_seen : seen_by (sends 2) (Queue (send 1 1)) ≡ true ∷ true ∷ true ∷ true ∷ true ∷ []
queue_seen = refl

-- Two threads that each hold something for one step. Told alone, the steps of the one are all told
-- before those of the other. But the condition sees them.
abbrev both_hold : Machine
both_hold = machine_of 2 (declared 1 0 1 (Set 1 1 ∷ Set 1 0 ∷ []) ∷ declared 2 1 1 (Set 1 1 ∷ Set 1 0 ∷ []) ∷ [])

abbrev holds : World → ℕ → Bool
holds w place = by (slice_get w.threads place)
  where
    by : Option Thread → Bool
    by None = false
    by (Some t) = register t.context 1 == 1

abbrev at_once : World → Bool
at_once w = holds w 0 && holds w 1

stands : stands_alone both_hold (Local (thread 1)) ≡ true
stands = refl

not_alone : goes_unseen both_hold only_registers (opening both_hold) (Local (thread 1)) ≡ false
not_alone = refl

both_at_once : MeetsAtLast both_hold at_once (Local (thread 1) ∷ Local (thread 2) ∷ [])
both_at_once = record { world = _; reaches = refl; met = refl }

-- On the way, and no more in the end
once_on_the_way : Meets both_hold at_once (Local (thread 1) ∷ Local (thread 2) ∷ Local (thread 1) ∷ [])
once_on_the_way = record {
  before = Local (thread 1) ∷ Local (thread 2) ∷ [];
  after = Local (thread 1) ∷ [];
  is = refl;
  world = _;
  reaches = refl;
  met = refl;
}

in_the_end : Meets both_hold at_once (Local (thread 1) ∷ Local (thread 2) ∷ [])
in_the_end = record {
  before = Local (thread 1) ∷ Local (thread 2) ∷ [];
  after = [];
  is = refl;
  world = _;
  reaches = refl;
  met = refl;
}

-- At the opening
at_the_opening : Meets both_hold (λ w. true) (Local (thread 1) ∷ [])
at_the_opening = record { before = []; after = Local (thread 1) ∷ []; is = refl; world = _; reaches = refl; met = refl }

-- A step that the condition does not see may be told alone, and the history that a search tells then
-- has it, though a shortest one has not.
abbrev second_alone : Reads
second_alone t InRegisters = t.number == 2
second_alone t part = false

told_alone : goes_unseen both_hold second_alone (opening both_hold) (Local (thread 1)) ≡ true
told_alone = refl

not_met_there : (reached both_hold (Local (thread 1) ∷ []) >>= λ w. Some (holds w 1)) ≡ Some false
not_met_there = refl

one_is_enough : MeetsAtLast both_hold (λ w. holds w 1) (Local (thread 2) ∷ [])
one_is_enough = record { world = _; reaches = refl; met = refl }

-- A thread that goes round alone leads back to where it was, and would hide the others.
abbrev goes_round : Machine
goes_round = machine_of 2 (declared 1 0 1 (Jump 0 ∷ []) ∷ declared 2 1 1 (Set 1 1 ∷ []) ∷ [])

round_unseen : goes_unseen goes_round second_alone (opening goes_round) (Local (thread 1)) ≡ true
round_unseen = refl

leads_back : next_late goes_round (opening goes_round) (Local (thread 1)) ≡ Some (opening goes_round)
leads_back = refl

not_fresh : is_fresh [] (record { state = state_in goes_round (opening goes_round); schedule = [] })
    (record { entry = 0; state = state_in goes_round (opening goes_round) }) ≡ false
not_fresh = refl
