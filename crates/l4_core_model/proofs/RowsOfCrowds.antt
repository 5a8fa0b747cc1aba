-- Worked rows of many turns and of many threads, computed.
use Rattle.std.specs.Prelude.{◌≡◌, ℕ, ◌+◌, ◌%◌, nat_le, nat_lt, ◌&&◌, true, false, Some, None, List, [], ◌∷◌, ◌++◌, map, filter, take, drop, replicate, refl}
use Rattle.std.specs.List.{range_with_len}
use Rattle.std.specs.Option.{option_map}
use Rattle.l4_model.specs.Words.{global_id, NilThread, AnyThread, GlobalThread}
use Rattle.l4_model.specs.Machine.{Machine, Fixed, Last, Ipc, Jump, Declaration, machine_of}
use Rattle.l4_model.specs.Steps.{Step, Deliver, Wait}
use Rattle.l4_model.specs.Laws.{deliveries_of}
use Rattle.l4_model.proofs.Rows.{room_one}
use Rattle.l4_core_model.specs.Runs.{Run, told, at_rest, core_run, opening_run, Turns, Handles}
use Rattle.l4_core_model.specs.Schedules.{run, turns_of}
use Rattle.l4_core_model.proofs.Rows.{is_delivery}
use Rattle.l4_core_model.proofs.RowsInRounds.{send_of}

-- Two threads of two processors call each other for ever. A run of 100 turns uses them up.

abbrev for_ever : Machine
for_ever = machine_of 2 (
    record { id = global_id 1 1; cpu = 0; space = 1; script = Ipc (Fixed (GlobalThread (global_id 2 1))) (Fixed (GlobalThread (global_id 2 1))) None None ∷ Jump 0 ∷ [] }
    ∷ record { id = global_id 2 1; cpu = 1; space = 1; script = Ipc (Fixed NilThread) (Fixed AnyThread) None None ∷ Ipc Last (Fixed AnyThread) None None ∷ Jump 1 ∷ [] } ∷ [])

-- A round has at most a turn for each of the two processors.
for_ever_turns : (nat_le 100 (turns_of (run for_ever 100)) && nat_lt (turns_of (run for_ever 100)) 102) ≡ true
for_ever_turns = refl

for_ever_goes_on : at_rest for_ever (run for_ever 100).system ≡ false
for_ever_goes_on = refl

-- So many senders, each on a processor of its number, and one receiver.

abbrev sender : (cpus last number : ℕ) → Declaration
sender cpus last number = record { id = global_id number 1; cpu = number % cpus; space = 1; script = Ipc (Fixed (GlobalThread (global_id last 1))) (Fixed NilThread) None None ∷ [] }

abbrev crowd : (cpus senders : ℕ) → Machine
crowd cpus senders = machine_of cpus (
    map (sender cpus (senders + 1)) (range_with_len 1 senders)
    ++ record { id = global_id (senders + 1) 1; cpu = (senders + 1) % cpus; space = 1; script = Ipc (Fixed NilThread) (Fixed AnyThread) None None ∷ Jump 0 ∷ [] } ∷ [])

abbrev delivered_in_order : (receiver senders tag : ℕ) → List Step
delivered_in_order receiver senders tag = map (λ n. Deliver (send_of n) (global_id receiver 1) (global_id n 1) (global_id n 1) tag []) (range_with_len 1 senders)

-- On one processor all sends wait before the receiver does, and then they come in their order.
crowd_begins : take 2 (drop 62 (told (run (crowd 1 31) 100000).events)) ≡ Wait (global_id 32 1) ∷ Deliver (send_of 1) (global_id 32 1) (global_id 1 1) (global_id 1 1) 0 [] ∷ []
crowd_begins = refl

crowd_delivers : filter is_delivery (told (run (crowd 1 31) 100000).events) ≡ delivered_in_order 32 31 0
crowd_delivers = refl

crowd_rests : at_rest (crowd 1 31) (run (crowd 1 31) 100000).system ≡ true
crowd_rests = refl

-- On four processors each send is delivered once.
crowd_of_four_delivers : map (λ n. deliveries_of (send_of n) (told (run (crowd 16 31) 100000).events)) (range_with_len 1 31) ≡ replicate 31 1
crowd_of_four_delivers = refl

crowd_of_four_rests : at_rest (crowd 16 31) (run (crowd 16 31) 100000).system ≡ true
crowd_of_four_rests = refl

-- Room for one letter: two sends and an answer are still under way.
abbrev ways : Run → List (ℕ × ℕ)
ways r = map (λ p. (p.from, p.to)) r.system.mail

room_one_under_way : option_map ways (core_run room_one (opening_run room_one) (Turns 0 ∷ Turns 0 ∷ Turns 0 ∷ Handles 1 0 ∷ Turns 1 ∷ Turns 1 ∷ [])) ≡ Some ((0, 1) ∷ (0, 1) ∷ (1, 0) ∷ [])
room_one_under_way = refl
