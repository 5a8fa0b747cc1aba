-- Worked rows of runs in rounds, computed: the steps told, and whether the run is at rest.
use Rattle.std.specs.Prelude.{◌≡◌, ℕ, Bool, true, List, [], ◌∷◌, refl}
use Rattle.l4_model.specs.Words.{global_id}
use Rattle.l4_model.specs.Machine.{Machine}
use Rattle.l4_model.specs.World.{Name}
use Rattle.l4_model.specs.Steps.{Step, Local, Begin, Queue, Deliver, Wait}
use Rattle.l4_core_model.specs.Runs.{Run, told, at_rest}
use Rattle.l4_core_model.specs.Schedules.{run}
use Rattle.l4_model.proofs.Rows.{first_path, first_path_trace, answer, answer_trace, closed_receive, closed_receive_trace, nobody_there, nobody_there_trace, originator, mutual_sends, mutual_sends_trace, finite_receive, finite_receive_trace, zero_receive, zero_receive_trace, timeouts, timeouts_trace, propagates, propagates_trace, cancels, cancels_trace, deletes_itself, deletes_itself_trace}

-- The first send of a thread of version 1.
abbrev pub send_of : (number : ℕ) → Name
send_of number = record { thread = global_id number 1; k = 1 }

abbrev pub answers : Machine → Run → List Step × Bool
answers m r = (told r.events, at_rest m r.system)

first_path_run : answers first_path (run first_path 100000) ≡ (first_path_trace, true)
first_path_run = refl

answer_run : answers answer (run answer 100000) ≡ (answer_trace, true)
answer_run = refl

closed_receive_run : answers closed_receive (run closed_receive 100000) ≡ (closed_receive_trace, true)
closed_receive_run = refl

nobody_there_run : answers nobody_there (run nobody_there 100000) ≡ (nobody_there_trace, true)
nobody_there_run = refl

-- The receiver goes on before the second sender, which it made ready after itself.
abbrev originator_told : List Step
originator_told =
    Local (global_id 1 1)
    ∷ Local (global_id 2 1)
    ∷ Local (global_id 3 1)
    ∷ Wait (global_id 4 1)
    ∷ Local (global_id 2 1)
    ∷ Local (global_id 3 1)
    ∷ Begin (send_of 2)
    ∷ Queue (send_of 2)
    ∷ Deliver (send_of 2) (global_id 4 1) (global_id 1 1) (global_id 2 1) 0x51001 (0 ∷ [])
    ∷ Begin (send_of 3)
    ∷ Queue (send_of 3)
    ∷ Wait (global_id 4 1)
    ∷ Deliver (send_of 3) (global_id 4 1) (global_id 3 1) (global_id 3 1) 0x50001 (0 ∷ [])
    ∷ Local (global_id 2 1)
    ∷ Local (global_id 4 1)
    ∷ Local (global_id 3 1) ∷ []

originator_run : answers originator (run originator 100000) ≡ (originator_told, true)
originator_run = refl

mutual_sends_run : answers mutual_sends (run mutual_sends 100000) ≡ (mutual_sends_trace, true)
mutual_sends_run = refl

finite_receive_run : answers finite_receive (run finite_receive 100000) ≡ (finite_receive_trace, true)
finite_receive_run = refl

zero_receive_run : answers zero_receive (run zero_receive 100000) ≡ (zero_receive_trace, true)
zero_receive_run = refl

timeouts_run : answers timeouts (run timeouts 100000) ≡ (timeouts_trace, true)
timeouts_run = refl

propagates_run : answers propagates (run propagates 100000) ≡ (propagates_trace, true)
propagates_run = refl

cancels_run : answers cancels (run cancels 100000) ≡ (cancels_trace, true)
cancels_run = refl

deletes_itself_run : answers deletes_itself (run deletes_itself 100000) ≡ (deletes_itself_trace, true)
deletes_itself_run = refl
