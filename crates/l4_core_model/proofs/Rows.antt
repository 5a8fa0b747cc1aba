-- Worked rows of core runs, computed.
use Rattle.std.specs.Prelude.{◌≡◌, ℕ, Bool, true, false, Some, List, [], ◌∷◌, map, filter, refl}
use Rattle.std.specs.Option.{option_map}
use Rattle.l4_model.specs.Steps.{Step, Local, Begin, Queue, Deliver, Wait}
use Rattle.l4_core_model.specs.Runs.{told, merged, at_rest, Turns, Handles, core_run, opening_run}
use Rattle.l4_core_model.specs.Schedules.{replay}
use Rattle.l4_model.proofs.Rows.{first_path, first_path_trace, two_processors, two_processors_trace, zero_send, zero_send_trace, answer, answer_trace, order_of_arrival, order_of_arrival_trace, closed_receive, closed_receive_trace, nobody_there, nobody_there_trace, withdrawn_too_late, withdrawn_too_late_trace, withdrawn, withdrawn_trace, crossing_calls, crossing_calls_trace, originator, cancelled_receive, cancelled_receive_trace, deletion, deletion_trace, mutual_sends, mutual_sends_trace, finite_receive, finite_receive_trace, zero_receive, zero_receive_trace, timeouts, timeouts_trace, propagates, propagates_trace, cancels, cancels_trace, deletes_itself, deletes_itself_trace, call_deleted_a, call_deleted_a_trace, call_deleted_b, call_deleted_b_trace, room_one, room_one_trace}

abbrev first_path_schedule : List ℕ
first_path_schedule = 0 ∷ 0 ∷ 0 ∷ 0 ∷ 0 ∷ 0 ∷ 0 ∷ 0 ∷ []

first_path_told : told (replay first_path first_path_schedule).events ≡ first_path_trace
first_path_told = refl

first_path_rests : at_rest first_path (replay first_path first_path_schedule).system ≡ true
first_path_rests = refl

abbrev two_processors_schedule : List ℕ
two_processors_schedule = 1 ∷ 0 ∷ 0 ∷ 0 ∷ 1 ∷ 0 ∷ 0 ∷ 1 ∷ []

two_processors_told : told (replay two_processors two_processors_schedule).events ≡ two_processors_trace
two_processors_told = refl

two_processors_rests : at_rest two_processors (replay two_processors two_processors_schedule).system ≡ true
two_processors_rests = refl

abbrev zero_send_schedule : List ℕ
zero_send_schedule = 0 ∷ 0 ∷ 0 ∷ []

zero_send_told : told (replay zero_send zero_send_schedule).events ≡ zero_send_trace
zero_send_told = refl

zero_send_rests : at_rest zero_send (replay zero_send zero_send_schedule).system ≡ false
zero_send_rests = refl

abbrev answer_schedule : List ℕ
answer_schedule = 0 ∷ 0 ∷ 0 ∷ 0 ∷ 0 ∷ 0 ∷ 0 ∷ 0 ∷ []

answer_told : told (replay answer answer_schedule).events ≡ answer_trace
answer_told = refl

answer_rests : at_rest answer (replay answer answer_schedule).system ≡ true
answer_rests = refl

abbrev order_of_arrival_schedule : List ℕ
order_of_arrival_schedule = 2 ∷ 1 ∷ 0 ∷ 0 ∷ 0 ∷ 0 ∷ 0 ∷ 0 ∷ 0 ∷ 0 ∷ 0 ∷ 0 ∷ 0 ∷ []

order_of_arrival_told : told (replay order_of_arrival order_of_arrival_schedule).events ≡ order_of_arrival_trace
order_of_arrival_told = refl

order_of_arrival_rests : at_rest order_of_arrival (replay order_of_arrival order_of_arrival_schedule).system ≡ false
order_of_arrival_rests = refl

abbrev closed_receive_schedule : List ℕ
closed_receive_schedule = 0 ∷ 0 ∷ 0 ∷ 0 ∷ 0 ∷ 0 ∷ 0 ∷ 0 ∷ 0 ∷ 0 ∷ 0 ∷ 0 ∷ 0 ∷ 0 ∷ 0 ∷ 0 ∷ []

closed_receive_told : told (replay closed_receive closed_receive_schedule).events ≡ closed_receive_trace
closed_receive_told = refl

closed_receive_rests : at_rest closed_receive (replay closed_receive closed_receive_schedule).system ≡ true
closed_receive_rests = refl

abbrev nobody_there_schedule : List ℕ
nobody_there_schedule = 0 ∷ 0 ∷ 0 ∷ 0 ∷ 0 ∷ 0 ∷ []

nobody_there_told : told (replay nobody_there nobody_there_schedule).events ≡ nobody_there_trace
nobody_there_told = refl

nobody_there_rests : at_rest nobody_there (replay nobody_there nobody_there_schedule).system ≡ true
nobody_there_rests = refl

abbrev withdrawn_too_late_schedule : List ℕ
withdrawn_too_late_schedule = 1 ∷ 0 ∷ 16 ∷ 0 ∷ 1 ∷ 1 ∷ 0 ∷ 0 ∷ 1 ∷ []

withdrawn_too_late_told : told (replay withdrawn_too_late withdrawn_too_late_schedule).events ≡ withdrawn_too_late_trace
withdrawn_too_late_told = refl

withdrawn_too_late_rests : at_rest withdrawn_too_late (replay withdrawn_too_late withdrawn_too_late_schedule).system ≡ true
withdrawn_too_late_rests = refl

abbrev withdrawn_schedule : List ℕ
withdrawn_schedule = 0 ∷ 1 ∷ 16 ∷ 0 ∷ 1 ∷ 0 ∷ 0 ∷ 1 ∷ []

withdrawn_told : told (replay withdrawn withdrawn_schedule).events ≡ withdrawn_trace
withdrawn_told = refl

withdrawn_rests : at_rest withdrawn (replay withdrawn withdrawn_schedule).system ≡ true
withdrawn_rests = refl

abbrev crossing_calls_schedule : List ℕ
crossing_calls_schedule = 1 ∷ 2 ∷ 0 ∷ 2 ∷ 2 ∷ 1 ∷ 1 ∷ 0 ∷ 0 ∷ 0 ∷ []

crossing_calls_told : told (replay crossing_calls crossing_calls_schedule).events ≡ crossing_calls_trace
crossing_calls_told = refl

crossing_calls_rests : at_rest crossing_calls (replay crossing_calls crossing_calls_schedule).system ≡ false
crossing_calls_rests = refl

abbrev originator_schedule : List ℕ
originator_schedule = 0 ∷ 0 ∷ 0 ∷ 0 ∷ 0 ∷ 0 ∷ 0 ∷ 0 ∷ 0 ∷ 0 ∷ 0 ∷ 0 ∷ 0 ∷ 0 ∷ 0 ∷ 0 ∷ 0 ∷ 0 ∷ 0 ∷ 0 ∷ []

abbrev pub is_delivery : Step → Bool
is_delivery (Deliver s receiver shown actual tag words) = true
is_delivery _ = false

originator_told : filter is_delivery (told (replay originator originator_schedule).events) ≡
    Deliver (record { thread = (record { number = 2; version = 1 }); k = 1 }) (record { number = 4; version = 1 }) (record { number = 1; version = 1 }) (record { number = 2; version = 1 }) 331777 (0 ∷ [])
    ∷ Deliver (record { thread = (record { number = 3; version = 1 }); k = 1 }) (record { number = 4; version = 1 }) (record { number = 3; version = 1 }) (record { number = 3; version = 1 }) 327681 (0 ∷ []) ∷ []
originator_told = refl

originator_rests : at_rest originator (replay originator originator_schedule).system ≡ true
originator_rests = refl

abbrev cancelled_receive_schedule : List ℕ
cancelled_receive_schedule = 0 ∷ 0 ∷ 1 ∷ 1 ∷ 1 ∷ 0 ∷ 0 ∷ 0 ∷ 0 ∷ 1 ∷ 1 ∷ []

cancelled_receive_told : told (replay cancelled_receive cancelled_receive_schedule).events ≡ cancelled_receive_trace
cancelled_receive_told = refl

cancelled_receive_rests : at_rest cancelled_receive (replay cancelled_receive cancelled_receive_schedule).system ≡ true
cancelled_receive_rests = refl

abbrev deletion_schedule : List ℕ
deletion_schedule = 1 ∷ 1 ∷ 0 ∷ 0 ∷ 0 ∷ 0 ∷ 0 ∷ 0 ∷ 0 ∷ 0 ∷ 0 ∷ 1 ∷ 1 ∷ 1 ∷ 1 ∷ 1 ∷ 0 ∷ 1 ∷ 1 ∷ []

deletion_told : told (replay deletion deletion_schedule).events ≡ deletion_trace
deletion_told = refl

deletion_rests : at_rest deletion (replay deletion deletion_schedule).system ≡ true
deletion_rests = refl

abbrev mutual_sends_schedule : List ℕ
mutual_sends_schedule = 0 ∷ 0 ∷ 0 ∷ 0 ∷ []

mutual_sends_told : told (replay mutual_sends mutual_sends_schedule).events ≡ mutual_sends_trace
mutual_sends_told = refl

mutual_sends_rests : at_rest mutual_sends (replay mutual_sends mutual_sends_schedule).system ≡ true
mutual_sends_rests = refl

abbrev finite_receive_schedule : List ℕ
finite_receive_schedule = 0 ∷ 16 ∷ 0 ∷ 0 ∷ []

finite_receive_told : told (replay finite_receive finite_receive_schedule).events ≡ finite_receive_trace
finite_receive_told = refl

finite_receive_rests : at_rest finite_receive (replay finite_receive finite_receive_schedule).system ≡ true
finite_receive_rests = refl

abbrev zero_receive_schedule : List ℕ
zero_receive_schedule = 0 ∷ 0 ∷ 0 ∷ []

zero_receive_told : told (replay zero_receive zero_receive_schedule).events ≡ zero_receive_trace
zero_receive_told = refl

zero_receive_rests : at_rest zero_receive (replay zero_receive zero_receive_schedule).system ≡ true
zero_receive_rests = refl

abbrev timeouts_schedule : List ℕ
timeouts_schedule = 0 ∷ 0 ∷ 0 ∷ 16 ∷ 0 ∷ 0 ∷ 16 ∷ 0 ∷ 0 ∷ 0 ∷ 0 ∷ []

timeouts_told : told (replay timeouts timeouts_schedule).events ≡ timeouts_trace
timeouts_told = refl

timeouts_rests : at_rest timeouts (replay timeouts timeouts_schedule).system ≡ true
timeouts_rests = refl

abbrev propagates_schedule : List ℕ
propagates_schedule = 0 ∷ 0 ∷ 0 ∷ 0 ∷ 0 ∷ 0 ∷ 0 ∷ 0 ∷ 0 ∷ 0 ∷ 0 ∷ 0 ∷ []

propagates_told : told (replay propagates propagates_schedule).events ≡ propagates_trace
propagates_told = refl

propagates_rests : at_rest propagates (replay propagates propagates_schedule).system ≡ true
propagates_rests = refl

abbrev cancels_schedule : List ℕ
cancels_schedule = 0 ∷ 0 ∷ 0 ∷ 0 ∷ 0 ∷ 0 ∷ 0 ∷ 0 ∷ 0 ∷ 0 ∷ 0 ∷ 0 ∷ []

cancels_told : told (replay cancels cancels_schedule).events ≡ cancels_trace
cancels_told = refl

cancels_rests : at_rest cancels (replay cancels cancels_schedule).system ≡ true
cancels_rests = refl

abbrev deletes_itself_schedule : List ℕ
deletes_itself_schedule = 0 ∷ 0 ∷ 0 ∷ 0 ∷ 0 ∷ 0 ∷ 0 ∷ 0 ∷ 0 ∷ 0 ∷ 0 ∷ 0 ∷ []

deletes_itself_told : told (replay deletes_itself deletes_itself_schedule).events ≡ deletes_itself_trace
deletes_itself_told = refl

deletes_itself_rests : at_rest deletes_itself (replay deletes_itself deletes_itself_schedule).system ≡ true
deletes_itself_rests = refl

abbrev call_deleted_a_schedule : List ℕ
call_deleted_a_schedule = 0 ∷ 0 ∷ 0 ∷ 1 ∷ 1 ∷ 0 ∷ 0 ∷ 1 ∷ 0 ∷ 0 ∷ 0 ∷ 1 ∷ []

call_deleted_a_told : told (replay call_deleted_a call_deleted_a_schedule).events ≡ call_deleted_a_trace
call_deleted_a_told = refl

call_deleted_a_rests : at_rest call_deleted_a (replay call_deleted_a call_deleted_a_schedule).system ≡ true
call_deleted_a_rests = refl

abbrev call_deleted_b_schedule : List ℕ
call_deleted_b_schedule = 1 ∷ 0 ∷ 0 ∷ 0 ∷ 1 ∷ 1 ∷ 0 ∷ 0 ∷ 0 ∷ 0 ∷ 0 ∷ 1 ∷ 1 ∷ []

call_deleted_b_told : told (replay call_deleted_b call_deleted_b_schedule).events ≡ call_deleted_b_trace
call_deleted_b_told = refl

call_deleted_b_rests : at_rest call_deleted_b (replay call_deleted_b call_deleted_b_schedule).system ≡ true
call_deleted_b_rests = refl

-- Processor 1 takes one turn, 0 three, 1 one, 0 two and 1 one; in the merge of the logs.
two_processors_merged : told (merged (replay two_processors two_processors_schedule).events) ≡
    Local (record { number = 1; version = 1 })
    ∷ Wait (record { number = 2; version = 1 })
    ∷ Local (record { number = 1; version = 1 })
    ∷ Begin (record { thread = (record { number = 1; version = 1 }); k = 1 })
    ∷ Queue (record { thread = (record { number = 1; version = 1 }); k = 1 })
    ∷ Deliver (record { thread = (record { number = 1; version = 1 }); k = 1 }) (record { number = 2; version = 1 }) (record { number = 1; version = 1 }) (record { number = 1; version = 1 }) 475137 (10 ∷ [])
    ∷ Local (record { number = 2; version = 1 })
    ∷ Local (record { number = 1; version = 1 }) ∷ []
two_processors_merged = refl

two_processors_stamps : map (λ e. e.stamp) (replay two_processors two_processors_schedule).events ≡ 1 ∷ 1 ∷ 2 ∷ 3 ∷ 4 ∷ 5 ∷ 6 ∷ 5 ∷ []
two_processors_stamps = refl

-- Room for one letter: the receiver's processor takes the core's turn while letters are under way.
room_one_told : option_map (λ r. told (merged r.events)) (core_run room_one (opening_run room_one) (Turns 0 ∷ Turns 0 ∷ Turns 0 ∷ Handles 1 0 ∷ Turns 1 ∷ Turns 1 ∷ [])) ≡ Some room_one_trace
room_one_told = refl
