-- Worked rows of messages and reports, computed.
use Rattle.std.specs.Prelude.{◌≡◌, ℕ, ◌+◌, true, None, unwrap_or, List, [], ◌∷◌, ◌++◌, map, filter, take, drop, option_map, replicate, refl}
use Rattle.std.specs.List.{range_with_len}
use Rattle.l4_model.specs.Words.{global_id, word_of, NilThread, AnyThread, GlobalThread}
use Rattle.l4_model.specs.Machine.{Machine, Fixed, Set, Tag, Ipc, machine_of}
use Rattle.l4_model.specs.Steps.{Step, Deliver}
use Rattle.l4_model.specs.History.{reached, view, Report, IsReady, IsEnded}
use Rattle.l4_model.proofs.Rows.{originator, withdrawn_too_late, withdrawn_too_late_trace, withdrawn, withdrawn_trace, timeouts, timeouts_trace, room_one, room_one_trace}
use Rattle.l4_core_model.specs.Runs.{told, at_rest}
use Rattle.l4_core_model.specs.Schedules.{run}
use Rattle.l4_core_model.proofs.Rows.{is_delivery}
use Rattle.l4_core_model.proofs.RowsInRounds.{send_of}

-- The reports of all threads after these steps.
abbrev pub reports : Machine → List Step → List Report
reports m h = unwrap_or (option_map (view m) (reached m h)) []

-- An empty message changes MR0 alone.

abbrev empty_message : Machine
empty_message = machine_of 1 (
    record { id = global_id 1 1; cpu = 0; space = 1; script = Tag 0x70000 ∷ Ipc (Fixed (GlobalThread (global_id 2 1))) (Fixed NilThread) None None ∷ [] }
    ∷ record { id = global_id 2 1; cpu = 0; space = 2; script = Set 1 5 ∷ Ipc (Fixed NilThread) (Fixed AnyThread) None None ∷ [] } ∷ [])

empty_message_reports : reports empty_message (told (run empty_message 100000).events) ≡
    record { id = global_id 1 1; state = IsEnded; error = 0; from = NilThread; actual = NilThread; words = replicate 64 0 }
    ∷ record { id = global_id 2 1; state = IsEnded; error = 0; from = GlobalThread (global_id 1 1); actual = GlobalThread (global_id 1 1); words = 0x70000 ∷ 5 ∷ replicate 62 0 } ∷ []
empty_message_reports = refl

empty_message_rests : at_rest empty_message (run empty_message 100000).system ≡ true
empty_message_rests = refl

-- All registers are sent, each once and in order, on one processor and from one to another.

abbrev all_registers : (receiver_cpu : ℕ) → Machine
all_registers cpu = machine_of (cpu + 1) (
    record { id = global_id 1 1; cpu = 0; space = 1; script = map (λ n. Set n n) (range_with_len 1 63) ++ Tag 0x7003f ∷ Ipc (Fixed (GlobalThread (global_id 2 1))) (Fixed NilThread) None None ∷ [] }
    ∷ record { id = global_id 2 1; cpu = cpu; space = 2; script = Ipc (Fixed NilThread) (Fixed AnyThread) None None ∷ [] } ∷ [])

all_registers_run : filter is_delivery (told (run (all_registers 0) 100000).events) ≡ Deliver (send_of 1) (global_id 2 1) (global_id 1 1) (global_id 1 1) 0x7003f (range_with_len 1 63) ∷ []
all_registers_run = refl

all_registers_cross_run : filter is_delivery (told (run (all_registers 1) 100000).events) ≡ Deliver (send_of 1) (global_id 2 1) (global_id 1 1) (global_id 1 1) 0x7403f (range_with_len 1 63) ∷ []
all_registers_cross_run = refl

-- What is left in registers

abbrev errors : Machine → List Step → List ℕ
errors m h = map (λ r. r.error) (reports m h)

originator_last : drop 3 (reports originator (told (run originator 100000).events)) ≡
    record { id = global_id 4 1; state = IsEnded; error = 0; from = GlobalThread (global_id 3 1); actual = GlobalThread (global_id 3 1); words = 0x50001 ∷ replicate 63 0 } ∷ []
originator_last = refl

withdrawn_too_late_errors : errors withdrawn_too_late withdrawn_too_late_trace ≡ 0 ∷ 0 ∷ []
withdrawn_too_late_errors = refl

withdrawn_errors : take 1 (errors withdrawn withdrawn_trace) ≡ 2 ∷ []
withdrawn_errors = refl

timeouts_errors : errors timeouts timeouts_trace ≡ 3 ∷ 3 ∷ 2 ∷ []
timeouts_errors = refl

-- Its `Done` is under way, and in the world it has gone on.
room_one_first : take 1 (reports room_one room_one_trace) ≡ record { id = global_id 1 1; state = IsReady; error = 0; from = NilThread; actual = NilThread; words = replicate 64 0 } ∷ []
room_one_first = refl

-- A number and a version of 1 make this word.
first_word : word_of (GlobalThread (global_id 1 1)) ≡ 4294967297
first_word = refl
