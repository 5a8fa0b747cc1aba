-- Lines of worked rows, computed.
use Rattle.std.specs.Prelude.{◌≡◌, ◌-◌, ◌^◌, [], ◌∷◌, map, codes, refl}
use Rattle.std.specs.Fmt.{digits}
use Rattle.l4_model.specs.Words.{global_id}
use Rattle.l4_model.specs.Machine.{CancelBoth}
use Rattle.l4_model.specs.Steps.{Deliver, Order, Tick}
use Rattle.l4_model.proofs.Rows.{first_path_trace, two_processors_trace, nobody_there_trace, withdrawn_trace, finite_receive_trace, cancelled_receive_trace, cancels_trace, call_deleted_a_trace}
use Rattle.l4_model.proofs.Rows.Retargets.{one_processor_trace}
use Rattle.l4_trace.specs.Lines.{line_of}

first_path_lines : map line_of first_path_trace ≡
    codes "local 1.1\n" ∷ codes "wait 2.1\n" ∷ codes "local 1.1\n" ∷ codes "begin 1.1#1\n"
    ∷ codes "queue 1.1#1\n" ∷ codes "deliver 1.1#1 2.1 1.1 1.1 70001 a\n" ∷ codes "local 2.1\n"
    ∷ codes "local 1.1\n" ∷ []
unfolding digits
first_path_lines = refl

two_processors_lines : map line_of two_processors_trace ≡
    codes "wait 2.1\n" ∷ codes "local 1.1\n" ∷ codes "local 1.1\n" ∷ codes "begin 1.1#1\n"
    ∷ codes "queue 1.1#1\n" ∷ codes "deliver 1.1#1 2.1 1.1 1.1 74001 a\n" ∷ codes "local 1.1\n"
    ∷ codes "local 2.1\n" ∷ []
unfolding digits
two_processors_lines = refl

nobody_there_lines : map line_of nobody_there_trace ≡
    codes "begin 1.1#1\n" ∷ codes "snobody 1.1#1\n" ∷ codes "begin 1.1#2\n" ∷ codes "snobody 1.1#2\n"
    ∷ codes "begin 1.1#3\n" ∷ codes "snobody 1.1#3\n" ∷ codes "wait 1.1\n" ∷ codes "rnobody 1.1\n"
    ∷ codes "local 1.1\n" ∷ []
unfolding digits
nobody_there_lines = refl

withdrawn_lines : map line_of withdrawn_trace ≡
    codes "begin 1.1#1\n" ∷ codes "queue 1.1#1\n" ∷ codes "tick 0 5\n" ∷ codes "stimeout 1.1#1\n"
    ∷ codes "local 1.1\n" ∷ codes "wait 2.1\n" ∷ []
unfolding digits
withdrawn_lines = refl

finite_receive_lines : map line_of finite_receive_trace ≡
    codes "wait 1.1\n" ∷ codes "tick 0 24\n" ∷ codes "rtimeout 1.1\n" ∷ codes "local 1.1\n" ∷ []
unfolding digits
finite_receive_lines = refl

cancelled_receive_lines : map line_of cancelled_receive_trace ≡
    codes "begin 1.1#1\n" ∷ codes "order 2.1 1.1 R\n" ∷ codes "obey 2.1\n" ∷ codes "queue 1.1#1\n"
    ∷ codes "wait 3.1\n" ∷ codes "deliver 1.1#1 3.1 1.1 1.1 4000\n" ∷ codes "rcancel 1.1\n"
    ∷ codes "local 2.1\n" ∷ codes "local 1.1\n" ∷ codes "local 3.1\n" ∷ codes "local 3.1\n" ∷ []
unfolding digits
cancelled_receive_lines = refl

cancels_lines : map line_of cancels_trace ≡
    codes "begin 1.1#1\n" ∷ codes "queue 1.1#1\n" ∷ codes "order 2.1 1.1 S\n" ∷ codes "obey 2.1\n"
    ∷ codes "scancel 1.1#1\n" ∷ codes "local 3.1\n" ∷ codes "local 2.1\n" ∷ codes "local 1.1\n"
    ∷ codes "local 3.1\n" ∷ []
unfolding digits
cancels_lines = refl

call_deleted_a_lines : map line_of call_deleted_a_trace ≡
    codes "begin 1.1#1\n" ∷ codes "begin 2.1#1\n" ∷ codes "queue 2.1#1\n" ∷ codes "order 3.1 1.1 delete\n"
    ∷ codes "obey 3.1\n" ∷ codes "queue 1.1#1\n" ∷ codes "drop 1.1#1\n" ∷ codes "snobody 2.1#1\n"
    ∷ codes "wait 4.1\n" ∷ codes "local 3.1\n" ∷ codes "local 2.1\n" ∷ []
unfolding digits
call_deleted_a_lines = refl

-- A message that is handed on, with its retarget.
one_processor_lines : map line_of one_processor_trace ≡
    codes "begin 1.1#1\n" ∷ codes "queue 1.1#1\n" ∷ codes "wait 2.1\n" ∷ codes "deliver 1.1#1 2.1 1.1 1.1 0\n"
    ∷ codes "wait 3.1\n" ∷ codes "local 2.1\n" ∷ codes "local 2.1\n" ∷ codes "begin 2.1#1\n"
    ∷ codes "queue 2.1#1\n" ∷ codes "deliver 2.1#1 3.1 1.1 2.1 1000\n" ∷ codes "retarget 2.1#1\n"
    ∷ codes "begin 3.1#1\n" ∷ codes "queue 3.1#1\n" ∷ codes "deliver 3.1#1 1.1 3.1 3.1 0\n"
    ∷ codes "local 2.1\n" ∷ codes "local 1.1\n" ∷ codes "local 3.1\n" ∷ []
unfolding digits
one_processor_lines = refl

-- Both bits of a cancellation, and the greatest numbers.
both_bits_line : line_of (Order (global_id 2 1) (global_id 1 65) CancelBoth) ≡ codes "order 2.1 1.65 SR\n"
unfolding digits
both_bits_line = refl

last_tick_line : line_of (Tick 15 (2 ^ 62 - 1)) ≡ codes "tick 15 4611686018427387903\n"
unfolding digits
last_tick_line = refl

widest_delivery_line :
    line_of (Deliver (record { thread = global_id (2 ^ 32 - 1) 1; k = 2 ^ 64 - 1 }) (global_id 0 (2 ^ 32 - 1)) (global_id 2 65) (global_id 1 1) 0xffffffffffff0002 (0 ∷ (2 ^ 64 - 1) ∷ []))
    ≡ codes "deliver 4294967295.1#18446744073709551615 0.4294967295 2.65 1.1 ffffffffffff0002 0 ffffffffffffffff\n"
unfolding digits
widest_delivery_line = refl
