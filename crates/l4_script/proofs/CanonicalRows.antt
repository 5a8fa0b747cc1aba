-- Machines with their canonical texts, computed.
use Rattle.std.specs.Prelude.{◌≡◌, List, ℕ, [], ◌∷◌, ◌++◌, Some, None, codes, refl}
use Rattle.std.specs.Fmt.{digits}
use Rattle.std.specs.List.{flat_map}
use Rattle.std.proofs.Common.{arith}
use Rattle.l4_model.specs.Words.{W64, W32, global_id, GlobalThread, LocalThread, NilThread, AnyThread, AnyLocalThread}
use Rattle.l4_model.specs.Machine.{Instr, Set, Copy, Add, Tag, Vs, Ipc, Fixed, Last, Ask, CancelSend, CancelReceive, CancelBoth, Delete, Jump, OnErr, End, Machine, machine_of, retargeting_machine_of}
use Rattle.l4_script.specs.Canonical.{low_digits, exponent_of, canonical_text, HasText}

abbrev text : List (List ℕ) → List ℕ
text lines = flat_map (λ line. line ++ 10 ∷ []) lines

-- No thread.

no_thread : canonical_text W64 (machine_of 1 []) ≡ text (codes "l4 1 64" ∷ codes "cpus 1" ∷ [])
unfolding digits
no_thread = refl

no_thread_of_profile_2 : canonical_text W64 (retargeting_machine_of 1 []) ≡ text (codes "l4 2 64" ∷ codes "cpus 1" ∷ [])
unfolding digits
no_thread_of_profile_2 = refl

no_thread_of_profile_2_in_32_bits : canonical_text W32 (retargeting_machine_of 1 []) ≡ text (codes "l4 2 32" ∷ codes "cpus 1" ∷ [])
unfolding digits
no_thread_of_profile_2_in_32_bits = refl

-- One send and one receive from any thread.

abbrev first_path : Machine
first_path = machine_of 1 (
    record { id = global_id 1 1; cpu = 0; space = 1; script = Set 1 10 ∷ Tag 0x70001 ∷ Ipc (Fixed (GlobalThread (global_id 2 1))) (Fixed NilThread) None None ∷ [] }
    ∷ record { id = global_id 2 1; cpu = 0; space = 2; script = Ipc (Fixed NilThread) (Fixed AnyThread) None None ∷ [] } ∷ [])

text_of_first_path : canonical_text W64 first_path ≡ text (
    codes "l4 1 64" ∷ codes "cpus 1"
    ∷ codes "thread 1.1 cpu 0 space 1" ∷ codes "set 1 10" ∷ codes "tag 458753" ∷ codes "ipc 2.1 nil never never"
    ∷ codes "thread 2.1 cpu 0 space 2" ∷ codes "ipc nil any never never" ∷ [])
unfolding digits
text_of_first_path = refl

-- Every instruction.

abbrev script : List Instr
script =
    Set 1 10
    ∷ Copy 63 0
    ∷ Add W64 1 0xffffffffffffffff
    ∷ Tag 0x70001
    ∷ Ipc (Fixed (GlobalThread (global_id 2 65))) (Fixed NilThread) None None
    ∷ Ipc (Fixed (LocalThread 0x4000000000000ac0)) (Fixed NilThread) None None
    ∷ Ipc (Fixed AnyThread) (Fixed NilThread) None None
    ∷ Ipc (Fixed NilThread) (Fixed AnyThread) None None
    ∷ Ipc Last (Fixed AnyLocalThread) (Some 0) (Some 5)
    ∷ Ipc (Fixed (GlobalThread (global_id 2 65))) (Fixed (GlobalThread (global_id 2 65))) (Some 1024) (Some 2196875771904)
    ∷ Vs (Fixed (GlobalThread (global_id 3 1)))
    ∷ Ask (Fixed (GlobalThread (global_id 2 65))) CancelSend
    ∷ Ask (Fixed NilThread) CancelReceive
    ∷ Ask (Fixed (GlobalThread (global_id 2 65))) CancelBoth
    ∷ Ask (Fixed (GlobalThread (global_id 2 65))) Delete
    ∷ Jump 18
    ∷ OnErr 0
    ∷ End
    ∷ []

abbrev machine : Machine
machine = machine_of 16 (
    record { id = global_id 1 1; cpu = 0; space = 1; script = script }
    ∷ record { id = global_id 2 65; cpu = 15; space = 4294967295; script = [] } ∷ [])

abbrev lines : List (List ℕ)
lines =
    codes "l4 1 64"
    ∷ codes "cpus 16"
    ∷ codes "thread 1.1 cpu 0 space 1"
    ∷ codes "set 1 10"
    ∷ codes "copy 63 0"
    ∷ codes "add 1 18446744073709551615"
    ∷ codes "tag 458753"
    ∷ codes "ipc 2.65 nil never never"
    ∷ codes "ipc #4000000000000ac0 nil never never"
    ∷ codes "ipc any nil never never"
    ∷ codes "ipc nil any never never"
    ∷ codes "ipc last anylocal zero 5"
    ∷ codes "ipc 2.65 2.65 1536 32767"
    ∷ codes "vs 3.1"
    ∷ codes "exregs 2.65 S"
    ∷ codes "exregs nil R"
    ∷ codes "exregs 2.65 SR"
    ∷ codes "delete 2.65"
    ∷ codes "jump 18"
    ∷ codes "onerr 0"
    ∷ codes "end"
    ∷ codes "thread 2.65 cpu 15 space 4294967295"
    ∷ []

text_of_machine : canonical_text W64 machine ≡ text lines
unfolding digits low_digits exponent_of
text_of_machine = refl

has_text : HasText W64 machine
unfolding exponent_of
has_text = record { some = omega arith; limit = omega arith; few = omega arith; apart = refl; each = refl }

-- In 32 bits.

abbrev short_script : List Instr
short_script =
    Set 1 0xffffffff
    ∷ Add W32 1 2
    ∷ Tag 0xffff003f
    ∷ Ipc (Fixed (GlobalThread (global_id 262143 16382))) (Fixed (LocalThread 0xffffff80)) None None
    ∷ Vs (Fixed (LocalThread 64))
    ∷ []

abbrev short_machine : Machine
short_machine = machine_of 1 (record { id = global_id 262143 16382; cpu = 0; space = 1; script = short_script } ∷ [])

abbrev short_lines : List (List ℕ)
short_lines =
    codes "l4 1 32"
    ∷ codes "cpus 1"
    ∷ codes "thread 262143.16382 cpu 0 space 1"
    ∷ codes "set 1 4294967295"
    ∷ codes "add 1 2"
    ∷ codes "tag 4294901823"
    ∷ codes "ipc 262143.16382 #ffffff80 never never"
    ∷ codes "vs #00000040"
    ∷ []

text_of_short_machine : canonical_text W32 short_machine ≡ text short_lines
unfolding digits low_digits exponent_of
text_of_short_machine = refl

short_has_text : HasText W32 short_machine
unfolding exponent_of
short_has_text = record { some = omega arith; limit = omega arith; few = omega arith; apart = refl; each = refl }

-- A machine without sums, and whose ids and words have room in 32 bits, has a text in either format.
first_path_has_both : HasText W64 first_path × HasText W32 first_path
unfolding exponent_of
first_path_has_both =
    (record { some = omega arith; limit = omega arith; few = omega arith; apart = refl; each = refl }, record { some = omega arith; limit = omega arith; few = omega arith; apart = refl; each = refl })
