-- Texts with their machines and faults, computed.
use Rattle.std.specs.Prelude.{◌≡◌, ℕ, Bool, List, [], ◌∷◌, ◌++◌, map, length, filter, take, is_ok, Option, Some, None, Result, Ok, Err, codes, refl}
use Rattle.std.specs.List.{flat_map, range_with_len}
use Rattle.l4_model.specs.Words.{W64, W32, global_id, Id, GlobalThread, LocalThread, NilThread, AnyThread, AnyLocalThread, Period}
use Rattle.l4_model.specs.Machine.{Instr, Set, Copy, Add, Tag, Vs, Ipc, Fixed, Last, Ask, CancelSend, CancelReceive, CancelBoth, Delete, Jump, OnErr, End, Declaration, Machine, machine_of, retargeting_machine_of}
use Rattle.l4_script.specs.declared.text.fault.TextFault.{TextFault}
use Rattle.l4_script.specs.declared.text.fault.TextFaultKind.{TextFaultKind}
use Rattle.l4_script.specs.declared.text.fault.TextFaultKind.TheVariants.{BadLine, BadNumber, BadId, BadCpu, TypedItems, DoubleId, BadTarget}
use Rattle.l4_script.specs.Faults.{fault_at}
use Rattle.l4_script.specs.Judged.{Judged}
use Rattle.l4_script.specs.Numbers.{number_of, number_from, word_from, period_number, time_from}
use Rattle.l4_words.specs.Threads.{thread_of}
use Rattle.l4_script.specs.Ids.{thread_in, spelled_id_of, id_of}
use Rattle.l4_script.specs.Lines.{line_of}
use Rattle.l4_script.specs.Operations.{operation_named}
use Rattle.l4_script.specs.Statements.{format_line, processors_line, processor_of, declaration_of, value_of, assign_of, tag_of, vs_of, destination_of, ipc_of, bits_of, exregs_of, delete_of, target_of, other_of, instruction_of, declare, extend}
use Rattle.l4_script.specs.Texts.{thread_line, after_words, after_line, first_machine_of_text, format_of_text}

-- Words

abbrev numbers : List (List ℕ × Option ℕ)
numbers =
    (codes "0", Some 0)
    ∷ (codes "10", Some 10)
    ∷ (codes "18446744073709551615", Some 0xffffffffffffffff)
    ∷ (codes "18446744073709551616", None)
    ∷ (codes "00", None)
    ∷ (codes "01", None)
    ∷ (codes "1a", None)
    ∷ (codes "+1", None)
    ∷ (codes "-1", None)
    ∷ (codes "x", None)
    ∷ (codes "0x0", Some 0)
    ∷ (codes "0x40", Some 64)
    ∷ (codes "0x000000000000000a", Some 10)
    ∷ (codes "0xffffffffffffffff", Some 0xffffffffffffffff)
    ∷ (codes "0x0000000000000000a", None)
    ∷ (codes "0x", None)
    ∷ (codes "0xA", None)
    ∷ (codes "0Xa", None)
    ∷ (codes "0xg", None)
    ∷ []

numbers_read : map (λ row. number_of row.0) numbers ≡ map (λ row. row.1) numbers
unfolding number_of
numbers_read = refl

abbrev ids : List (List ℕ × Option Id)
ids =
    (codes "nil", Some NilThread)
    ∷ (codes "any", Some AnyThread)
    ∷ (codes "anylocal", Some AnyLocalThread)
    ∷ (codes "0.1", Some (GlobalThread (global_id 0 1)))
    ∷ (codes "2.65", Some (GlobalThread (global_id 2 65)))
    ∷ (codes "4294967295.4294967294", Some (GlobalThread (global_id 4294967295 4294967294)))
    ∷ (codes "#0000000200000041", Some (GlobalThread (global_id 2 65)))
    ∷ (codes "#0000000000000000", Some NilThread)
    ∷ (codes "#ffffffffffffffff", Some AnyThread)
    ∷ (codes "#ffffffffffffffc0", Some AnyLocalThread)
    ∷ (codes "#0000000000000040", Some (LocalThread 64))
    ∷ (codes "last", None)
    ∷ (codes "Nil", None)
    ∷ (codes "anyloca", None)
    ∷ (codes "1.64", None)
    ∷ (codes "1.0", None)
    ∷ (codes "4294967295.4294967295", None)
    ∷ (codes "4294967296.1", None)
    ∷ (codes "1.4294967297", None)
    ∷ (codes "01.1", None)
    ∷ (codes "1.01", None)
    ∷ (codes "0x1.1", None)
    ∷ (codes "1", None)
    ∷ (codes "1.", None)
    ∷ (codes ".1", None)
    ∷ (codes "1.1.1", None)
    ∷ (codes "#1", None)
    ∷ (codes "#", None)
    ∷ (codes "#000000200000041", None)
    ∷ (codes "#00000000200000041", None)
    ∷ (codes "#00000000000000C0", None)
    ∷ []

ids_read : map (λ row. id_of W64 row.0) ids ≡ map (λ row. row.1) ids
unfolding thread_of thread_in spelled_id_of id_of
ids_read = refl

-- `never` is the time 0 and `zero` the time 0x400.
abbrev times : List (List ℕ × Judged Period)
times =
    (codes "never", Ok None)
    ∷ (codes "0", Ok None)
    ∷ (codes "0x0", Ok None)
    ∷ (codes "zero", Ok (Some 0))
    ∷ (codes "1024", Ok (Some 0))
    ∷ (codes "0x7c00", Ok (Some 0))
    ∷ (codes "5", Ok (Some 5))
    ∷ (codes "0xc03", Ok (Some 24))
    ∷ (codes "0x7fff", Ok (Some 2196875771904))
    ∷ (codes "0x8000", Err BadNumber)
    ∷ (codes "65536", Err BadNumber)
    ∷ (codes "nil", Err BadNumber)
    ∷ (codes "last", Err BadNumber)
    ∷ (codes "Never", Err BadNumber)
    ∷ []

times_read : map (λ row. time_from row.0) times ≡ map (λ row. row.1) times
unfolding number_of number_from period_number time_from
times_read = refl

-- Texts

abbrev text : List (List ℕ) → List ℕ
text lines = flat_map (λ line. line ++ 10 ∷ []) lines

abbrev first_path_text : List ℕ
first_path_text = text (
    codes "l4 1 64" ∷ codes "cpus 1"
    ∷ codes "thread 1.1 cpu 0 space 1" ∷ codes "set 1 10" ∷ codes "tag 0x70001" ∷ codes "ipc 2.1 nil never never"
    ∷ codes "thread 2.1 cpu 0 space 2" ∷ codes "ipc nil any never never" ∷ [])

abbrev t_1_1 : Id
t_1_1 = GlobalThread (global_id 1 1)

abbrev t_2_1 : Id
t_2_1 = GlobalThread (global_id 2 1)

abbrev t_2_65 : Id
t_2_65 = GlobalThread (global_id 2 65)

abbrev send_to : Id → Instr
send_to to = Ipc (Fixed to) (Fixed NilThread) None None

abbrev receive_from_any : Instr
receive_from_any = Ipc (Fixed NilThread) (Fixed AnyThread) None None

abbrev thread : (number space : ℕ) → List Instr → Declaration
thread number space script = record { id = global_id number 1; cpu = 0; space = space; script = script }

abbrev first_path : Machine
first_path = machine_of 1 (thread 1 1 (Set 1 10 ∷ Tag 0x70001 ∷ send_to (GlobalThread (global_id 2 1)) ∷ []) ∷ thread 2 2 (receive_from_any ∷ []) ∷ [])

first_path_read : first_machine_of_text first_path_text ≡ Ok first_path
unfolding number_of number_from word_from period_number time_from thread_of thread_in spelled_id_of id_of line_of format_line processors_line processor_of declaration_of value_of operation_named assign_of tag_of vs_of destination_of ipc_of bits_of exregs_of delete_of target_of other_of instruction_of declare extend thread_line after_words after_line
first_path_read = refl

first_path_size : length first_path_text ≡ 134
first_path_size = refl

-- The beginnings of this text that are texts: those that end with a line, behind the `cpus` line.
abbrev is_read : ℕ → Bool
is_read size = is_ok (first_machine_of_text (take size first_path_text))

beginnings_read : filter is_read (range_with_len 0 135) ≡ 15 ∷ 40 ∷ 49 ∷ 61 ∷ 85 ∷ 110 ∷ 134 ∷ []
unfolding number_of number_from word_from period_number time_from thread_of thread_in spelled_id_of id_of line_of format_line processors_line processor_of declaration_of value_of operation_named assign_of tag_of vs_of destination_of ipc_of bits_of exregs_of delete_of target_of other_of instruction_of declare extend thread_line after_words after_line
beginnings_read = refl

abbrev behind_headers : List (List ℕ) → List ℕ
behind_headers lines = text (codes "l4 1 64" ∷ codes "cpus 1" ∷ lines)

abbrev behind_thread : List (List ℕ) → List ℕ
behind_thread lines = behind_headers (codes "thread 1.1 cpu 0 space 1" ∷ lines)

-- A line that is all of a script, and its instruction.
abbrev instructions : List (List ℕ × Instr)
instructions =
    (codes "set 1 10", Set 1 10)
    ∷ (codes "set 63 0xffffffffffffffff", Set 63 0xffffffffffffffff)
    ∷ (codes "set 0x3f 18446744073709551615", Set 63 0xffffffffffffffff)
    ∷ (codes "copy 1 0", Copy 1 0)
    ∷ (codes "copy 63 63", Copy 63 63)
    ∷ (codes "add 1 1", Add W64 1 1)
    ∷ (codes "add 63 0xffffffffffffffff", Add W64 63 0xffffffffffffffff)
    ∷ (codes "tag 0", Tag 0)
    ∷ (codes "tag 0x70001", Tag 0x70001)
    ∷ (codes "tag 0xfffffffffffff03f", Tag 0xfffffffffffff03f)
    ∷ (codes "ipc 2.65 nil never never", send_to t_2_65)
    ∷ (codes "ipc #0000000200000041 nil 0 0x0", send_to t_2_65)
    ∷ (codes "ipc any nil never never", send_to AnyThread)
    ∷ (codes "ipc anylocal nil never never", send_to AnyLocalThread)
    ∷ (codes "ipc #0000000000000040 nil never never", send_to (LocalThread 64))
    ∷ (codes "ipc nil nil never never", send_to NilThread)
    ∷ (codes "ipc 1.1 #0000000000000000 never never", send_to t_1_1)
    ∷ (codes "ipc nil any never never", receive_from_any)
    ∷ (codes "ipc #0000000000000000 #ffffffffffffffff 0x0000 never", receive_from_any)
    -- both phases, one, or none
    ∷ (codes "ipc 2.1 2.1 never never", Ipc (Fixed t_2_1) (Fixed t_2_1) None None)
    ∷ (codes "ipc 2.1 any never never", Ipc (Fixed t_2_1) (Fixed AnyThread) None None)
    ∷ (codes "ipc nil 2.1 never never", Ipc (Fixed NilThread) (Fixed t_2_1) None None)
    ∷ (codes "ipc nil anylocal never never", Ipc (Fixed NilThread) (Fixed AnyLocalThread) None None)
    ∷ (codes "ipc any anylocal zero zero", Ipc (Fixed AnyThread) (Fixed AnyLocalThread) (Some 0) (Some 0))
    ∷ (codes "ipc #0000000000000040 #0000000000000080 never never", Ipc (Fixed (LocalThread 64)) (Fixed (LocalThread 128)) None None)
    ∷ (codes "ipc last nil never never", Ipc Last (Fixed NilThread) None None)
    ∷ (codes "ipc last any 5 0x400", Ipc Last (Fixed AnyThread) (Some 5) (Some 0))
    -- every time, of the send phase and of the receive phase
    ∷ (codes "ipc 2.1 2.1 zero never", Ipc (Fixed t_2_1) (Fixed t_2_1) (Some 0) None)
    ∷ (codes "ipc 2.1 2.1 never zero", Ipc (Fixed t_2_1) (Fixed t_2_1) None (Some 0))
    ∷ (codes "ipc 2.1 2.1 1024 0x7c00", Ipc (Fixed t_2_1) (Fixed t_2_1) (Some 0) (Some 0))
    ∷ (codes "ipc 2.1 2.1 5 0xc03", Ipc (Fixed t_2_1) (Fixed t_2_1) (Some 5) (Some 24))
    ∷ (codes "ipc 2.1 2.1 0x7fff 1", Ipc (Fixed t_2_1) (Fixed t_2_1) (Some 2196875771904) (Some 1))
    -- every id of the VirtualSender
    ∷ (codes "vs 2.65", Vs (Fixed t_2_65))
    ∷ (codes "vs #0000000200000041", Vs (Fixed t_2_65))
    ∷ (codes "vs nil", Vs (Fixed NilThread))
    ∷ (codes "vs any", Vs (Fixed AnyThread))
    ∷ (codes "vs anylocal", Vs (Fixed AnyLocalThread))
    ∷ (codes "vs #0000000000000040", Vs (Fixed (LocalThread 64)))
    -- orders, of whatever id
    ∷ (codes "exregs 1.1 S", Ask (Fixed t_1_1) CancelSend)
    ∷ (codes "exregs 2.1 R", Ask (Fixed t_2_1) CancelReceive)
    ∷ (codes "exregs 2.1 SR", Ask (Fixed t_2_1) CancelBoth)
    ∷ (codes "exregs nil S", Ask (Fixed NilThread) CancelSend)
    ∷ (codes "exregs #0000000200000041 SR", Ask (Fixed t_2_65) CancelBoth)
    ∷ (codes "delete 2.1", Ask (Fixed t_2_1) Delete)
    ∷ (codes "delete any", Ask (Fixed AnyThread) Delete)
    ∷ (codes "delete #0000000000000040", Ask (Fixed (LocalThread 64)) Delete)
    ∷ (codes "jump 0", Jump 0)
    ∷ (codes "jump 1", Jump 1)
    ∷ (codes "onerr 0x1", OnErr 1)
    ∷ (codes "end", End)
    ∷ []

instructions_read : map (λ row. first_machine_of_text (behind_thread (row.0 ∷ []))) instructions ≡ map (λ row. Ok (machine_of 1 (thread 1 1 (row.1 ∷ []) ∷ []))) instructions
unfolding number_of number_from word_from period_number time_from thread_of thread_in spelled_id_of id_of line_of format_line processors_line processor_of declaration_of value_of operation_named assign_of tag_of vs_of destination_of ipc_of bits_of exregs_of delete_of target_of other_of instruction_of declare extend thread_line after_words after_line
instructions_read = refl

-- A line that is all of a script, and its fault.
abbrev no_instructions : List (List ℕ × TextFaultKind)
no_instructions =
    -- the number of words, and the spaces between them
    (codes "set 1", BadLine)
    ∷ (codes "set 1 1 1", BadLine)
    ∷ (codes "set 1 1 ", BadLine)
    ∷ (codes " set 1 1", BadLine)
    ∷ (codes "set  1 1", BadLine)
    ∷ (codes "set 1 1" ++ 13 ∷ [], BadLine)
    ∷ (codes "set" ++ 9 ∷ codes "1 1", BadLine)
    ∷ (codes "copy 1", BadLine)
    ∷ (codes "add 1", BadLine)
    ∷ (codes "tag", BadLine)
    ∷ (codes "ipc nil any never", BadLine)
    ∷ (codes "ipc nil any never never never", BadLine)
    ∷ (codes "vs", BadLine)
    ∷ (codes "vs 1.1 1.1", BadLine)
    ∷ (codes "exregs 1.1", BadLine)
    ∷ (codes "exregs 1.1 S R", BadLine)
    ∷ (codes "delete", BadLine)
    ∷ (codes "delete 1.1 S", BadLine)
    ∷ (codes "jump", BadLine)
    ∷ (codes "onerr 1 1", BadLine)
    ∷ (codes "end 0", BadLine)
    -- unknown words, and lines of another place
    ∷ (codes "Set 1 1", BadLine)
    ∷ (codes "Vs 1.1", BadLine)
    ∷ (codes "order 1.1 S", BadLine)
    ∷ (codes "cpus 1", BadLine)
    -- numbers and their ranges
    ∷ (codes "set 0 1", BadNumber)
    ∷ (codes "set 64 1", BadNumber)
    ∷ (codes "set 01 1", BadNumber)
    ∷ (codes "set 0xA 1", BadNumber)
    ∷ (codes "set last 1", BadNumber)
    ∷ (codes "set 1 18446744073709551616", BadNumber)
    ∷ (codes "copy 0 1", BadNumber)
    ∷ (codes "copy 64 1", BadNumber)
    ∷ (codes "copy 1 64", BadNumber)
    ∷ (codes "add 0 1", BadNumber)
    ∷ (codes "add 64 1", BadNumber)
    ∷ (codes "add 1 -1", BadNumber)
    ∷ (codes "tag x", BadNumber)
    ∷ (codes "jump x", BadNumber)
    ∷ (codes "jump 18446744073709551616", BadNumber)
    ∷ (codes "onerr last", BadNumber)
    -- typed items
    ∷ (codes "tag 0x41", TypedItems)
    ∷ (codes "tag 0x800", TypedItems)
    -- ids
    ∷ (codes "vs last", BadId)
    ∷ (codes "vs 1.64", BadId)
    ∷ (codes "vs 1", BadId)
    ∷ (codes "delete last", BadId)
    ∷ (codes "delete 1.64", BadId)
    ∷ (codes "exregs last S", BadId)
    ∷ (codes "exregs 1.64 SR", BadId)
    -- the bits of exregs, which are judged before its id
    ∷ (codes "exregs 1.1 RS", BadLine)
    ∷ (codes "exregs 1.1 s", BadLine)
    ∷ (codes "exregs 1.1 delete", BadLine)
    ∷ (codes "exregs 1.64 SS", BadLine)
    ∷ (codes "exregs S 1.1", BadLine)
    -- the operands of an ipc, from left to right
    ∷ (codes "ipc nil last never never", BadId)
    ∷ (codes "ipc last last never never", BadId)
    ∷ (codes "ipc Last nil never never", BadId)
    ∷ (codes "ipc 1.64 any never never", BadId)
    ∷ (codes "ipc 01.1 nil x x", BadId)
    ∷ (codes "ipc 2.1 #1 x x", BadId)
    ∷ (codes "ipc nil any 0x8000 never", BadNumber)
    ∷ (codes "ipc nil any never 0x8000", BadNumber)
    ∷ (codes "ipc 2.1 any never x", BadNumber)
    ∷ (codes "ipc last any last never", BadNumber)
    ∷ (codes "ipc last any never last", BadNumber)
    -- a place above the number of instructions
    ∷ (codes "jump 2", BadTarget)
    ∷ (codes "onerr 2", BadTarget)
    ∷ (codes "jump 18446744073709551615", BadTarget)
    ∷ []

no_instructions_read : map (λ row. first_machine_of_text (behind_thread (row.0 ∷ []))) no_instructions ≡ map (λ row. Err (fault_at 4 row.1)) no_instructions
unfolding number_of number_from word_from period_number time_from thread_of thread_in spelled_id_of id_of line_of format_line processors_line processor_of declaration_of value_of operation_named assign_of tag_of vs_of destination_of ipc_of bits_of exregs_of delete_of target_of other_of instruction_of declare extend thread_line after_words after_line
no_instructions_read = refl

-- A third line, and its fault.
abbrev no_threads : List (List ℕ × TextFaultKind)
no_threads =
    (codes "thread 1.64 cpu 0 space 1", BadId)
    ∷ (codes "thread 1.0 cpu 0 space 1", BadId)
    ∷ (codes "thread 4294967295.4294967295 cpu 0 space 1", BadId)
    ∷ (codes "thread nil cpu 0 space 1", BadId)
    ∷ (codes "thread #0000000100000001 cpu 0 space 1", BadId)
    ∷ (codes "thread 1.64 cpu x space x", BadId)
    ∷ (codes "thread 1.1 cpu 1 space 1", BadCpu)
    ∷ (codes "thread 1.1 cpu 18446744073709551615 space x", BadCpu)
    ∷ (codes "thread 1.1 cpu 18446744073709551616 space 1", BadNumber)
    ∷ (codes "thread 1.1 cpu x space 1", BadNumber)
    ∷ (codes "thread 1.1 cpu 0 space 4294967296", BadNumber)
    ∷ (codes "thread 1.1 cpu 0 space x", BadNumber)
    ∷ (codes "thread 1.64 cp 0 space 1", BadLine)
    ∷ (codes "thread 1.64 cpu 0 spac 1", BadLine)
    ∷ (codes "thread 1.64 cpu 0 space", BadLine)
    ∷ (codes "thread 1.64 cpu 0 space 1 1", BadLine)
    -- an instruction stands behind a thread line
    ∷ (codes "tag x", BadLine)
    ∷ (codes "end", BadLine)
    ∷ (codes "l4 1 64", BadLine)
    ∷ []

no_threads_read : map (λ row. first_machine_of_text (behind_headers (row.0 ∷ []))) no_threads ≡ map (λ row. Err (fault_at 3 row.1)) no_threads
unfolding number_of number_from word_from period_number time_from thread_of thread_in spelled_id_of id_of line_of format_line processors_line processor_of declaration_of value_of operation_named assign_of tag_of vs_of destination_of ipc_of bits_of exregs_of delete_of target_of other_of instruction_of declare extend thread_line after_words after_line
no_threads_read = refl

-- Whole texts

abbrev no_thread : Result Machine TextFault
no_thread = Ok (machine_of 1 [])

-- Two threads of different processors.
abbrev apart : Result Machine TextFault
apart =
    Ok (machine_of 16 (record { id = global_id 1 1; cpu = 15; space = 1; script = [] } ∷ record { id = global_id 2 1; cpu = 0; space = 1; script = [] } ∷ []))

abbrev script : List Instr → Result Machine TextFault
script instrs = Ok (machine_of 1 (thread 1 1 instrs ∷ []))

abbrev texts : List (List ℕ × Result Machine TextFault)
texts =
    -- A text ends before one of its first two lines, or behind them.
    ([], Err (fault_at 1 BadLine))
    ∷ (text ([] ∷ codes "; nothing" ∷ []), Err (fault_at 3 BadLine))
    ∷ (text (codes "l4 1 64" ∷ []), Err (fault_at 2 BadLine))
    ∷ (behind_headers [], no_thread)
    -- Headers
    ∷ (text (codes "l4 0x1 0x40" ∷ codes "cpus 0x01" ∷ []), no_thread)
    ∷ (text (codes "l4 x 64" ∷ []), Err (fault_at 1 BadNumber))
    ∷ (text (codes "l4 2 64" ∷ codes "cpus 1" ∷ []), Ok (retargeting_machine_of 1 []))
    ∷ (text (codes "l4 0x02 0x40" ∷ codes "cpus 16" ∷ []), Ok (retargeting_machine_of 16 []))
    ∷ (text (codes "l4 2 64" ∷ []), Err (fault_at 2 BadLine))
    ∷ (text (codes "l4 1 32" ∷ codes "cpus 1" ∷ []), no_thread)
    ∷ (text (codes "l4 0x1 0x20" ∷ codes "cpus 1" ∷ []), no_thread)
    ∷ (text (codes "l4 1 32" ∷ []), Err (fault_at 2 BadLine))
    ∷ (text (codes "l4 2 32" ∷ codes "cpus 1" ∷ []), Ok (retargeting_machine_of 1 []))
    ∷ (text (codes "l4 2 32" ∷ []), Err (fault_at 2 BadLine))
    ∷ (text (codes "l4 0 64" ∷ []), Err (fault_at 1 BadNumber))
    ∷ (text (codes "l4 3 64" ∷ []), Err (fault_at 1 BadNumber))
    ∷ (text (codes "l4 0 32" ∷ []), Err (fault_at 1 BadNumber))
    ∷ (text (codes "l4 3 32" ∷ []), Err (fault_at 1 BadNumber))
    ∷ (text (codes "l4 1 33" ∷ []), Err (fault_at 1 BadNumber))
    ∷ (text (codes "l4 1 16" ∷ []), Err (fault_at 1 BadNumber))
    ∷ (text (codes "l4 2 33" ∷ []), Err (fault_at 1 BadNumber))
    ∷ (text (codes "l4 2 x" ∷ []), Err (fault_at 1 BadNumber))
    ∷ (text (codes "l4 1 last" ∷ []), Err (fault_at 1 BadNumber))
    ∷ (text (codes "l4 64 2" ∷ []), Err (fault_at 1 BadNumber))
    ∷ (text (codes "l4 32 1" ∷ []), Err (fault_at 1 BadNumber))
    ∷ (text (codes "l4 1" ∷ []), Err (fault_at 1 BadLine))
    ∷ (text (codes "l4 1 64 1" ∷ []), Err (fault_at 1 BadLine))
    ∷ (text (codes "cpus 1" ∷ []), Err (fault_at 1 BadLine))
    ∷ (text (codes "l4 1 64" ∷ codes "cpus 0" ∷ []), Err (fault_at 2 BadNumber))
    ∷ (text (codes "l4 1 64" ∷ codes "cpus 17" ∷ []), Err (fault_at 2 BadNumber))
    ∷ (text (codes "l4 1 64" ∷ codes "cpus x" ∷ []), Err (fault_at 2 BadNumber))
    ∷ (text (codes "l4 1 64" ∷ codes "cpus 2 2" ∷ []), Err (fault_at 2 BadLine))
    ∷ (text (codes "l4 1 64" ∷ codes "cpus" ∷ []), Err (fault_at 2 BadLine))
    ∷ (text (codes "l4 1 64" ∷ codes "thread 1.1 cpu 0 space 1" ∷ []), Err (fault_at 2 BadLine))
    -- Processors
    ∷ (text (codes "l4 1 64" ∷ codes "cpus 16" ∷ codes "thread 1.1 cpu 0xf space 1" ∷ codes "thread 2.1 cpu 0 space 1" ∷ []), apart)
    ∷ (text (codes "l4 1 64" ∷ codes "cpus 16" ∷ codes "thread 1.1 cpu 16 space 1" ∷ []), Err (fault_at 3 BadCpu))
    ∷ (text (codes "l4 1 64" ∷ codes "cpus 2" ∷ codes "thread 1.1 cpu 1 space 1" ∷ codes "thread 2.1 cpu 2 space x" ∷ []), Err (fault_at 4 BadCpu))
    -- Threads
    ∷ (behind_headers (codes "thread 1.1 cpu 0x0 space 4294967295" ∷ []), Ok (machine_of 1 (thread 1 4294967295 [] ∷ [])))
    ∷ (behind_thread [], script [])
    ∷ (behind_thread (codes "thread 1.1 cpu 0 space 1" ∷ []), Err (fault_at 4 DoubleId))
    ∷ (behind_thread (codes "thread 1.2 cpu 0 space 1" ∷ []), Err (fault_at 4 DoubleId))
    ∷ (behind_thread (codes "thread 1.2 cpu 0 space x" ∷ []), Err (fault_at 4 BadNumber))
    -- The last line has its end.
    ∷ (behind_headers [] ++ codes "thread 1.1 cp", Err (fault_at 3 BadLine))
    ∷ (behind_thread [] ++ codes "end", Err (fault_at 4 BadLine))
    ∷ (behind_thread [] ++ codes "; end", Err (fault_at 4 BadLine))
    -- Empty lines and comments count, and of a comment only its bytes are judged.
    ∷ (text (codes "; a" ∷ [] ∷ codes "l4 1 64" ∷ codes ";" ∷ codes "cpus 1" ∷ codes ";  two  spaces " ∷ []), no_thread)
    ∷ (behind_headers (codes ";  two  spaces " ∷ [] ∷ codes "tag  1" ∷ []), Err (fault_at 5 BadLine))
    ∷ (behind_headers (codes "; set" ∷ (codes "; " ++ 0x7f ∷ []) ∷ []), Err (fault_at 4 BadLine))
    ∷ (behind_headers ((codes "; " ++ 0xc3 ∷ 0xa4 ∷ []) ∷ []), Err (fault_at 3 BadLine))
    ∷ (behind_headers ((codes "; " ++ 0x1f ∷ []) ∷ []), Err (fault_at 3 BadLine))
    ∷ (behind_headers (codes " ; set" ∷ []), Err (fault_at 3 BadLine))
    -- Places are judged in the end, each by its own script, and the first missed one is named.
    ∷ (behind_thread (codes "jump 2" ∷ codes "end" ∷ []), script (Jump 2 ∷ End ∷ []))
    ∷ (behind_thread (codes "jump 3" ∷ codes "end" ∷ []), Err (fault_at 4 BadTarget))
    ∷ (behind_thread (codes "jump 9" ∷ codes "set 0 1" ∷ []), Err (fault_at 5 BadNumber))
    ∷ (behind_thread (codes "jump 9" ∷ codes "thread 1.1 cpu 0 space 1" ∷ []), Err (fault_at 5 DoubleId))
    ∷ (behind_thread (codes "jump 9" ∷ []) ++ codes "end", Err (fault_at 5 BadLine))
    ∷ (behind_thread (codes "jump 3" ∷ codes "; once" ∷ codes "onerr 9" ∷ codes "jump 8" ∷ []), Err (fault_at 6 BadTarget))
    ∷ (behind_thread (codes "jump 2" ∷ codes "thread 2.1 cpu 0 space 1" ∷ codes "jump 2" ∷ codes "end" ∷ []), Err (fault_at 4 BadTarget))
    ∷ (behind_thread (codes "end" ∷ codes "end" ∷ codes "thread 2.1 cpu 0 space 1" ∷ codes "onerr 2" ∷ []), Err (fault_at 7 BadTarget))
    ∷ []

texts_read : map (λ row. first_machine_of_text row.0) texts ≡ map (λ row. row.1) texts
unfolding number_of number_from word_from period_number time_from thread_of thread_in spelled_id_of id_of line_of format_line processors_line processor_of declaration_of value_of operation_named assign_of tag_of vs_of destination_of ipc_of bits_of exregs_of delete_of target_of other_of instruction_of declare extend thread_line after_words after_line
texts_read = refl

-- In 32 bits

abbrev short_ids : List (List ℕ × Option Id)
short_ids =
    (codes "nil", Some NilThread)
    ∷ (codes "any", Some AnyThread)
    ∷ (codes "anylocal", Some AnyLocalThread)
    ∷ (codes "0.1", Some (GlobalThread (global_id 0 1)))
    ∷ (codes "262143.16382", Some (GlobalThread (global_id 262143 16382)))
    ∷ (codes "#fffffffe", Some (GlobalThread (global_id 262143 16382)))
    ∷ (codes "#00004001", Some t_1_1)
    ∷ (codes "#00008041", Some t_2_65)
    ∷ (codes "#00000000", Some NilThread)
    ∷ (codes "#ffffffff", Some AnyThread)
    ∷ (codes "#ffffffc0", Some AnyLocalThread)
    ∷ (codes "#ffffff80", Some (LocalThread 0xffffff80))
    ∷ (codes "#00000040", Some (LocalThread 64))
    ∷ (codes "262143.16383", None)
    ∷ (codes "262144.1", None)
    ∷ (codes "1.16385", None)
    ∷ (codes "1.16384", None)
    ∷ (codes "1.64", None)
    ∷ (codes "#0000000000004001", None)
    ∷ (codes "#0004001", None)
    ∷ (codes "#000004001", None)
    ∷ (codes "#0000400A", None)
    ∷ []

short_ids_read : map (λ row. id_of W32 row.0) short_ids ≡ map (λ row. row.1) short_ids
unfolding thread_of thread_in spelled_id_of id_of
short_ids_read = refl

abbrev behind_short_thread : List (List ℕ) → List ℕ
behind_short_thread lines = text (codes "l4 1 32" ∷ codes "cpus 1" ∷ codes "thread 1.1 cpu 0 space 1" ∷ lines)

abbrev short_instructions : List (List ℕ × Instr)
short_instructions =
    (codes "set 1 0xffffffff", Set 1 0xffffffff)
    -- what counts is the value, and not the number of digits
    ∷ (codes "set 1 0x00000000ffffffff", Set 1 0xffffffff)
    ∷ (codes "set 1 4294967295", Set 1 0xffffffff)
    ∷ (codes "add 1 2", Add W32 1 2)
    ∷ (codes "add 63 0xffffffff", Add W32 63 0xffffffff)
    ∷ (codes "tag 0xffff003f", Tag 0xffff003f)
    ∷ (codes "ipc #00008001 nil never never", send_to t_2_1)
    ∷ (codes "ipc nil #ffffffff never never", receive_from_any)
    ∷ (codes "vs 262143.16382", Vs (Fixed (GlobalThread (global_id 262143 16382))))
    ∷ (codes "exregs #00008041 SR", Ask (Fixed t_2_65) CancelBoth)
    ∷ (codes "delete #00000040", Ask (Fixed (LocalThread 64)) Delete)
    ∷ (codes "copy 1 0", Copy 1 0)
    ∷ (codes "jump 0x0000000000000001", Jump 1)
    ∷ []

short_instructions_read : map (λ row. first_machine_of_text (behind_short_thread (row.0 ∷ []))) short_instructions ≡ map (λ row. Ok (machine_of 1 (thread 1 1 (row.1 ∷ []) ∷ []))) short_instructions
unfolding number_of number_from word_from period_number time_from thread_of thread_in spelled_id_of id_of line_of format_line processors_line processor_of declaration_of value_of operation_named assign_of tag_of vs_of destination_of ipc_of bits_of exregs_of delete_of target_of other_of instruction_of declare extend thread_line after_words after_line
short_instructions_read = refl

abbrev no_short_instructions : List (List ℕ × TextFaultKind)
no_short_instructions =
    (codes "set 1 0x100000000", BadNumber)
    ∷ (codes "set 1 18446744073709551616", BadNumber)
    ∷ (codes "add 1 4294967296", BadNumber)
    ∷ (codes "tag 0x100000000", BadNumber)
    -- a word that is too wide is no number, whatever its typed items
    ∷ (codes "tag 0x100000041", BadNumber)
    ∷ (codes "tag 0x41", TypedItems)
    ∷ (codes "vs 262143.16383", BadId)
    ∷ (codes "vs 262144.1", BadId)
    ∷ (codes "ipc 1.16385 nil never never", BadId)
    ∷ (codes "ipc nil #0000000000004001 never never", BadId)
    ∷ (codes "exregs 262143.16383 S", BadId)
    ∷ (codes "delete #000000040", BadId)
    -- a place and a processor are no words
    ∷ (codes "jump 18446744073709551615", BadTarget)
    ∷ (codes "jump 0x100000000", BadTarget)
    ∷ (codes "thread 2.1 cpu 0x100000000 space 1", BadCpu)
    ∷ (codes "thread 262144.1 cpu 0 space 1", BadId)
    ∷ (codes "thread 262143.16383 cpu 0 space 1", BadId)
    ∷ (codes "thread 2.1 cpu 0 space 4294967296", BadNumber)
    ∷ []

no_short_instructions_read : map (λ row. first_machine_of_text (behind_short_thread (row.0 ∷ []))) no_short_instructions ≡ map (λ row. Err (fault_at 4 row.1)) no_short_instructions
unfolding number_of number_from word_from period_number time_from thread_of thread_in spelled_id_of id_of line_of format_line processors_line processor_of declaration_of value_of operation_named assign_of tag_of vs_of destination_of ipc_of bits_of exregs_of delete_of target_of other_of instruction_of declare extend thread_line after_words after_line
no_short_instructions_read = refl

-- The format is that of the first line that says something.
formats_named :
    (format_of_text first_path_text ≡ Some W64) × (format_of_text (behind_short_thread []) ≡ Some W32) × (format_of_text (text (codes "l4 2 32" ∷ [])) ≡ Some W32) × (format_of_text (text (codes "; a" ∷ [] ∷ codes "l4 0x1 0x20" ∷ [])) ≡ Some W32)
    × (format_of_text (text (codes "l4 1 33" ∷ [])) ≡ None) × (format_of_text (text (codes "cpus 1" ∷ codes "l4 1 32" ∷ [])) ≡ None) × (format_of_text [] ≡ None)
unfolding number_of line_of format_line
formats_named = (refl, refl, refl, refl, refl, refl, refl)

-- A sum that wraps, and an id by its word.
short_path_read :
    first_machine_of_text (behind_short_thread (codes "set 1 0xffffffff" ∷ codes "add 1 2" ∷ codes "tag 0x70001" ∷ codes "ipc #00008001 nil never never" ∷ codes "thread 2.1 cpu 0 space 2" ∷ codes "ipc nil any never never" ∷ []))
    ≡ Ok (machine_of 1 (thread 1 1 (Set 1 0xffffffff ∷ Add W32 1 2 ∷ Tag 0x70001 ∷ send_to t_2_1 ∷ []) ∷ thread 2 2 (receive_from_any ∷ []) ∷ []))
unfolding number_of number_from word_from period_number time_from thread_of thread_in spelled_id_of id_of line_of format_line processors_line processor_of declaration_of value_of operation_named assign_of tag_of vs_of destination_of ipc_of bits_of exregs_of delete_of target_of other_of instruction_of declare extend thread_line after_words after_line
short_path_read = refl

short_sum_of_profile_2_read :
    first_machine_of_text (text (codes "l4 2 32" ∷ codes "cpus 1" ∷ codes "thread 1.1 cpu 0 space 1" ∷ codes "add 1 2" ∷ []))
    ≡ Ok (retargeting_machine_of 1 (thread 1 1 (Add W32 1 2 ∷ []) ∷ []))
unfolding number_of number_from word_from period_number time_from thread_of thread_in spelled_id_of id_of line_of format_line processors_line processor_of declaration_of value_of operation_named assign_of tag_of vs_of destination_of ipc_of bits_of exregs_of delete_of target_of other_of instruction_of declare extend thread_line after_words after_line
short_sum_of_profile_2_read = refl
