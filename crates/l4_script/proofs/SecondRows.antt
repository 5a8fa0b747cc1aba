-- Texts with scripts of version 2, their machines and faults, computed.
use Rattle.std.specs.Prelude.{◌≡◌, ℕ, true, false, List, [], ◌∷◌, ◌++◌, map, Some, None, Ok, Err, codes, refl}
use Rattle.std.specs.List.{flat_map, list_all}
use Rattle.std.specs.Fmt.{digits}
use Rattle.l4_model.specs.Words.{W64, W32, global_id, Id, GlobalThread, LocalThread, NilThread, AnyThread}
use Rattle.l4_model.specs.Machine.{Instr, Set, From, Vs, Ipc, Fixed, Last, InRegister, Ask, CancelSend, CancelBoth, Delete, Jump, OnErr, OnLabel, OnWord, OnFrom, End, Declaration, Machine, machine_of}
use Rattle.l4_script.specs.declared.text.fault.TextFault.{TextFault}
use Rattle.l4_script.specs.declared.text.fault.TextFaultKind.{TextFaultKind}
use Rattle.l4_script.specs.declared.text.fault.TextFaultKind.TheVariants.{BadLine, BadNumber, BadId, BadName, DoubleId, TooManyThreads, BadTarget}
use Rattle.l4_script.specs.Faults.{fault_at}
use Rattle.l4_script.specs.Numbers.{number_of, number_from, word_from, period_number, time_from}
use Rattle.l4_words.specs.Threads.{thread_of}
use Rattle.l4_script.specs.Canonical.{exponent_of, low_digits}
use Rattle.l4_script.specs.Ids.{thread_in, spelled_id_of, id_of}
use Rattle.l4_script.specs.Lines.{line_of}
use Rattle.l4_script.specs.Operations.{operation_named}
use Rattle.l4_script.specs.Statements.{format_line, processors_line, processor_of, declaration_of, value_of, assign_of, tag_of, vs_of, destination_of, ipc_of, bits_of, exregs_of, delete_of, target_of, other_of, instruction_of, declare, extend}
use Rattle.l4_script.specs.Texts.{thread_line}
use Rattle.l4_script.specs.Texts.{after_words as first_words, after_line as first_line}
use Rattle.l4_script.specs.Second.Names.{is_name, id_by_name, id_named, thread_named}
use Rattle.l4_script.specs.Second.Lines.{second_line_of}
use Rattle.l4_script.specs.Second.Operands.{register_of, id_or_register_of, id_or_last_of, place_of, second_time_from}
use Rattle.l4_script.specs.Second.Statements.{second_format_line, second_declaration_of, from_of, second_vs_of, second_ipc_of, second_exregs_of, second_delete_of, on_label_of, on_word_of, on_from_of, second_other_of, plain_of, second_instruction_of}
use Rattle.l4_script.specs.Second.Canonical.{second_canonical_text, second_can_be_written}
use Rattle.l4_script.specs.Second.Texts.{second_thread_line, after_words, after_line}
use Rattle.l4_script.specs.Versions.{machine_of_text}

abbrev text : List (List ℕ) → List ℕ
text lines = flat_map (λ line. line ++ 10 ∷ []) lines

abbrev t_1_1 : Id
t_1_1 = GlobalThread (global_id 1 1)

abbrev t_9_1 : Id
t_9_1 = GlobalThread (global_id 9 1)

abbrev thread : (number space : ℕ) → List Instr → Declaration
thread number space script = record { id = global_id number 1; cpu = 0; space = space; script = script }

-- A lock: label 1 takes it, label 2 gives it back.
abbrev lock_text : List ℕ
lock_text = text (
    codes "; a lock"
    ∷ codes "l4 1 64 2"
    ∷ codes "cpus 1"
    ∷ codes "name lock 9.1"
    ∷ codes "thread lock cpu 0 space 1     ; label 1 takes the lock, label 2 gives it back"
    ∷ codes "free:   ipc nil any never never"
    ∷ codes "          onlabel 1 give"
    ∷ codes "          jump free"
    ∷ codes "give: ipc last any zero never ; answers, then hears whoever comes"
    ∷ codes "          onlabel 2 free"
    ∷ (9 ∷ codes "from 32" ++ 9 ∷ 32 ∷ codes "; who wants it" ++ 13 ∷ [])
    ∷ codes ""
    ∷ codes "          ipc nil lock never 5ms"
    ∷ codes "          ipc mr32 any never never"
    ∷ codes "          jump give"
    ∷ codes "thread 1.1 cpu 0 space 2"
    ∷ codes "back:"
    ∷ codes "jump back"
    ∷ codes "thread 2.1 cpu 0 space 2 as 1.1"
    ∷ codes "thread 3.1 to 4.1 cpu 0 space 2 as lock"
    ∷ [])

abbrev lock_script : List Instr
lock_script =
    Ipc (Fixed NilThread) (Fixed AnyThread) None None
    ∷ OnLabel 1 3
    ∷ Jump 0
    ∷ Ipc Last (Fixed AnyThread) (Some 0) None
    ∷ OnLabel 2 0
    ∷ From W64 32
    ∷ Ipc (Fixed NilThread) (Fixed t_9_1) None (Some 5000)
    ∷ Ipc (InRegister W64 32) (Fixed AnyThread) None None
    ∷ Jump 3 ∷ []

lock_read : machine_of_text lock_text ≡ Ok (machine_of 1 (
    thread 9 1 lock_script
    ∷ thread 1 2 (Jump 0 ∷ [])
    ∷ thread 2 2 (Jump 0 ∷ [])
    ∷ thread 3 2 lock_script
    ∷ thread 4 2 lock_script ∷ []))
unfolding number_of number_from word_from period_number time_from thread_of thread_in spelled_id_of id_of exponent_of processors_line processor_of value_of operation_named assign_of tag_of bits_of declare extend is_name id_by_name id_named thread_named second_line_of register_of id_or_register_of id_or_last_of place_of second_time_from second_format_line second_declaration_of from_of second_vs_of second_ipc_of second_exregs_of second_delete_of on_label_of on_word_of on_from_of second_other_of plain_of second_instruction_of second_thread_line after_words after_line
lock_read = refl

abbrev behind_thread : (first : List ℕ) → List (List ℕ) → List ℕ
behind_thread first lines = text (first ∷ codes "cpus 1" ∷ codes "name lock 9.1" ∷ codes "thread 1.1 cpu 0 space 1" ∷ lines)

abbrev wide : List (List ℕ) → List ℕ
wide lines = behind_thread (codes "l4 1 64 2") lines

abbrev short : List (List ℕ) → List ℕ
short lines = behind_thread (codes "l4 1 32 2") lines

-- A line that is all of a script, and its instruction.
abbrev instructions : List (List ℕ × Instr)
instructions =
    (codes "set 1 10", Set 1 10)
    ∷ (codes "from 63", From W64 63)
    ∷ (codes "vs last", Vs Last)
    ∷ (codes "vs lock", Vs (Fixed t_9_1))
    ∷ (codes "vs mr0", Vs (InRegister W64 0))
    ∷ (codes "ipc last last never never", Ipc Last Last None None)
    ∷ (codes "ipc lock mr63 never never", Ipc (Fixed t_9_1) (InRegister W64 63) None None)
    ∷ (codes "ipc nil any 5us 5ms", Ipc (Fixed NilThread) (Fixed AnyThread) (Some 5) (Some 5000))
    ∷ (codes "ipc nil any 1024ms 0s", Ipc (Fixed NilThread) (Fixed AnyThread) (Some 1024000) (Some 0))
    ∷ (codes "ipc nil any 0us 0x400", Ipc (Fixed NilThread) (Fixed AnyThread) (Some 0) (Some 0))
    ∷ (codes "exregs last S", Ask Last CancelSend)
    ∷ (codes "exregs mr5 SR", Ask (InRegister W64 5) CancelBoth)
    ∷ (codes "delete mr5", Ask (InRegister W64 5) Delete)
    ∷ (codes "delete lock", Ask (Fixed t_9_1) Delete)
    ∷ (codes "onlabel 0xffffffffffff 1", OnLabel 0xffffffffffff 1)
    ∷ (codes "onword 0 0xffffffffffffffff 0", OnWord 0 0xffffffffffffffff 0)
    ∷ (codes "onfrom lock 0", OnFrom t_9_1 0)
    ∷ (codes "onfrom #0000000000000040 1", OnFrom (LocalThread 64) 1)
    ∷ (codes "here: onerr here", OnErr 0)
    ∷ (codes "a-1_b: jump a-1_b ; on and on", Jump 0)
    ∷ (codes "    end", End)
    ∷ []

instructions_read : map (λ row. machine_of_text (wide (row.0 ∷ []))) instructions ≡ map (λ row. Ok (machine_of 1 (thread 1 1 (row.1 ∷ []) ∷ []))) instructions
unfolding number_of number_from word_from period_number time_from thread_of thread_in spelled_id_of id_of exponent_of processors_line processor_of value_of operation_named assign_of tag_of bits_of declare extend is_name id_by_name id_named thread_named second_line_of register_of id_or_register_of id_or_last_of place_of second_time_from second_format_line second_declaration_of from_of second_vs_of second_ipc_of second_exregs_of second_delete_of on_label_of on_word_of on_from_of second_other_of plain_of second_instruction_of second_thread_line after_words after_line
instructions_read = refl

abbrev short_instructions : List (List ℕ × Instr)
short_instructions =
    (codes "from 1", From W32 1)
    ∷ (codes "vs mr7", Vs (InRegister W32 7))
    ∷ (codes "onlabel 0xffff 0", OnLabel 0xffff 0)
    ∷ []

short_instructions_read : map (λ row. machine_of_text (short (row.0 ∷ []))) short_instructions ≡ map (λ row. Ok (machine_of 1 (thread 1 1 (row.1 ∷ []) ∷ []))) short_instructions
unfolding number_of number_from word_from period_number time_from thread_of thread_in spelled_id_of id_of exponent_of processors_line processor_of value_of operation_named assign_of tag_of bits_of declare extend is_name id_by_name id_named thread_named second_line_of register_of id_or_register_of id_or_last_of place_of second_time_from second_format_line second_declaration_of from_of second_vs_of second_ipc_of second_exregs_of second_delete_of on_label_of on_word_of on_from_of second_other_of plain_of second_instruction_of second_thread_line after_words after_line
short_instructions_read = refl

-- A line that is all of a script, and its fault.
abbrev no_instructions : List (List ℕ × TextFaultKind)
no_instructions =
    (codes "set  1 1", BadLine)
    ∷ (codes "set" ++ 9 ∷ codes "1 1", BadLine)
    ∷ (codes "set 1 1" ++ 13 ∷ 13 ∷ [], BadLine)
    ∷ (codes "; " ++ 1 ∷ [], BadLine)
    ∷ (codes "name a 1.1", BadLine)
    ∷ (codes "here: thread 2.1 cpu 0 space 1", BadLine)
    ∷ (codes "here: there: end", BadLine)
    ∷ (codes "from 0", BadNumber)
    ∷ (codes "from 64", BadNumber)
    ∷ (codes "onlabel 0x1000000000000 0", BadNumber)
    ∷ (codes "onword 64 0 0", BadNumber)
    ∷ (codes "onword 1 x x", BadNumber)
    ∷ (codes "jump last", BadNumber)
    ∷ (codes "ipc nil any 5us 1025us", BadNumber)
    ∷ (codes "ipc nil any us never", BadNumber)
    ∷ (codes "ipc nil any 9ms never", BadNumber)
    ∷ (codes "ipc nil any 2s never", BadNumber)
    ∷ (codes "ipc nil any 0x5us never", BadNumber)
    ∷ (codes "ipc nil any 2200000s never", BadNumber)
    ∷ (codes "vs mr64", BadId)
    ∷ (codes "vs mr00", BadId)
    ∷ (codes "delete last", BadId)
    ∷ (codes "onfrom last 0", BadId)
    ∷ (codes "onfrom mr1 0", BadId)
    ∷ (codes "ipc 1.64 x never never", BadId)
    ∷ (codes "ipc x 1.64 never never", BadName)
    ∷ (codes "vs Lock", BadName)
    ∷ (codes "exregs here S", BadName)
    ∷ (codes "last: end", BadName)
    ∷ (codes "mr1: end", BadName)
    ∷ (codes "1a: end", BadName)
    ∷ (codes ": end", BadName)
    ∷ (codes "lock: end", BadName)
    ∷ (codes "a23456789012345678901234567890123: end", BadName)
    ∷ (codes "jump 2", BadTarget)
    ∷ (codes "onlabel 1 2", BadTarget)
    ∷ (codes "jump here", BadName)
    ∷ (codes "jump lock", BadName)
    ∷ []

no_instructions_read : map (λ row. machine_of_text (wide (row.0 ∷ []))) no_instructions ≡ map (λ row. Err (fault_at 5 row.1)) no_instructions
unfolding number_of number_from word_from period_number time_from thread_of thread_in spelled_id_of id_of exponent_of processors_line processor_of value_of operation_named assign_of tag_of bits_of declare extend is_name id_by_name id_named thread_named second_line_of register_of id_or_register_of id_or_last_of place_of second_time_from second_format_line second_declaration_of from_of second_vs_of second_ipc_of second_exregs_of second_delete_of on_label_of on_word_of on_from_of second_other_of plain_of second_instruction_of second_thread_line after_words after_line
no_instructions_read = refl

-- A first line that is not `l4 P B 2` is judged as ever, and so is the text behind it.
first_version : map machine_of_text (text (codes "l4 1 64" ∷ codes "cpus 1" ∷ codes "name lock 9.1" ∷ []) ∷ text (codes "l4 1 64 3" ∷ []) ∷ text (codes " l4 1 64" ∷ []) ∷ text (codes "l4 1 64 2 2" ∷ []) ∷ [])
    ≡ Err (fault_at 3 BadLine) ∷ Err (fault_at 1 BadLine) ∷ Err (fault_at 1 BadLine) ∷ Err (fault_at 1 BadLine) ∷ []
unfolding number_of number_from word_from period_number time_from thread_of thread_in spelled_id_of id_of exponent_of processors_line processor_of value_of operation_named assign_of tag_of bits_of declare extend is_name id_by_name id_named thread_named second_line_of register_of id_or_register_of id_or_last_of place_of second_time_from second_format_line second_declaration_of from_of second_vs_of second_ipc_of second_exregs_of second_delete_of on_label_of on_word_of on_from_of second_other_of plain_of second_instruction_of second_thread_line after_words after_line line_of format_line declaration_of vs_of destination_of ipc_of exregs_of delete_of target_of other_of instruction_of thread_line first_words first_line
first_version = refl

-- Names, and threads that have the script of another.
abbrev behind_headers : List (List ℕ) → List ℕ
behind_headers lines = text (codes "l4 1 64 2" ∷ codes "cpus 1" ∷ lines)

abbrev faulty_texts : List (List (List ℕ) × TextFault)
faulty_texts =
    (codes "name a 1.1" ∷ codes "name a 2.1" ∷ [], fault_at 4 BadName)
    ∷ (codes "name any 1.1" ∷ [], fault_at 3 BadName)
    ∷ (codes "name a b" ∷ [], fault_at 3 BadName)
    ∷ (codes "name a last" ∷ [], fault_at 3 BadId)
    ∷ (codes "name a" ∷ [], fault_at 3 BadLine)
    ∷ (codes "name a any" ∷ codes "thread a cpu 0 space 1" ∷ [], fault_at 4 BadId)
    ∷ (codes "thread 1.1 cpu 0 space 1" ∷ codes "name a 1.1" ∷ [], fault_at 4 BadLine)
    ∷ (codes "thread 1.1 cpu 0 space 1 as 1.1" ∷ [], fault_at 3 BadId)
    ∷ (codes "thread 1.1 cpu 0 space 1 is 1.1" ∷ [], fault_at 3 BadLine)
    ∷ (codes "thread 1.1 cpu 0 space 1" ∷ codes "thread 2.1 cpu 0 space 1 as 1.1" ∷ codes "end" ∷ [], fault_at 5 BadLine)
    ∷ (codes "thread 1.1 cpu 0 space 1" ∷ codes "thread 2.1 cpu 0 space 1 as 1.1" ∷ codes "x:" ∷ [], fault_at 5 BadLine)
    ∷ (codes "thread 1.1 cpu 0 space 1" ∷ codes "thread 1.2 cpu 0 space 1 as 1.1" ∷ [], fault_at 4 DoubleId)
    ∷ (codes "thread 3.1 cpu 0 space 1" ∷ codes "thread 2.1 to 4.1 cpu 0 space 1 as 3.1" ∷ [], fault_at 4 DoubleId)
    ∷ (codes "thread 3.1 cpu 0 space 1" ∷ codes "thread 4.1 to 4.2 cpu 0 space 1 as 3.1" ∷ [], fault_at 4 BadId)
    ∷ (codes "thread 3.1 cpu 0 space 1" ∷ codes "thread 5.1 to 4.1 cpu 0 space 1 as 3.1" ∷ [], fault_at 4 BadId)
    ∷ (codes "thread 3.1 cpu 0 space 1" ∷ codes "thread 4.1 to 5.1 cpu 0 space 1" ∷ [], fault_at 4 BadLine)
    ∷ (codes "thread 3.1 cpu 0 space 1" ∷ codes "thread 4.1 to 1027.1 cpu 0 space 1 as 3.1" ∷ [], fault_at 4 TooManyThreads)
    ∷ (codes "thread 1.1 cpu 0 space 1" ∷ codes "x: end" ∷ codes "x:" ∷ [], fault_at 5 BadName)
    ∷ (codes "thread 1.1 cpu 0 space 1" ∷ codes "x: end" ∷ codes "thread 2.1 cpu 0 space 1" ∷ codes "jump x" ∷ [], fault_at 6 BadName)
    ∷ []

faulty_texts_read : map (λ row. machine_of_text (behind_headers row.0)) faulty_texts ≡ map (λ row. Err row.1) faulty_texts
unfolding number_of number_from word_from period_number time_from thread_of thread_in spelled_id_of id_of exponent_of processors_line processor_of value_of operation_named assign_of tag_of bits_of declare extend is_name id_by_name id_named thread_named second_line_of register_of id_or_register_of id_or_last_of place_of second_time_from second_format_line second_declaration_of from_of second_vs_of second_ipc_of second_exregs_of second_delete_of on_label_of on_word_of on_from_of second_other_of plain_of second_instruction_of second_thread_line after_words after_line
faulty_texts_read = refl

-- A name of the place behind the last instruction, one of a name, and the same names in two scripts.
abbrev named_text : List (List ℕ)
named_text =
    codes "name a 1.1"
    ∷ codes "name b a"
    ∷ codes "thread b cpu 0 space 1"
    ∷ codes "jump out"
    ∷ codes "x: jump x"
    ∷ codes "out:"
    ∷ codes "thread 2.1 cpu 0 space 1"
    ∷ codes "x: jump x" ∷ []

named_read : machine_of_text (behind_headers named_text)
    ≡ Ok (machine_of 1 (thread 1 1 (Jump 2 ∷ Jump 1 ∷ []) ∷ thread 2 1 (Jump 0 ∷ []) ∷ []))
unfolding number_of number_from word_from period_number time_from thread_of thread_in spelled_id_of id_of exponent_of processors_line processor_of value_of operation_named assign_of tag_of bits_of declare extend is_name id_by_name id_named thread_named second_line_of register_of id_or_register_of id_or_last_of place_of second_time_from second_format_line second_declaration_of from_of second_vs_of second_ipc_of second_exregs_of second_delete_of on_label_of on_word_of on_from_of second_other_of plain_of second_instruction_of second_thread_line after_words after_line
named_read = refl

-- What these texts mean is written without names, and read back.
abbrev lock_machine : Machine
lock_machine = machine_of 1 (thread 9 1 lock_script ∷ thread 1 2 (Jump 0 ∷ []) ∷ [])

canonical_read : machine_of_text (second_canonical_text W64 lock_machine) ≡ Ok lock_machine
unfolding number_of number_from word_from period_number time_from thread_of thread_in spelled_id_of id_of exponent_of processors_line processor_of value_of operation_named assign_of tag_of bits_of declare extend is_name id_by_name id_named thread_named second_line_of register_of id_or_register_of id_or_last_of place_of second_time_from second_format_line second_declaration_of from_of second_vs_of second_ipc_of second_exregs_of second_delete_of on_label_of on_word_of on_from_of second_other_of plain_of second_instruction_of second_thread_line after_words after_line low_digits digits
canonical_read = refl

canonical_of_instructions : map (λ row. machine_of_text (second_canonical_text W64 (machine_of 1 (thread 1 1 (row.1 ∷ []) ∷ [])))) instructions ≡ map (λ row. Ok (machine_of 1 (thread 1 1 (row.1 ∷ []) ∷ []))) instructions
unfolding number_of number_from word_from period_number time_from thread_of thread_in spelled_id_of id_of exponent_of processors_line processor_of value_of operation_named assign_of tag_of bits_of declare extend is_name id_by_name id_named thread_named second_line_of register_of id_or_register_of id_or_last_of place_of second_time_from second_format_line second_declaration_of from_of second_vs_of second_ipc_of second_exregs_of second_delete_of on_label_of on_word_of on_from_of second_other_of plain_of second_instruction_of second_thread_line after_words after_line low_digits digits
canonical_of_instructions = refl

can_be_written_so : list_all (λ row. second_can_be_written W64 1 row.1) instructions ≡ true
unfolding number_of number_from word_from period_number time_from thread_of thread_in spelled_id_of id_of exponent_of processors_line processor_of value_of operation_named assign_of tag_of bits_of declare extend is_name id_by_name id_named thread_named second_line_of register_of id_or_register_of id_or_last_of place_of second_time_from second_format_line second_declaration_of from_of second_vs_of second_ipc_of second_exregs_of second_delete_of on_label_of on_word_of on_from_of second_other_of plain_of second_instruction_of second_thread_line after_words after_line
can_be_written_so = refl

-- `add` and ids of registers have a text in their format alone.
of_their_format : map (second_can_be_written W32 1) (From W64 1 ∷ From W32 1 ∷ Vs (InRegister W64 1) ∷ Vs (InRegister W32 1) ∷ Ask Last Delete ∷ []) ≡ false ∷ true ∷ false ∷ true ∷ false ∷ []
of_their_format = refl
