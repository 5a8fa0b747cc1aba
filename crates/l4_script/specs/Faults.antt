-- Faults and their lines.
use Rattle.std.specs.Prelude.{ℕ}
use Rattle.l4_script.specs.declared.text.fault.TextFault.{TextFault}
use Rattle.l4_script.specs.declared.text.fault.TextFaultKind.{TextFaultKind}
use Rattle.l4_script.specs.declared.text.fault.TextFaultKind.TheVariants.{NoMemory}

abbrev pub fault_at : (line : ℕ) → TextFaultKind → TextFault
fault_at line kind = record { line = line; kind = kind }

-- The only fault that is not the text's: memory was refused.
abbrev pub no_memory : TextFault
no_memory = fault_at 0 NoMemory

abbrev pub fault_of : (line : ℕ) → TextFaultKind → TextFault
fault_of line NoMemory = no_memory
fault_of line kind = fault_at line kind
