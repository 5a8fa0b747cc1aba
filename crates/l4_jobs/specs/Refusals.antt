-- How words that ask for no job are answered.
use Rattle.std.specs.Prelude.{◌≡◌, ◌⊎◌, ℕ, Bool, true, false, List}
use Rattle.std.specs.String.{string_bytes}
use Rattle.l4_commands.specs.declared.words.WordsFault.{WordsFault}
use Rattle.l4_commands.specs.declared.words.WordsFault.TheVariants.{Help, Usage, NoMemory}
use Rattle.l4_jobs.specs.FaultLines.{IsReported}
use Rattle.l4_jobs.specs.declared.fault.Fault.TheVariants as fault

-- One answer is written, to one stream. Help goes to the output with status 0; where that fails, it
-- is reported with status 1. Usage goes to the faults with status 2. Refused memory is reported
-- with status 1.
abbrev pub Refuses : WordsFault → (out : List ℕ → Bool →
    Type 0) (keeps_out : Type 0) (faults : List ℕ → Bool → Type 0) (keeps_faults : Type 0) →
    (status : ℕ) → Type 0
Refuses (Help text) out keeps_out faults keeps_faults status =
    ((status ≡ 0) × out (string_bytes text) true × keeps_faults) ⊎
    ((status ≡ 1) × out (string_bytes text) false × IsReported faults fault.Write)
Refuses (Usage text) out keeps_out faults keeps_faults status = (status ≡ 2) × keeps_out ×
    ((all : Bool) × faults (string_bytes text) all)
Refuses NoMemory out keeps_out faults keeps_faults status = (status ≡ 1) × keeps_out ×
    IsReported faults fault.NoMemory
