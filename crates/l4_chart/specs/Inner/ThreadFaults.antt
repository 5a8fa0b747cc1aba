-- Why a list names no threads.
use Rattle.std.specs.Prelude.{ℕ, ◌≡◌, Result, Err, List, ⊤}
use Rattle.l4_model.specs.Words.{GlobalId}
use Rattle.l4_chart.specs.declared.threads.ThreadsFault.{ThreadsFault}
use Rattle.l4_chart.specs.declared.threads.ThreadsFault.TheVariants.{NoMemory, Item}

-- The fault is the first item that names no thread, unless memory ran out.
abbrev pub IsThreadsFault : Result (List GlobalId) ℕ → ThreadsFault → Type 0
IsThreadsFault named NoMemory = ⊤
IsThreadsFault named (Item number) = named ≡ Err number
