-- Short names in which rows are written.
use Rattle.std.specs.Prelude.{ℕ, ◌-◌, Bool, true, false, Option, Some, None, option_map, List, ◌++◌, length, replicate}
use Rattle.l4_model.specs.Words.{GlobalId, Id, NilThread, AnyThread, GlobalThread, global_id}
use Rattle.l4_model.specs.Machine.{Fixed, Instr, Ipc, Declaration, Machine}
use Rattle.l4_model.specs.World.{Name}
use Rattle.l4_model.specs.Steps.{Step}
use Rattle.l4_model.specs.History.{reached, view, waiting, State, Report}
use Rattle.l4_model.specs.Still.{is_still}

abbrev pub thread : ℕ → GlobalId
thread n = global_id n 1

abbrev pub id : ℕ → Id
id n = GlobalThread (thread n)

abbrev pub send : (n k : ℕ) → Name
send n k = record { thread = thread n; k = k }

-- An ipc with a send phase only, and one with an open receive phase only, both without timeouts.
abbrev pub sends : ℕ → Instr
sends n = Ipc (Fixed (id n)) (Fixed NilThread) None None

abbrev pub receives : Instr
receives = Ipc (Fixed NilThread) (Fixed AnyThread) None None

abbrev pub declared : (n cpu space : ℕ) → List Instr → Declaration
declared n cpu space script = record { id = thread n; cpu = cpu; space = space; script = script }

-- How steps end: in a still world or not, with these sends waiting.
pub record Ending : Type 0 where
  pub still : Bool
  pub waits : List (Name × Id)

abbrev pub ends : Machine → List Step → Option Ending
ends m h = option_map (λ w. record { still = is_still m w; waits = waiting m w h }) (reached m h)

abbrev pub quiet : List (Name × Id) → Option Ending
quiet waits = Some (record { still = true; waits = waits })

abbrev pub spent : List (Name × Id) → Option Ending
spent waits = Some (record { still = false; waits = waits })

-- What is reported of each thread. Registers that are not written are 0.
abbrev pub reports : Machine → List Step → Option (List Report)
reports m h = option_map (view m) (reached m h)

abbrev pub report : ℕ → State → (error : ℕ) → (from actual : Id) → (words : List ℕ) → Report
report n state error from actual words =
    record { id = thread n; state = state; error = error; from = from; actual = actual; words = words ++ replicate (64 - length words) 0 }
