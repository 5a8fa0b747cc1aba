use Rattle.std.proofs.Common.{◌≡◌, ℕ, List, drop, length}
use Rattle.l4_model.specs.Machine.{Machine}
use Rattle.l4_core_model.specs.Runs.{System}
use Rattle.l4_states.specs.Inner.Codes.{each, local_code, sized}
use Rattle.l4_codes.specs.Inner.Written.{with_numbers}
use Rattle.l4_parts.specs.Inner.Rows.{IsRowIn}
use Rattle.l4_parts.proofs.rows.put_cores.Given as goal

-- With the processors that are left it is the code of all.
abbrev pub invariant-loop-cpu : goal.invariant-loop-cpu
invariant-loop-cpu l =
    (m : Machine) (g : System) → IsRowIn m g l.parts l.row l.cpus → (rest : List ℕ) →
    with_numbers l.code (each (local_code (length m.threads)) (drop l.cpu g.locals) rest)
    ≡ with_numbers l.fn.code (sized m.cpus (local_code (length m.threads)) g.locals rest)
