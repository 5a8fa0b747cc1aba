-- Each thread of a lawful machine has a processor of it.
use Rattle.std.proofs.Common.{ℕ, suc, ◌<◌, List, [], ◌∷◌, length, arith}
use Rattle.std.specs.Prelude.{slice_index_or}
use Rattle.std.specs.List.{AllByRecursion}
use Rattle.l4_model.specs.Machine.{Machine, Declaration}
use Rattle.l4_core_model.specs.Local.{undeclared}
use Rattle.l4_core_model.specs.Runs.{IsMachine}
use Rattle.l4_worlds.specs.Inner.Room.{HaveProcessors}

pub homes : (m : Machine) → IsMachine m → HaveProcessors m
homes m h = by m.threads h.homed
  where
    by : (ds : List Declaration) → ((i : ℕ) → i < length ds → (slice_index_or ds i undeclared).cpu < m.cpus) → AllByRecursion (λ (d : Declaration). d.cpu < m.cpus) ds
    by [] homed = tt
    by (d ∷ ds) homed = (homed 0 (omega arith), by ds (λ i lt. homed (suc i) (omega arith)))
