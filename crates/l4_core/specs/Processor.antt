-- What a contract sees of a `Core`: the machine, the number of the processor, and what this
-- processor knows.
use Rattle.std.specs.Prelude.{ℕ}
use Rattle.l4_model.specs.Machine.{Machine}
use Rattle.l4_core_model.specs.Local.{Local}

pub record Processor : Type 0 where
  pub machine : Machine
  pub cpu : ℕ
  pub local : Local

abbrev pub with_local : Processor → Local → Processor
with_local p l = record p { local = l }
