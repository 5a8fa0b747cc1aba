-- What a search remembers of a machine.
use Rattle.std.specs.Prelude.{ℕ, List}
use Rattle.l4_model.specs.Machine.{Machine}
use Rattle.l4_core_model.specs.Runs.{IsMachine, opening_system}
use Rattle.l4_parts.specs.declared.parts.Part.{Part}
use Rattle.l4_parts.specs.declared.events.Event.{Event}
use Rattle.l4_parts.specs.Inner.Known.{AreKnown, IsRow}

-- All of it is true, and the row is that of the state at the beginning.
pub record IsMemory (m : Machine) (parts : List Part) (events : List Event) (opening : List ℕ) :
    Type 0 where
  pub machine : IsMachine m
  pub known : AreKnown m parts events
  pub opening_is : IsRow m (opening_system m) parts opening
