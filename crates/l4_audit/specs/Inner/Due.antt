-- When a timeout is due.
use Rattle.std.specs.Prelude.{◌<◌, Option, List}
use Rattle.std.specs.List.{AllByRecursion}
use Rattle.std.specs.Option.{option_to_list, option_map}
use Rattle.l4_model.specs.Words.{clock_limit}
use Rattle.l4_model.specs.Machine.{Machine, most_processors}
use Rattle.l4_model.specs.World.{World}
use Rattle.l4_model.specs.Steps.{Step, Tick}
use Rattle.l4_types.specs.Inner.ClockTick.{ClockTick}
use Rattle.l4_worlds.specs.Told.{until_due}

abbrev pub ticks_of : Option ClockTick → List Step
ticks_of tick = option_to_list (option_map (λ (t : ClockTick). Tick t.cpu t.clock) tick)

-- A clock can go so far.
abbrev pub CanTick : Step → Type 0
CanTick (Tick cpu clock) = (cpu < most_processors) × (clock < clock_limit)
CanTick step = Unit {0}

abbrev pub CanBeOver : List Step → Type 0
CanBeOver ticks = AllByRecursion CanTick ticks

abbrev pub CanBeDue : Machine → World → Step → Type 0
CanBeDue m w step = CanBeOver (until_due m w step)
