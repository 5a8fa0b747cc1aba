-- Which threads wait: the line of such a thread is another one in a chart.
use Rattle.std.specs.Prelude.{Bool, true, false, Option, Some, None, List, map}
use Rattle.l4_model.specs.Conditions.{Found, found}
use Rattle.l4_model.specs.Machine.{Machine}
use Rattle.l4_model.specs.World.{World}
use Rattle.l4_audit.specs.Reasons.{state_in}
use Rattle.l4_types.specs.declared.reports.State.{State}
use Rattle.l4_types.specs.declared.reports.State.TheVariants.{Ready, Sending, Receiving, Ordering, Ended, Deleted}
use Rattle.l4_chart.specs.declared.columns.Column.{Column}

-- A thread waits while it is in a send or a receive phase, and until its order is done.
abbrev pub waits_in : State → Bool
waits_in Ready = false
waits_in Sending = true
waits_in Receiving = true
waits_in Ordering = true
waits_in Ended = false
waits_in Deleted = false

abbrev pub found_waits : Option Found → Bool
found_waits None = false
found_waits (Some t) = waits_in (state_in t.now.phase)

-- Whether the threads of these columns wait in a world.

abbrev pub waits : Machine → World → Column → Bool
waits m w c = found_waits (found m w c.id)

abbrev pub all_waits : Machine → World → List Column → List Bool
all_waits m w columns = map (waits m w) columns
