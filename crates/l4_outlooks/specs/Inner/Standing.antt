-- Which steps stand alone, by the places of their threads.
use Rattle.std.specs.Prelude.{Bool, not, false, Option, Some, List, map}
use Rattle.l4_model.specs.Words.{GlobalId}
use Rattle.l4_model.specs.Machine.{Machine}
use Rattle.l4_model.specs.Steps.{Step, Local, Begin, Wait, Order}
use Rattle.l4_first.specs.First.{is_deletable, is_undisturbed}
use Rattle.l4_outlooks.specs.declared.alone.Spared.{Spared}

abbrev pub spared_of : Machine → GlobalId → Spared
spared_of m id = record { runs = not (is_deletable m id); begins = is_undisturbed m id }

-- Of each thread of a machine.
abbrev pub left_alone : Machine → List Spared
left_alone m = map (λ d. spared_of m d.id) m.threads

-- A step of such a thread stands alone.
abbrev pub stands_by : Option Spared → Step → Bool
stands_by (Some spared) (Local id) = spared.runs
stands_by (Some spared) (Order caller target what) = spared.runs
stands_by (Some spared) (Begin s) = spared.begins
stands_by (Some spared) (Wait id) = spared.begins
stands_by _ _ = false
