-- What a quiet outcome leaves.
use Rattle.std.specs.Prelude.{◌≡◌, Some}
use Rattle.l4_model.specs.Machine.{Machine}
use Rattle.l4_model.specs.World.{World}
use Rattle.l4_model.specs.History.{reached}
use Rattle.l4_types.specs.declared.reports.Ending.TheVariants.{Quiet}
use Rattle.l4_worlds.specs.Histories.{IsUntimed}
use Rattle.l4_machine.specs.Outcomes.{Findings}

-- If the ending is quiet, no finite period but zero stands in the world that the history reaches.
abbrev pub QuietIsUntimed : Machine → Findings → Type 0
QuietIsUntimed m o = o.ending ≡ Quiet → (w : World) → reached m o.history ≡ Some w → IsUntimed w
