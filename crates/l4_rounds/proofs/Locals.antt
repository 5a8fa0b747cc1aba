-- The local states of a core run under way.
use Rattle.std.proofs.Common.{◌≡◌, ℕ, ◌<◌, Some, length, get_or, ap, ◌∙◌, arith}
use Rattle.std.specs.Prelude.{slice_get}
use Rattle.std.proofs.lemmas.List.{length-map}
use Rattle.std.proofs.lemmas.Option.{slice_get-get_or}
use Rattle.l4_model.specs.Machine.{Machine}
use Rattle.l4_core_model.specs.Local.{opening_local}
use Rattle.l4_core_model.specs.Runs.{Run}
use Rattle.l4_replay.specs.Stations.{Station}
use Rattle.l4_replay.specs.UnderWay.{UnderWay, IsRun}

pub locals_of_run : (m : Machine) (r : Run) (w : UnderWay) → IsRun m r w →
    length r.system.locals ≡ m.cpus
locals_of_run m r w is =
    ap length is.system.locals ∙ length-map w.stations (λ (s : Station). s.core.local)
    ∙ is.system.for_each

-- A processor of a run has a local state.
pub local_here : (m : Machine) (r : Run) (w : UnderWay) (cpu : ℕ) → IsRun m r w → cpu < m.cpus →
    slice_get r.system.locals cpu ≡ Some (get_or r.system.locals cpu (opening_local m 0))
local_here m r w cpu is own =
    slice_get-get_or r.system.locals cpu (opening_local m 0)
    (omega (arith, own, locals_of_run m r w is))
