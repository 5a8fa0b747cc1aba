-- What a run comes to at rest is an ending.
use Rattle.std.proofs.Common.{◌≡◌, Some}
use Rattle.l4_model.specs.Machine.{Machine}
use Rattle.l4_model.specs.World.{World}
use Rattle.l4_model.specs.History.{reached}
use Rattle.l4_types.specs.declared.reports.Ending.TheVariants.{Quiet}
use Rattle.l4_machine.specs.Outcomes.{Findings, IsTrueOf}
use Rattle.l4_quiet.specs.Quiet.{QuietIsUntimed}
use Rattle.l4_futures.specs.Endings.{IsEnding}

pub is_ending : (m : Machine) (o : Findings) → IsTrueOf m o → QuietIsUntimed m o →
    o.ending ≡ Quiet → (w : World) → reached m o.history ≡ Some w → IsEnding m o.history w
is_ending m o truth untimed quiet w at = record {
  comes = record { reaches = at; still = truth.still quiet w at };
  untimed = untimed quiet w at;
}
