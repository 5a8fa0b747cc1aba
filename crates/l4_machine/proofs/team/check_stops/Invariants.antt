use Rattle.std.proofs.Common.{◌≡◌, ◌⊎◌, ℕ, ◌<◌, Some}
use Rattle.std.specs.Prelude.{slice_get}
use Rattle.l4_proc.specs.declared.stops.Stop.TheVariants as stop
use Rattle.l4_proc.specs.declared.processor.Processor.{Processor}
use Rattle.l4_machine.proofs.team.check_stops.Given as goal

abbrev pub invariant-loop-processor : goal.invariant-loop-processor
invariant-loop-processor l = (i : ℕ) (p : Processor) → i < l.processor-index → slice_get l.processors i ≡ Some p →
    (p.worker.stop ≡ stop.Used) ⊎ (p.worker.stop ≡ stop.Idle)
