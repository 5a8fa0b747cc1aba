use Rattle.std.proofs.Common.{◌≡◌, ℕ, ◌<◌, false, Some}
use Rattle.std.specs.Prelude.{slice_get}
use Rattle.l4_core_model.specs.Turns.{is_busy}
use Rattle.l4_proc.specs.declared.processor.Processor.{Processor}
use Rattle.l4_machine.proofs.team.are_idle.Given as goal

abbrev pub invariant-loop-processor : goal.invariant-loop-processor
invariant-loop-processor l = (i : ℕ) (p : Processor) → i < l.processor-index → slice_get l.processors i ≡ Some p →
    is_busy p.worker.core.machine p.worker.core.cpu p.worker.core.local ≡ false
