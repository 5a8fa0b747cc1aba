use Rattle.std.proofs.Common.{◌≡◌, ℕ, ◌<◌, true, Some}
use Rattle.std.specs.Prelude.{slice_get}
use Rattle.l4_merge.specs.Merges.{is_at_rest}
use Rattle.l4_proc.specs.declared.processor.Processor.{Processor}
use Rattle.l4_machine.proofs.gathering.are_at_rest.Given as goal

abbrev pub invariant-loop-processor : goal.invariant-loop-processor
invariant-loop-processor l = (i : ℕ) (p : Processor) → i < l.processor-index → slice_get l.processors i ≡ Some p →
    is_at_rest p.worker.core.machine p.worker.core.cpu p.worker.core.local ≡ true
