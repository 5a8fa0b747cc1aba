use Rattle.std.proofs.Common.{◌≡◌, ℕ, ◌+◌, ◌<◌, ◌≤◌, Some, drop}
use Rattle.std.specs.Prelude.{slice_get, IfSome}
use Rattle.l4_model.specs.Words.{period_limit}
use Rattle.l4_core_model.specs.Schedules.{earliest}
use Rattle.l4_proc.specs.declared.processor.Processor.{Processor}
use Rattle.l4_machine.specs.Inner.Teams.{first_deadline}
use Rattle.l4_machine.proofs.team.first_deadline.Given as goal

abbrev pub invariant-loop-processor : goal.invariant-loop-processor
invariant-loop-processor l = record {
  value : first_deadline l.processors ≡ earliest l.first (first_deadline (drop l.processor-index l.processors));
  near : (last : ℕ) → ((i : ℕ) (p : Processor) → slice_get l.processors i ≡ Some p → p.worker.core.local.clock ≤ last) →
      IfSome l.first (λ deadline. deadline < last + period_limit);
}
