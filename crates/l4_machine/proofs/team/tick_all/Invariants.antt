use Rattle.std.proofs.Common.{◌≡◌, ℕ, ◌<◌, ◌≤◌, Some, length}
use Rattle.std.specs.Prelude.{slice_get}
use Rattle.l4_proc.specs.declared.processor.Processor.{Processor}
use Rattle.l4_machine.specs.Inner.Teams.{HasComeTo}
use Rattle.l4_machine.proofs.team.tick_all.Given as goal

abbrev pub invariant-loop-place : goal.invariant-loop-place
invariant-loop-place l = record {
  count : length l.processors ≡ length l.fn.processors;
  done : (i : ℕ) (old new : Processor) → i < l.place → slice_get l.fn.processors i ≡ Some old → slice_get l.processors i ≡ Some new → HasComeTo l.to old new;
  left : (i : ℕ) → l.place ≤ i → slice_get l.processors i ≡ slice_get l.fn.processors i;
}
