use Rattle.std.proofs.Common.{◌≡◌, ◌≤◌}
use Rattle.l4_proc.specs.Working.{ExtendsOn}
use Rattle.l4_proc.specs.declared.stops.Stop.TheVariants as stop
use Rattle.l4_proc.proofs.together.look_on.Given as goal

-- It has found nothing yet.
abbrev pub invariant-loop : goal.invariant-loop
invariant-loop g l = record {
  worked : ExtendsOn 1 l.fn.processor l.processor;
  idle : l.processor.worker.stop ≡ stop.Idle;
  few : l.last_looks ≤ 2;
}
