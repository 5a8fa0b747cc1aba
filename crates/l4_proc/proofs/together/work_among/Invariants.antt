use Rattle.std.proofs.Common.{◌≡◌, ◌+◌}
use Rattle.l4_proc.specs.Working.{turns_of, ExtendsOn}
use Rattle.l4_proc.proofs.together.work_among.Given as goal

abbrev pub invariant-loop-processor : goal.invariant-loop-processor
invariant-loop-processor g l = record {
  worked : ExtendsOn l.fn.turns l.fn.processor l.processor;
  left : turns_of l.processor + l.left ≡ turns_of l.fn.processor + l.fn.turns;
}

abbrev pub decreases-loop-processor : goal.decreases-loop-processor
decreases-loop-processor g l = l.left
