use Rattle.std.proofs.Common.{◌≡◌, drop, map}
use Rattle.l4_types.specs.StepView.{step_of}
use Rattle.l4_waits.specs.Deadlocks.{are_stuck}
use Rattle.l4_waits.proofs.deadlocks.are_stuck.Given as goal

abbrev pub invariant-loop-id : goal.invariant-loop-id
invariant-loop-id l = are_stuck (map step_of l.steps) l.ids ≡ are_stuck (map step_of l.steps) (drop l.id-index l.ids)
