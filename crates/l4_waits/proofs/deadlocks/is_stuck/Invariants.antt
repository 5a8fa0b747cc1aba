use Rattle.std.proofs.Common.{◌≡◌, drop, map}
use Rattle.l4_types.specs.StepView.{step_of}
use Rattle.l4_waits.specs.Deadlocks.{is_stuck}
use Rattle.l4_waits.proofs.deadlocks.is_stuck.Given as goal

abbrev pub invariant-loop-step : goal.invariant-loop-step
invariant-loop-step l = is_stuck (map step_of l.steps) l.id ≡ is_stuck (map step_of (drop l.step-index l.steps)) l.id
