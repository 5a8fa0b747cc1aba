use Rattle.std.proofs.Common.{◌≡◌, ◌++◌, map}
use Rattle.l4_types.specs.StepView.{step_of}
use Rattle.l4_replay.proofs.listener.VecStepListener.hear.Given as goal

abbrev pub invariant-loop-step : goal.invariant-loop-step
invariant-loop-step l = map step_of l.self.items ++ l.step-iterator ≡ map step_of l.fn.self.items ++ l.fn.steps
