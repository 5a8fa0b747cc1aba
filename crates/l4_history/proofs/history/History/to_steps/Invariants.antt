use Rattle.std.proofs.Common.{◌≡◌, ◌++◌, map}
use Rattle.l4_types.specs.StepView.{step_of}
use Rattle.l4_history.proofs.history.History.to_steps.Given as goal

abbrev pub invariant-loop-step : goal.invariant-loop-step
invariant-loop-step l = map step_of l.steps.items ++ l.step-iterator ≡ l.self.steps
