use Rattle.std.proofs.Common.{◌≡◌, ◌++◌, take, map}
use Rattle.std.specs.Prelude.{flat_map}
use Rattle.l4_types.specs.StepView.{step_of}
use Rattle.l4_explain.specs.Worlds.{possible_line}
use Rattle.l4_explain.proofs.worlds.push_steps.Given as goal

abbrev pub invariant-loop-step : goal.invariant-loop-step
invariant-loop-step l = l.lines.items ≡ l.initial.lines.items ++ flat_map possible_line (map step_of (take l.step-index l.steps))
