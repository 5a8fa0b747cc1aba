use Rattle.std.proofs.Common.{◌≡◌, true, map, take}
use Rattle.std.specs.List.{list_all}
use Rattle.l4_types.specs.StepView.{step_of}
use Rattle.l4_trace.specs.Lines.{has_line, trace_of}
use Rattle.l4_trace.proofs.traces.trace.Given as goal

abbrev pub invariant-loop-step : goal.invariant-loop-step
invariant-loop-step l =
    let told = map step_of (take l.step-index l.history) in
    (l.lines.items ≡ trace_of told) × (list_all has_line told ≡ true)
