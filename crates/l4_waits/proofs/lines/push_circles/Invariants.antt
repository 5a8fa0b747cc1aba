use Rattle.std.proofs.Common.{◌≡◌, ◌++◌, map}
use Rattle.std.specs.Prelude.{flat_map}
use Rattle.std.specs.List.{range_with_len}
use Rattle.std.specs.String.{string_bytes}
use Rattle.l4_types.specs.StepView.{step_of}
use Rattle.l4_waits.specs.Circles.{circle_at}
use Rattle.l4_waits.specs.Lines.{circle_line}
use Rattle.l4_waits.proofs.lines.push_circles.Given as goal

abbrev pub invariant-loop-first : goal.invariant-loop-first
invariant-loop-first l =
    string_bytes l.text
    ≡ string_bytes l.initial.text ++ flat_map (λ first. circle_line l.waits (map step_of l.steps) (circle_at l.nexts first)) (range_with_len 0 l.first)
