use Rattle.std.proofs.Common.{◌≡◌, ◌++◌, length}
use Rattle.std.specs.Prelude.{flat_map}
use Rattle.std.specs.String.{string_bytes}
use Rattle.l4_json.specs.Lines.{all_but_last}
use Rattle.l4_words.specs.Lines.{parts_of}
use Rattle.l4_chart.specs.Diagrams.{circle_line}
use Rattle.l4_chart.proofs.mermaid.push_circles_over.Given as goal

-- What stands so far, and the circles to come.
abbrev pub invariant-loop-line : goal.invariant-loop-line
invariant-loop-line l =
    string_bytes l.out ++ flat_map (circle_line l.first l.last) (all_but_last (parts_of l.left))
    ≡ string_bytes l.initial.out ++ flat_map (circle_line l.first l.last) (all_but_last (parts_of l.circles))

abbrev pub decreases-loop-line : goal.decreases-loop-line
decreases-loop-line l = length l.left
