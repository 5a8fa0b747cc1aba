use Rattle.std.proofs.Common.{◌≡◌, ◌++◌, length}
use Rattle.std.specs.String.{string_bytes}
use Rattle.l4_json.specs.Lines.{all_but_last}
use Rattle.l4_words.specs.Lines.{parts_of}
use Rattle.l4_chart.specs.Pictures.{circles_picture}
use Rattle.l4_chart.proofs.svg.push_circles.Given as goal

-- What stands so far, and the circles to come.
abbrev pub invariant-loop-line : goal.invariant-loop-line
invariant-loop-line l =
    string_bytes l.svg ++ circles_picture l.scene l.place (all_but_last (parts_of l.left))
    ≡ string_bytes l.initial.svg ++ circles_picture l.scene l.first (all_but_last (parts_of l.circles))

abbrev pub decreases-loop-line : goal.decreases-loop-line
decreases-loop-line l = length l.left
