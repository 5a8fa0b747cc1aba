use Rattle.std.proofs.Common.{◌≡◌, ◌++◌, length, map}
use Rattle.l4_words.specs.Lines.{parts_of}
use Rattle.l4_json.specs.Lines.{all_but_last}
use Rattle.l4_chart.proofs.listing.lines_of.Given as goal

-- The lines so far, and those of what is left.
abbrev pub invariant-loop-line : goal.invariant-loop-line
invariant-loop-line l =
    map (λ line. line.now) l.lines.items ++ all_but_last (parts_of l.left) ≡ all_but_last (parts_of l.text)

abbrev pub decreases-loop-line : goal.decreases-loop-line
decreases-loop-line l = length l.left
