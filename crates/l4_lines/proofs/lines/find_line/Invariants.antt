use Rattle.std.proofs.Common.{◌≡◌, length}
use Rattle.std.specs.Prelude.{find}
use Rattle.l4_lines.specs.Lines.{fits_line, lines_of}
use Rattle.l4_lines.proofs.lines.find_line.Given as goal

-- It is among the lines that are left.
abbrev pub invariant-lines : goal.invariant-lines
invariant-lines l = find (fits_line l.asked) (lines_of l.text) ≡ find (fits_line l.asked) (lines_of l.left)

abbrev pub decreases-lines : goal.decreases-lines
decreases-lines l = length l.left
