use Rattle.std.proofs.Common.{◌≡◌, length}
use Rattle.std.specs.Prelude.{find}
use Rattle.l4_lines.specs.Lines.{lines_of}
use Rattle.l4_expect.specs.Unmet.{is_beside}
use Rattle.l4_expect.specs.Inner.Views.{expected_of}
use Rattle.l4_expect.proofs.unmet.found_beside.Given as goal

-- It is among the lines that are left.
abbrev pub invariant-lines : goal.invariant-lines
invariant-lines l =
    find (is_beside (expected_of l.expected)) (lines_of l.report)
    ≡ find (is_beside (expected_of l.expected)) (lines_of l.left)

abbrev pub decreases-lines : goal.decreases-lines
decreases-lines l = length l.left
