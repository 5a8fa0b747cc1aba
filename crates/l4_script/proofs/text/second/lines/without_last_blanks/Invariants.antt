use Rattle.std.proofs.Common.{◌≡◌, length}
use Rattle.l4_script.specs.Second.Lines.{without_last_blanks}
use Rattle.l4_script.proofs.text.second.lines.without_last_blanks.Given as goal

abbrev pub invariant-blanks : goal.invariant-blanks
invariant-blanks l = without_last_blanks l.left ≡ without_last_blanks l.line

abbrev pub decreases-blanks : goal.decreases-blanks
decreases-blanks l = length l.left
