use Rattle.std.proofs.Common.{◌≡◌, length}
use Rattle.l4_schedules.specs.InFiles.{behind_blanks}
use Rattle.l4_schedules.proofs.files.behind_blanks.Given as goal

abbrev pub invariant-blanks : goal.invariant-blanks
invariant-blanks l = behind_blanks l.left ≡ behind_blanks l.item

abbrev pub decreases-blanks : goal.decreases-blanks
decreases-blanks l = length l.left
