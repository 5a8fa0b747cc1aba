use Rattle.std.proofs.Common.{◌≡◌, length, reverse}
use Rattle.l4_schedules.specs.InFiles.{behind_blanks}
use Rattle.l4_schedules.proofs.files.before_blanks.Given as goal

abbrev pub invariant-blanks : goal.invariant-blanks
invariant-blanks l = reverse (behind_blanks (reverse l.left)) ≡ reverse (behind_blanks (reverse l.item))

abbrev pub decreases-blanks : goal.decreases-blanks
decreases-blanks l = length l.left
