use Rattle.std.proofs.Common.{◌≡◌, ◌++◌, length}
use Rattle.std.specs.Prelude.{flat_map}
use Rattle.l4_words.specs.Lines.{parts_of}
use Rattle.l4_schedules.specs.InFiles.{kept_line}
use Rattle.l4_schedules.proofs.files.without_comments.Given as goal

abbrev pub invariant-lines : goal.invariant-lines
invariant-lines l = l.lines.items ++ flat_map kept_line (parts_of l.left) ≡ flat_map kept_line (parts_of l.text)

abbrev pub decreases-lines : goal.decreases-lines
decreases-lines l = length l.left
