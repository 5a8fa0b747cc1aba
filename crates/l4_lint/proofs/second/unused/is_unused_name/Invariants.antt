use Rattle.std.proofs.Common.{◌≡◌, length}
use Rattle.l4_lint.specs.Lines.{lines_of}
use Rattle.l4_lint.specs.Second.Unused.{is_unused_name}
use Rattle.l4_lint.proofs.second.unused.is_unused_name.Given as goal

-- The lines that are left decide.
abbrev pub invariant-lines : goal.invariant-lines
invariant-lines l = is_unused_name (lines_of l.rest) l.name ≡ is_unused_name (lines_of l.text) l.name

abbrev pub decreases-lines : goal.decreases-lines
decreases-lines l = length l.rest
