use Rattle.std.proofs.Common.{◌≡◌, ◌+◌, ◌≤◌, ◌++◌, length, map}
use Rattle.l4_lint.specs.Doubts.{doubts_from}
use Rattle.l4_lint.specs.Lines.{lines_of}
use Rattle.l4_lint.specs.Inner.Views.{doubtful_of}
use Rattle.l4_lint.proofs.doubts.doubts_in.Given as goal

-- What was found, and the doubts of the lines that are left, are all doubts.
abbrev pub invariant-lines : goal.invariant-lines
invariant-lines l = record {
  whole :
      map doubtful_of l.found.items
      ++ doubts_from l.machine (lines_of l.left) l.begun l.place (l.before + 1)
      ≡ doubts_from l.machine (lines_of l.text) 0 0 1;
  counted : l.before + length l.left ≤ length l.text;
  few : l.begun ≤ l.before;
  near : l.place ≤ l.before;
}

abbrev pub decreases-lines : goal.decreases-lines
decreases-lines l = length l.left
