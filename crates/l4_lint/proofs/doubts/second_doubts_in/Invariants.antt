use Rattle.std.proofs.Common.{◌≡◌, ◌+◌, ◌≤◌, ◌++◌, length, map}
use Rattle.l4_script.specs.Inner.Second.{stage_of}
use Rattle.l4_script.specs.Second.Texts.{Start}
use Rattle.l4_lint.specs.Doubts.{second_doubts_from}
use Rattle.l4_lint.specs.Lines.{lines_of}
use Rattle.l4_lint.specs.Inner.Views.{doubtful_of}
use Rattle.l4_lint.proofs.doubts.second_doubts_in.Given as goal

-- What was found, and the doubts of the lines that are left, are all doubts.
abbrev pub invariant-lines : goal.invariant-lines
invariant-lines l = record {
  whole :
      map doubtful_of l.found.items
      ++ second_doubts_from l.machine (lines_of l.left) (stage_of l.stage) l.place (l.before + 1)
      ≡ second_doubts_from l.machine (lines_of l.text) Start 0 1;
  counted : l.before + length l.left ≤ length l.text;
  near : l.place ≤ l.before;
}

abbrev pub decreases-lines : goal.decreases-lines
decreases-lines l = length l.left
