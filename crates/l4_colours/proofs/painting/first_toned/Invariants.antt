use Rattle.std.proofs.Common.{length}
use Rattle.l4_colours.proofs.Lines.{IsBehindPlain}
use Rattle.l4_colours.proofs.painting.first_toned.Given as goal

abbrev pub invariant-lines : goal.invariant-lines
invariant-lines l = IsBehindPlain l.text l.left

abbrev pub decreases-lines : goal.decreases-lines
decreases-lines l = length l.left
