use Rattle.std.proofs.Common.{length}
use Rattle.l4_streams.specs.Streams.{HasAppended}
use Rattle.l4_colours.specs.Painted.{painted}
use Rattle.l4_colours.proofs.painting.paint.Given as goal

abbrev pub invariant-lines : goal.invariant-lines
invariant-lines g l = HasAppended (g.W.Write.contents l.initial.out) (g.W.Write.contents l.out) (painted l.text) (painted l.left)

abbrev pub decreases-lines : goal.decreases-lines
decreases-lines g l = length l.left
