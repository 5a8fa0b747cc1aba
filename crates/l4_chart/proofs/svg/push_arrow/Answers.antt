use Rattle.std.proofs.Common.{append_assoc}
use Rattle.l4_chart.specs.Pictures.{arrow}
use Rattle.l4_chart.proofs.svg.push_arrow.Goals as goal

pub returns : goal.returns
unfolding arrow
returns c =
    simp append_assoc (simp (append_assoc, c.back-back.ensures, c.saturating_sub-above.ensures, c.saturating_add-below.ensures) at c.write.ensures.bytes)
