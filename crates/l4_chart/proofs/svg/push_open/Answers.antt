use Rattle.std.proofs.Common.{append_assoc}
use Rattle.l4_chart.specs.Pictures.{open_arrow}
use Rattle.l4_chart.proofs.svg.push_open.Goals as goal

pub returns : goal.returns
unfolding open_arrow
returns c =
    simp append_assoc (simp (append_assoc, c.back-stop.ensures, c.back-tip.ensures, c.saturating_sub-above.ensures, c.saturating_add-below.ensures) at c.write.ensures.bytes)
