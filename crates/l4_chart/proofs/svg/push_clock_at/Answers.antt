use Rattle.std.proofs.Common.{append_assoc}
use Rattle.l4_chart.specs.Pictures.{clock_at}
use Rattle.l4_chart.proofs.svg.push_clock_at.Goals as goal

pub returns : goal.returns
unfolding clock_at
returns c =
    simp append_assoc (simp (append_assoc, c.saturating_add-x.ensures, c.saturating_sub-base.ensures) at c.write.ensures.bytes)
