use Rattle.std.proofs.Common.{append_assoc}
use Rattle.l4_chart.specs.Pictures.{band_at}
use Rattle.l4_chart.proofs.svg.push_band_at.Goals as goal

pub returns : goal.returns
unfolding band_at
returns c =
    simp append_assoc (simp (append_assoc, c.saturating_add-middle.ensures) at c.writeln.ensures.bytes)
