use Rattle.std.proofs.Common.{append_assoc}
use Rattle.l4_chart.specs.Pictures.{hit}
use Rattle.l4_chart.proofs.svg.push_hit.Goals as goal

pub returns : goal.returns
unfolding hit
returns c = simp append_assoc c.write.ensures.bytes
