use Rattle.std.proofs.Common.{append_assoc}
use Rattle.l4_chart.specs.Pictures.{picture_begin}
use Rattle.l4_chart.proofs.svg.push_begin.Goals as goal

pub returns : goal.returns
unfolding picture_begin
returns c = simp append_assoc (simp append_assoc at c.writeln.ensures.bytes)
