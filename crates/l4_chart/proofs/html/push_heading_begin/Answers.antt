use Rattle.std.proofs.Common.{append_assoc}
use Rattle.l4_chart.specs.Pages.{heading_begin}
use Rattle.l4_chart.proofs.html.push_heading_begin.Goals as goal

pub returns : goal.returns
unfolding heading_begin
returns c = simp append_assoc c.writeln.ensures.bytes
