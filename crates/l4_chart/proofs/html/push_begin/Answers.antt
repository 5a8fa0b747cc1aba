use Rattle.std.proofs.Common.{append_assoc}
use Rattle.l4_chart.specs.Pages.{page_begin}
use Rattle.l4_chart.proofs.html.push_begin.Goals as goal

pub returns : goal.returns
unfolding page_begin
returns c = simp append_assoc c.writeln.ensures.bytes
