use Rattle.std.proofs.Common.{append_assoc}
use Rattle.l4_chart.specs.Pages.{body_begin}
use Rattle.l4_chart.proofs.html.push_body_begin.Goals as goal

pub returns : goal.returns
unfolding body_begin
returns c = simp append_assoc (simp append_assoc at c.writeln.ensures.bytes)
