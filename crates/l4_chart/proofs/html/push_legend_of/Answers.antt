use Rattle.std.proofs.Common.{append_assoc}
use Rattle.l4_chart.specs.Pages.{legend_of}
use Rattle.l4_chart.proofs.html.push_legend_of.Goals as goal

pub returns : goal.returns
unfolding legend_of
returns c = simp append_assoc c.writeln.ensures.bytes
