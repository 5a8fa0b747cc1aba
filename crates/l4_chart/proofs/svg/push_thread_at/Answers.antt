use Rattle.std.proofs.Common.{append_assoc}
use Rattle.l4_chart.specs.Pictures.{thread_at}
use Rattle.l4_chart.proofs.svg.push_thread_at.Goals as goal

pub returns : goal.returns
unfolding thread_at
returns c = simp append_assoc (simp append_assoc at c.writeln.ensures.bytes)
