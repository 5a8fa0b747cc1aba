use Rattle.std.proofs.Common.{append_assoc}
use Rattle.l4_chart.proofs.mermaid.push_participant.Goals as goal

pub returns : goal.returns
returns c = simp (c.in_ok-push_name.ensures, c.in_ok-push_str.ensures.bytes, append_assoc) at c.push_as_id.ensures
