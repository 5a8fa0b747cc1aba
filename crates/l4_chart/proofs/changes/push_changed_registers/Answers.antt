use Rattle.l4_chart.proofs.Joined.{joined}
use Rattle.l4_chart.proofs.changes.push_changed_registers.Goals as goal

pub returns : goal.returns
returns c =
    joined _ _ _ _ _ _ _ _ _ c.in_ok-push_error.ensures c.in_ok-push_id.ensures c.in_ok-push_id-2.ensures c.in_ok-push_registers.ensures
