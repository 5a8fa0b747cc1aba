use Rattle.l4_audit.proofs.Quieting.{ending_is, quiet_exactly}
use Rattle.l4_audit.proofs.auditor.Auditor.ending.Goals as goal

pub returns : goal.returns
returns c =
    let a = c.self.inside.world in
    rw (← c.self.view_is) (ending_is _ _ c.ending.result c.ending.ensures (quiet_exactly a.machine c.self.invariant.steps a.world c.self.invariant.reached_by))
