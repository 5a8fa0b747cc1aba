use Rattle.l4_waits.proofs.Sticking.{stuck_exactly}
use Rattle.l4_waits.proofs.deadlocks.law_deadlocks.Goals as goal

pub returns : goal.returns
returns c = stuck_exactly
