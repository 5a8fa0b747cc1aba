use Rattle.l4_waits.proofs.Lasting.{stay_still}
use Rattle.l4_waits.proofs.deadlocks.law_still_worlds_stay_still.Goals as goal

pub returns : goal.returns
returns c = stay_still
