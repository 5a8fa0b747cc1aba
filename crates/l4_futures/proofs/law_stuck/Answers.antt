use Rattle.l4_futures.proofs.Stuck.{stuck_same}
use Rattle.l4_futures.proofs.law_stuck.Goals as goal

pub returns : goal.returns
returns c = stuck_same
