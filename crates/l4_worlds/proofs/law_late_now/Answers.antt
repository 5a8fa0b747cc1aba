use Rattle.l4_worlds.proofs.LateFutures.{late_now}
use Rattle.l4_worlds.proofs.law_late_now.Goals as goal

pub returns : goal.returns
returns c = late_now
