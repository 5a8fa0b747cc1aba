use Rattle.l4_worlds.proofs.LateFutures.{late_still}
use Rattle.l4_worlds.proofs.law_late_still_as_good.Goals as goal

pub returns : goal.returns
returns c = late_still
