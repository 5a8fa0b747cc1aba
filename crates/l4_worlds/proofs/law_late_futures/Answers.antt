use Rattle.l4_worlds.proofs.LateFutures.{late_futures}
use Rattle.l4_worlds.proofs.law_late_futures.Goals as goal

pub returns : goal.returns
returns c = late_futures
