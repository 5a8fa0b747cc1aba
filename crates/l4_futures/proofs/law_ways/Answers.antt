use Rattle.l4_futures.proofs.Ways.{ways}
use Rattle.l4_futures.proofs.law_ways.Goals as goal

pub returns : goal.returns
returns c = ways
