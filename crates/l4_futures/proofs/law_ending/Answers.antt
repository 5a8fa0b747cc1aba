use Rattle.l4_futures.proofs.Endings.{ending}
use Rattle.l4_futures.proofs.law_ending.Goals as goal

pub returns : goal.returns
returns c = ending
