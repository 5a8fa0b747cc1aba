use Rattle.l4_futures.proofs.Asked.{none_asked}
use Rattle.l4_futures.proofs.law_none_asked.Goals as goal

pub returns : goal.returns
returns c = none_asked
