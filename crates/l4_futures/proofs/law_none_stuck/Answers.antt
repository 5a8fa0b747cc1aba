use Rattle.l4_futures.proofs.Asked.{none_stuck}
use Rattle.l4_futures.proofs.law_none_stuck.Goals as goal

pub returns : goal.returns
returns c = none_stuck
