use Rattle.l4_futures.proofs.Coded.{coded}
use Rattle.l4_futures.proofs.law_world_coded.Goals as goal

pub returns : goal.returns
returns c = coded
