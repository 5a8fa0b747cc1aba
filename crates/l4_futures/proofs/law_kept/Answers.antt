use Rattle.l4_futures.proofs.Kept.{kept}
use Rattle.l4_futures.proofs.law_kept.Goals as goal

pub returns : goal.returns
returns c = λ m timed. kept m timed
