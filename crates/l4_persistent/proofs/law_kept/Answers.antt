use Rattle.l4_persistent.proofs.Ends.{kept}
use Rattle.l4_persistent.proofs.law_kept.Goals as goal

pub returns : goal.returns
returns c = λ m machine. kept m machine
