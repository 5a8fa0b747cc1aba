use Rattle.l4_waits.proofs.Holding.{kept}
use Rattle.l4_waits.proofs.held.law_held_is_kept.Goals as goal

pub returns : goal.returns
returns c = kept
