use Rattle.l4_waits.proofs.Holding.{not_refusable}
use Rattle.l4_waits.proofs.held.law_kept_is_held.Goals as goal

pub returns : goal.returns
returns c = not_refusable
