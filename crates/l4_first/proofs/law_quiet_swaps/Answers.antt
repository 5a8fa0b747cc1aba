use Rattle.l4_first.proofs.Given.{quiet_swaps}
use Rattle.l4_first.proofs.law_quiet_swaps.Goals as goal

pub returns : goal.returns
returns c = quiet_swaps
