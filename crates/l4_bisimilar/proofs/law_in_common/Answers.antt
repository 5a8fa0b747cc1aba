use Rattle.l4_bisimilar.proofs.InCommon.{in_common}
use Rattle.l4_bisimilar.proofs.law_in_common.Goals as goal

pub returns : goal.returns
returns c = in_common
