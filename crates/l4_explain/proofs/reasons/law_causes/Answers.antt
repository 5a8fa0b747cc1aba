use Rattle.l4_explain.proofs.Causes.{causes_hold}
use Rattle.l4_explain.proofs.reasons.law_causes.Goals as goal

pub returns : goal.returns
returns c = causes_hold
