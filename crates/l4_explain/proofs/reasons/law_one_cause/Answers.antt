use Rattle.l4_explain.proofs.ReadBack.{one_cause}
use Rattle.l4_explain.proofs.reasons.law_one_cause.Goals as goal

pub returns : goal.returns
returns c = one_cause
