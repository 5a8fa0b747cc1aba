use Rattle.l4_audit.proofs.Reasoning.{tells_why}
use Rattle.l4_audit.proofs.reasons.law_reasons.Goals as goal

pub returns : goal.returns
returns c = tells_why
