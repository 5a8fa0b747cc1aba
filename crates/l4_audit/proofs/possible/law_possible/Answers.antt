use Rattle.l4_audit.proofs.Listed.{lists_possible}
use Rattle.l4_audit.proofs.possible.law_possible.Goals as goal

pub returns : goal.returns
returns c = lists_possible
