use Rattle.l4_trace.proofs.ReadTexts.{one_spelling}
use Rattle.l4_trace.proofs.lines.law_one_spelling.Goals as goal

pub returns : goal.returns
returns c = one_spelling
