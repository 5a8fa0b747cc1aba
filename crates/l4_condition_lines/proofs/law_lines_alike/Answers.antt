use Rattle.l4_condition_lines.proofs.Judging.{lines_alike}
use Rattle.l4_condition_lines.proofs.law_lines_alike.Goals as goal

pub returns : goal.returns
returns c = λ m asked may w v good. lines_alike m asked w v may good
