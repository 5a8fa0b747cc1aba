use Rattle.l4_condition_lines.proofs.Judging.{lines_read}
use Rattle.l4_condition_lines.proofs.law_lines_read.Goals as goal

pub returns : goal.returns
returns c = λ m asked w v alike. lines_read m asked w v alike
