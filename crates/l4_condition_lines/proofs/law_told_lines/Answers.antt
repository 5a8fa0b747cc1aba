use Rattle.l4_condition_lines.proofs.Telling.{tells_report}
use Rattle.l4_condition_lines.proofs.law_told_lines.Goals as goal

pub returns : goal.returns
returns c = λ m is_machine. tells_report m is_machine
