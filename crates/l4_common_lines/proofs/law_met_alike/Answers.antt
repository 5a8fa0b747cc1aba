use Rattle.l4_common_lines.proofs.Expected.{met_alike, text_may}
use Rattle.l4_common_lines.proofs.law_met_alike.Goals as goal

pub returns-clause-alike : goal.returns-clause-alike
returns-clause-alike c = λ one other expected common may. met_alike one other common expected may

pub returns-clause-all : goal.returns-clause-all
returns-clause-all c = text_may
