use Rattle.l4_common_lines.proofs.AsGood.{in_common}
use Rattle.l4_common_lines.proofs.Lines.{lines_in_common}
use Rattle.l4_common_lines.proofs.law_lines_in_common.Goals as goal

pub returns-clause-of_worlds : goal.returns-clause-of_worlds
returns-clause-of_worlds c = λ m w v good. lines_in_common m w v (in_common m w v good)

pub returns-clause-of_runs : goal.returns-clause-of_runs
returns-clause-of_runs c = lines_in_common
