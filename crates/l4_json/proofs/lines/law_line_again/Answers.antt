use Rattle.l4_json.proofs.Again.{line_again}
use Rattle.l4_json.proofs.lines.law_line_again.Goals as goal

pub returns : goal.returns
returns c = line_again
