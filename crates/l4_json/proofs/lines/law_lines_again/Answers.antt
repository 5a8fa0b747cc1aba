use Rattle.l4_json.proofs.Reading.{text_again}
use Rattle.l4_json.proofs.lines.law_lines_again.Goals as goal

pub returns : goal.returns
returns c = text_again
