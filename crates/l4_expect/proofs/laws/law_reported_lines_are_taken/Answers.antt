use Rattle.l4_expect.proofs.Refused.{none_refused}
use Rattle.l4_expect.proofs.laws.law_reported_lines_are_taken.Goals as goal

pub returns : goal.returns
returns c = none_refused
