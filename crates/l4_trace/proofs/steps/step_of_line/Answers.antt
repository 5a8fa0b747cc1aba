use Rattle.std.proofs.Common.{codes}
use Rattle.l4_trace.specs.Reading.{step_behind}
use Rattle.l4_trace.proofs.KeywordRows.{by_row}
use Rattle.l4_trace.proofs.steps.step_of_line.Goals as goal

pub returns-in-Some : goal.returns-in-Some
unfolding step_behind
returns-in-Some c = rw (by_row c.args.line.now (codes "deliver") c.in-Some.operands c.in-Some.ensures) c.read_delivery.ensures
