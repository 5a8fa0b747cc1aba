use Rattle.std.proofs.lemmas.Result.{err_from_is_err_and}
use Rattle.l4_types.specs.StepView.{seen}
use Rattle.l4_trace.specs.Inner.Forward.{Ahead}
use Rattle.l4_trace.proofs.ReadingOn.{one_more, ended, next_line, none_left, line_faulty}
use Rattle.l4_trace.proofs.reading.read_history.Goals as goal

pub returns-in_err-step : goal.returns-in_err-step
returns-in_err-step c =
    let p = err_from_is_err_and c.from_residual.result c.from_residual.ensures.1 in
    let l = c.steps in
    let e = c.in_err-step.ensures in
    rw (p.1, p.2, e.0) (line_faulty c.args.text.now l.reader l.history.steps l.invariant e.1)

pub steps-preserved : goal.steps-preserved
steps-preserved c =
    let l = c.steps in
    let from : Ahead = record { read = 0; rest = c.args.text.now } in
    rw (c.push.ensures, c.in_ok-reserve.ensures.steps)
    (one_more from l.reader c.next.new.self l.history.steps (seen c.in-Some.step) l.invariant (next_line l.reader c.next.new.self c.in_ok-step.field-0 c.in-Some.step c.in_ok-step.ensures c.in-Some.is))

pub returns : goal.returns
returns c =
    let l = c.steps in
    let from : Ahead = record { read = 0; rest = c.args.text.now } in
    ended from l.reader l.history.steps l.invariant (none_left l.reader c.next.new.self c.in_ok-step.field-0 c.in_ok-step.ensures c.in_default.is)
