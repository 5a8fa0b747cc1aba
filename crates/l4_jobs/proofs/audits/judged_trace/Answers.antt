use Rattle.std.proofs.Common.{◌≡◌, true, rules, sym}
use Rattle.std.specs.Prelude.{IfErr}
use Rattle.l4_trace.proofs.ReadTexts.{written}
use Rattle.l4_jobs.specs.Audits.{fault_of_reading}
use Rattle.l4_jobs.proofs.Spelled.{line_fault}
use Rattle.l4_jobs.proofs.audits.judged_trace.Goals as goal

pub returns-clause-lines : goal.returns-clause-lines
returns-clause-lines c = c.in_ok-judged_history.ensures.lines c.args.trace.now (written c.args.trace.now _ c.in_ok-history.ensures)

pub returns-clause-refused : goal.returns-clause-refused
returns-clause-refused c = (_, written c.args.trace.now _ c.in_ok-history.ensures, sym c.in_ok-judged_history.ensures.refused)

pub returns-in_err-history-clause-err : goal.returns-in_err-history-clause-err
returns-in_err-history-clause-err c =
    let e = c.in_err-history.field-0.0 in
    let is : IfErr c.from_residual.result (λ f. f ≡ fault_of_reading e) = search rules in
    line_fault true c.args.machine.now c.args.trace.now c.from_residual.result e is c.in_err-history.ensures
