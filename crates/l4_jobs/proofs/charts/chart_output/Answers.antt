use Rattle.std.proofs.Common.{◌≡◌, true, refl, rules}
use Rattle.std.specs.Prelude.{IfErr}
use Rattle.l4_trace.proofs.ReadTexts.{written}
use Rattle.l4_jobs.specs.Audits.{fault_of_reading}
use Rattle.l4_jobs.proofs.Charted.{charted, refused_is}
use Rattle.l4_jobs.proofs.Spelled.{line_fault}
use Rattle.l4_jobs.proofs.charts.chart_output.Goals as goal

pub returns-in_err-history-clause-err : goal.returns-in_err-history-clause-err
returns-in_err-history-clause-err c =
    let e = c.in_err-history.field-0.0 in
    let is : IfErr c.from_residual.result (λ f. f ≡ fault_of_reading e) = search rules in
    line_fault true c.args.machine.now c.args.trace.now c.from_residual.result e is c.in_err-history.ensures

pub returns-clause-charted : goal.returns-clause-charted
returns-clause-charted c = λ chosen.
    let reads = written c.args.trace.now _ c.in_ok-history.ensures in
    let drawn = c.in_ok-history_chart.ensures in
    charted c.args.chart.now c.args.text.now c.args.machine.now c.args.trace.now _ _ _ _ _ chosen refl reads drawn.status drawn.lines

pub returns-clause-refused : goal.returns-clause-refused
returns-clause-refused c =
    refused_is c.args.machine.now c.args.trace.now _ _ (written c.args.trace.now _ c.in_ok-history.ensures) c.in_ok-history_chart.ensures.refused
