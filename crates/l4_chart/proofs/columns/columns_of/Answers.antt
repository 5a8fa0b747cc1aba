use Rattle.std.proofs.Common.{◌++◌, ◌∙◌, ap, sym}
use Rattle.l4_chart.specs.Charts.{columns_on}
use Rattle.l4_chart.proofs.Shown.{flat_map-range_more}
use Rattle.l4_chart.proofs.columns.columns_of.Goals as goal

pub loop-cpu-preserved : goal.loop-cpu-preserved
loop-cpu-preserved c =
    let on = columns_on c.args.machine.now c.args.window.now.threads in
    c.in_ok-push_columns.ensures ∙ ap (λ l. l ++ on c.loop-cpu.cpu) c.loop-cpu.invariant ∙ sym (flat_map-range_more on c.loop-cpu.cpu)
