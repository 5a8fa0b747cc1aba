use Rattle.std.specs.Option.{option_copied}
use Rattle.l4_chart.specs.Charts.{drawn_of}
use Rattle.l4_jobs.specs.ChartJobs.{drawing_form, part_of, text_width}
use Rattle.l4_jobs.proofs.Charted.{drawn_is, history_is}
use Rattle.l4_jobs.proofs.charts.history_chart.Goals as goal

pub new-requires : goal.new-requires
new-requires c =
    history_is c.args.machine.now c.args.history.now.steps c.in_ok-refused.refused c.new-all.result c.until_refused-window.result c.until_refused-window.ensures
    c.in_ok-refused.ensures.before

pub returns-clause-lines : goal.returns-clause-lines
returns-clause-lines c =
    drawn_is (drawing_form c.args.chart.now.form) (text_width c.args.chart.now.width) c.args.machine.now c.args.text.now c.args.history.now.steps c.in_ok-refused.refused
    c.in_ok-listing.listing (part_of c.args.chart.now (option_copied c.args.threads)) c.new-all.result c.until_refused-window.result (drawn_of c.in_ok-shown.shown) _
    c.in_ok-refused.ensures.place c.in_ok-listing.ensures c.new-all.ensures c.until_refused-window.ensures c.in_ok-shown.ensures c.in_ok-drawing.ensures
