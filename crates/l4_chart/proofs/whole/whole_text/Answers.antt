use Rattle.std.proofs.lemmas.Result.{IfOk-weaker}
use Rattle.l4_chart.specs.Charts.{drawn_of}
use Rattle.l4_chart.proofs.Listed.{whole_is}
use Rattle.l4_chart.proofs.whole.whole_text.Goals as goal

pub returns : goal.returns
returns c =
    IfOk-weaker c.text_of.result _ _
    (λ text is.
    whole_is c.args.machine.now c.args.listing.now c.args.history.now.steps c.args.form c.glyphs_of.result.now (drawn_of c.in_ok-chart.chart) c.new-window.result
    c.len.result text.items c.len.ensures.value c.new-window.ensures c.glyphs_of.ensures c.in_ok-chart.ensures is)
    c.text_of.ensures
