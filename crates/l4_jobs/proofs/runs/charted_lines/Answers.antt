use Rattle.std.proofs.Common.{List, subst, sym, ◌∙◌}
use Rattle.l4_model.specs.History.{IsHistory}
use Rattle.l4_model.specs.Steps.{Step}
use Rattle.l4_jobs.proofs.Drawn.{charted}
use Rattle.l4_jobs.proofs.runs.charted_lines.Goals as goal

pub returns : goal.returns
returns c =
    λ o same.
    charted c.args.printed c.args.chart c.args.text.now c.args.machine.now o c.in_ok-listing.listing c.text_form.result
    c.in_ok-history.history.steps c.in_ok-lines.lines.items c.write_told_extras.new.out.items c.requires.chart
    (subst (λ (h : List Step). IsHistory c.args.machine.now h) (sym same) c.requires.history)
    (c.in_ok-history.ensures ∙ sym same)
    c.in_ok-listing.ensures c.text_form.ensures c.in_ok-lines.ensures c.in_ok-write_told_extras.ensures
