use Rattle.std.proofs.Common.{◌≡◌, IfOk, List, subst}
use Rattle.l4_model.specs.Steps.{Step}
use Rattle.l4_chart.specs.Whole.{whole_text}
use Rattle.l4_steps.proofs.replies.chart_of.Goals as goal

pub returns : goal.returns
returns c =
    subst (λ (steps : List Step). IfOk c.whole_text.result (λ text. text.items
    ≡ whole_text c.args.machine.now c.args.listing.now steps c.args.form)) c.in_ok-history.ensures.told c.whole_text.ensures
