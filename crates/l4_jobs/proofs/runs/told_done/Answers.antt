use Rattle.std.proofs.Common.{◌∙◌}
use Rattle.std.proofs.lemmas.Result.{IfOk-weaker}
use Rattle.l4_told.specs.Told.{findings_with}
use Rattle.l4_jobs.proofs.Telling.{told_written}
use Rattle.l4_jobs.proofs.runs.told_done.Goals as goal

pub returns-clause-lines : goal.returns-clause-lines
returns-clause-lines c =
    let lines = c.in_ok-lines.ensures in
    IfOk-weaker c.done_with.result _ _
    (λ done same text m history possible heard.
    told_written c.args.printed text m (findings_with history c.args.state.now) c.args.steps.trace.lines.items _
    c.requires.no_chart c.requires.no_extras c.requires.in_lines possible (λ is. same ∙ lines.report is)
    (λ is. same ∙ lines.trace is) heard)
    c.done_with.ensures.lines
