use Rattle.std.proofs.Common.{List, ℕ, ◌∙◌, ap, subst, sym}
use Rattle.std.specs.Option.{option_copied}
use Rattle.std.proofs.lemmas.Result.{IfOk-weaker}
use Rattle.l4_model.specs.History.{IsHistory}
use Rattle.l4_machine.specs.Outcomes.{Findings, compact_findings_of}
use Rattle.l4_jobs.specs.Expectations.{status_by, unmet_by}
use Rattle.l4_jobs.specs.Runs.{IsWritten, report_of, status_of_ending}
use Rattle.l4_jobs.proofs.runs.outcome_done.Goals as goal

pub printed_lines-requires : goal.printed_lines-requires
printed_lines-requires c =
    subst (λ (f : Findings). IsHistory c.args.machine.now f.history) (sym c.parts_of-history.ensures) c.requires

pub returns-clause-lines : goal.returns-clause-lines
returns-clause-lines c =
    let written =
    subst (λ (f : Findings). IsWritten c.args.printed c.args.text.now c.args.machine.now f c.in_ok-lines.lines.items)
    c.parts_of-history.ensures c.in_ok-lines.ensures in
    IfOk-weaker c.done_with.result _ _
    (λ done same.
    subst
    (λ (lines : List ℕ).
    IsWritten c.args.printed c.args.text.now c.args.machine.now (compact_findings_of c.args.outcome) lines)
    (sym same) written)
    c.done_with.ensures.lines

pub returns-clause-said : goal.returns-clause-said
returns-clause-said c =
    IfOk-weaker c.done_with.result _ _
    (λ done said.
    said ∙ ap (λ (f : Findings). unmet_by (option_copied c.args.expected) (report_of f)) c.parts_of-history.ensures)
    c.done_with.ensures.said

pub returns-clause-status : goal.returns-clause-status
returns-clause-status c =
    IfOk-weaker c.done_with.result _ _
    (λ done status.
    status
    ∙ ap (λ (f : Findings). status_by (option_copied c.args.expected) (report_of f) (status_of_ending f.ending))
    c.parts_of-history.ensures)
    c.done_with.ensures.status
