-- What an audit and a chart come to, from what they print of a trace.
use Rattle.std.proofs.Common.{◌≡◌, ℕ, Option, None, List, sym, subst}
use Rattle.l4_model.specs.Machine.{Machine}
use Rattle.l4_commands.specs.declared.job.ChartJob.{ChartJob}
use Rattle.l4_commands.specs.declared.job.Judged.{Judged}
use Rattle.l4_jobs.specs.Audits.{IsAuditDone, IsAudited, IsRefusedAt, IsRefusedBy, refusal_text, tells_refusals}
use Rattle.l4_jobs.specs.ChartJobs.{IsChartDone, IsCharted}
use Rattle.l4_jobs.specs.Outputs.{Output}

pub audit_done : (judged : Judged) (m : Machine) (text slice : List ℕ) (o : Output) (lines : List ℕ) (status : ℕ) (refused : Option ℕ) → slice ≡ text →
    IsAudited judged m slice lines status → IsRefusedBy (tells_refusals judged) m slice refused → o.lines ≡ lines → o.said ≡ refusal_text refused →
    o.status ≡ status → o.list ≡ None → IsAuditDone judged m text o
audit_done judged m text slice o lines status refused same audited at lines_are said status_is unrecorded = record {
  audited =
      subst (λ t. IsAudited judged m t o.lines o.status) same
      (subst (λ l. IsAudited judged m slice l o.status) (sym lines_are) (subst (λ s. IsAudited judged m slice lines s) (sym status_is) audited));
  refused = refused;
  refused_at = subst (λ t. IsRefusedBy (tells_refusals judged) m t refused) same at;
  said = said;
  unrecorded = unrecorded;
}

pub chart_done : (chart : ChartJob) (machine : List ℕ) (m : Machine) (text slice : List ℕ) (o : Output) (lines : List ℕ) (status : ℕ) (refused : Option ℕ) → slice ≡ text →
    IsCharted chart machine m slice lines status → IsRefusedAt m slice refused → o.lines ≡ lines → o.said ≡ refusal_text refused → o.status ≡ status →
    o.list ≡ None → IsChartDone chart machine m text o
chart_done chart machine m text slice o lines status refused same charted at lines_are said status_is unrecorded = record {
  charted =
      subst (λ t. IsCharted chart machine m t o.lines o.status) same
      (subst (λ l. IsCharted chart machine m slice l o.status) (sym lines_are) (subst (λ s. IsCharted chart machine m slice lines s) (sym status_is) charted));
  refused = refused;
  refused_at = subst (λ t. IsRefusedAt m t refused) same at;
  said = said;
  unrecorded = unrecorded;
}
