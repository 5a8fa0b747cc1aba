use Rattle.l4_jobs.proofs.Drawing.{audit_done}
use Rattle.l4_jobs.proofs.audits.audit_done.Goals as goal

pub returns-clause-ok : goal.returns-clause-ok
returns-clause-ok g c =
    let output = c.in_ok-output.ensures in
    let done = c.in_ok-into_done.ensures in (
      _,
      c.in_ok-text.ensures.ok,
      audit_done c.args.judged c.args.machine.now _ _ _ _ _ _ c.as_slice.ensures.value output.audited output.refused done.lines done.said done.status
          done.unrecorded,
    )
