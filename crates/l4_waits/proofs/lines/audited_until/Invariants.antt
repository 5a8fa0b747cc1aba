use Rattle.l4_audit.proofs.Replaying.{Replayed}
use Rattle.l4_waits.proofs.lines.audited_until.Given as goal

abbrev pub invariant-loop-place : goal.invariant-loop-place
invariant-loop-place l = Replayed l.machine l.history.steps l.place l.auditor
