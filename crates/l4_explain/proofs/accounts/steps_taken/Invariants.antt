use Rattle.l4_audit.proofs.Replaying.{Replayed}
use Rattle.l4_explain.proofs.accounts.steps_taken.Given as goal

abbrev pub invariant-loop-place : goal.invariant-loop-place
invariant-loop-place l = Replayed l.machine l.history.steps l.place l.auditor
