use Rattle.std.proofs.Common.{◌≢◌, ℕ, ◌<◌, get_or}
use Rattle.l4_mail.specs.declared.ports.Port.{Port}
use Rattle.l4_mail.proofs.lists.kept_between.Given as goal

abbrev pub invariant-loop-port : goal.invariant-loop-port
invariant-loop-port l = (i : ℕ) → i < l.port-index → (d : Port) → (get_or l.fn.ports i d).cpu ≢ l.fn.to
