use Rattle.l4_mail.proofs.Rows.{AreAsBefore}
use Rattle.l4_mail.proofs.Whole.{HaveMoved}
use Rattle.l4_mail.proofs.ports.Port.flush.Given as goal

abbrev pub invariant-loop-end : goal.invariant-loop-end
invariant-loop-end l = record {
  same : AreAsBefore l.fn.self.outlets.items l.end-items;
  moved : HaveMoved l.end-items l.end-index;
}
