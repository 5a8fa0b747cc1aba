use Rattle.l4_mail.proofs.Rows.{AreAsBefore, HaveRoom}
use Rattle.l4_mail.proofs.Whole.{HaveMoved}
use Rattle.l4_mail.proofs.ports.Port.prepare.Given as goal

abbrev pub invariant-loop-end : goal.invariant-loop-end
invariant-loop-end l = record {
  same : AreAsBefore l.fn.self.outlets.items l.end-items;
  room_so_far : HaveRoom l.end-items l.end-index 2;
  moved : HaveMoved l.end-items l.end-index;
}
