use Rattle.l4_mail.specs.Inner.Fabrics.{AreJoined}
use Rattle.l4_mail.proofs.fabric.join.Given as goal

abbrev pub invariant-loop-port : goal.invariant-loop-port
invariant-loop-port l = AreJoined l.fn.room l.fn.cpu l.port-index l.ports l.next
