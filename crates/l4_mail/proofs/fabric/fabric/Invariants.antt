use Rattle.l4_mail.specs.Inner.Fabrics.{AreMembers}
use Rattle.l4_mail.proofs.fabric.fabric.Given as goal

abbrev pub invariant-loop-cpu : goal.invariant-loop-cpu
invariant-loop-cpu l = AreMembers l.fn.room l.cpu l.ports.items
