use Rattle.l4_mail.proofs.Taken.{whole-shorter}
use Rattle.l4_mail.proofs.inlets.Inlet.take.Goals as goal

pub invariant_of-self : goal.invariant_of-self
invariant_of-self c = record { whole = whole-shorter _ _ _ _ c.args.self.now.whole c.pop_front.ensures.items }
