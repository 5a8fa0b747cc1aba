use Rattle.std.proofs.Common.{inl}
use Rattle.l4_mail.proofs.Unlinked.{none_waiting}
use Rattle.l4_mail.proofs.ports.Port.make_ready.Goals as goal

pub returns-then-not-self-clause-moved : goal.returns-then-not-self-clause-moved
returns-then-not-self-clause-moved c = λ to. inl (none_waiting c.args.self.now.outlets.items (c.args.self.now.ways c.if-not-self.true).out to)
