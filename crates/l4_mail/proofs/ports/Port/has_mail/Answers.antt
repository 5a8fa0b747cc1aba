use Rattle.std.proofs.Common.{refl}
use Rattle.l4_mail.proofs.Looking.{none_kept_here}
use Rattle.l4_mail.proofs.Unlinked.{none_here}
use Rattle.l4_mail.proofs.ports.Port.has_mail.Goals as goal

pub returns-then-rung-self-clause-none : goal.returns-then-rung-self-clause-none
returns-then-rung-self-clause-none c = λ no. none_kept_here c.args.self.now.inlets.items (c.args.self.now.silent c.if-self.true)

pub returns-then-not-self-clause-none : goal.returns-then-not-self-clause-none
returns-then-not-self-clause-none c = λ no. none_kept_here c.args.self.now.inlets.items (none_here c.args.self.now.inlets.items (c.args.self.now.ways c.if-not-self.true).in_)

pub returns-then-not-self-clause-here : goal.returns-then-not-self-clause-here
returns-then-not-self-clause-here c = (λ no. none_here c.args.self.now.inlets.items (c.args.self.now.ways c.if-not-self.true).in_, λ none. refl)
