use Rattle.std.proofs.Common.{rules}
use Rattle.l4_mail.proofs.Taken.{front_empty}
use Rattle.l4_mail.proofs.inlets.Inlet.has_mail.Goals as goal

pub returns-then-not-is_empty-clause-here : goal.returns-then-not-is_empty-clause-here
returns-then-not-is_empty-clause-here c = (λ no. search rules, λ none. let e = front_empty c.args.self.now.kept.items _ none in search rules)
