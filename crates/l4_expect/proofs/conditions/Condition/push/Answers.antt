use Rattle.l4_expect.proofs.Judgeable.{one_more_line}
use Rattle.l4_expect.proofs.conditions.Condition.push.Goals as goal

pub invariant_of-self-2 : goal.invariant_of-self-2
invariant_of-self-2 c =
    one_more_line c.self.inside.lines.items c.push.new.self.items c.args.line c.in_ok-push.ensures.items
    c.self.invariant c.requires
