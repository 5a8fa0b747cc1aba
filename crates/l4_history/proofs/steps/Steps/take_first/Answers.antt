use Rattle.l4_history.proofs.Read.{parted}
use Rattle.l4_history.proofs.steps.Steps.take_first.Goals as goal

pub returns : goal.returns
returns c =
    let parts = parted c.self.inside.history.now.steps c.self.inside.end c.self.inside.next c.args.most c.end_of_first-self-inside.result c.self.invariant c.end_of_first-self-inside.ensures in
    rw (← c.self.view_is) (record { first = parts.0; left = parts.1 })
