use Rattle.l4_history.proofs.Read.{take_next}
use Rattle.l4_history.proofs.steps.StepsIterator.next.Goals as goal

pub returns-clause-steps : goal.returns-clause-steps
returns-clause-steps c =
    rw (← c.self.view_is) (take_next c.self.inside.history.now.steps c.self.inside.end c.self.inside.next _ c.self.invariant c.if-place-self.false c.step.ensures)
