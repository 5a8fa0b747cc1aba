use Rattle.l4_history.proofs.Read.{last_shown}
use Rattle.l4_history.proofs.steps.Steps.show_last.Goals as goal

pub returns : goal.returns
returns g c =
    rw (← c.self.view_is)
    (last_shown c.self.inside.history.now.steps c.self.inside.end c.self.inside.next (λ step. g.V.Visitor.sees c.args.visitor.now step c.show.new.visitor) c.self.invariant (rw c.self.view_is c.requires.some) c.show.ensures)
