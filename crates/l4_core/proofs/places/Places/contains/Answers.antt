use Rattle.std.proofs.Common.{sym}
use Rattle.l4_core.proofs.PlaceSets.{unmarked_has}
use Rattle.l4_core.proofs.places.Places.contains.Goals as goal

pub returns-then-self-eq0 : goal.returns-then-self-eq0
returns-then-self-eq0 c =
    let s = c.self.inside in
    rw (sym c.self.view_is) (unmarked_has s.words s.filled c.args.place c.self.invariant c.if-self-eq0.true c.requires)
