use Rattle.std.proofs.Common.{sym}
use Rattle.l4_core.proofs.PlaceSets.{inserted, marks_inserted}
use Rattle.l4_core.proofs.places.Places.insert.Goals as goal

pub invariant_of-self : goal.invariant_of-self
invariant_of-self c = let s = c.self.inside in marks_inserted s.words s.filled c.args.place c.self.told c.requires c.self.invariant

pub returns : goal.returns
returns c = let is = c.self.view_is in λ other. rw (sym is) (inserted c.self.inside.words c.args.place other c.self.told c.requires)
