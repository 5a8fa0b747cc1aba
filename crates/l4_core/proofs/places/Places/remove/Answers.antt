use Rattle.std.proofs.Common.{sym, arith, ◌/◌, ◌<◌}
use Rattle.l4_core.proofs.PlaceSets.{marks_emptied, removed}
use Rattle.l4_core.proofs.places.Places.remove.Goals as goal

pub invariant_of-self : goal.invariant_of-self
invariant_of-self c =
    let s = c.self.inside in
    let few : c.args.place < 1024 = c.requires in
    let row : c.args.place / 64 < 16 = omega (arith, few) in
    marks_emptied s.words s.filled (c.args.place / 64) _ c.self.told row c.self.invariant c.if-self-row-eq0.true

pub returns-then-self-row-eq0 : goal.returns-then-self-row-eq0
returns-then-self-row-eq0 c = let is = c.self.view_is in λ other. rw (sym is) (removed c.self.inside.words c.args.place other c.self.told c.requires)

pub returns-else-self-row-eq0 : goal.returns-else-self-row-eq0
returns-else-self-row-eq0 c = let is = c.self.view_is in λ other. rw (sym is) (removed c.self.inside.words c.args.place other c.self.told c.requires)
