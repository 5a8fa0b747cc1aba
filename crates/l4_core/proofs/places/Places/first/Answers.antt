use Rattle.std.proofs.Common.{sym}
use Rattle.l4_core.proofs.PlaceSets.{first_is}
use Rattle.l4_core.proofs.places.Places.first.Goals as goal

pub returns : goal.returns
returns c =
    let s = c.self.inside in
    let is = c.self.view_is in
    rw (sym is) (first_is s.words s.filled c.lowest-row.result c.lowest.result c.self.told c.self.invariant c.lowest-row.ensures c.lowest.ensures)
