use Rattle.std.proofs.Common.{sym}
use Rattle.l4_sets.proofs.Bits.{union_has}
use Rattle.l4_sets.proofs.processors.Processors.union.Goals as goal

pub returns : goal.returns
returns c =
    let a = c.self.view_is in
    let b = c.other.view_is in
    λ cpu. rw (sym a) (rw (sym b) (union_has c.self.inside.bits c.other.inside.bits cpu))
