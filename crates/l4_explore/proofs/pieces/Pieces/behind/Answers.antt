use Rattle.std.proofs.Common.{◌++◌, length, ap, subst, ◌∙◌}
use Rattle.l4_explore.specs.Inner.Codes.{code_at}
use Rattle.l4_explore.specs.Inner.Rows.{joined, numbers_of, AreBelow}
use Rattle.l4_explore.proofs.Parted.{behind_alike, BeginAlike}
use Rattle.l4_explore.proofs.pieces.Pieces.behind.Goals as goal

pub loop-part-preserved : goal.loop-part-preserved
loop-part-preserved c =
    let parts = c.self.inside.parts in
    let others = c.in-Some.others.now in
    let some = c.in-Some.ensures.some in
    let whole = code_at c.args.self.now c.args.number in
    record {
      below = (subst (AreBelow (length parts)) some c.loop-part.invariant.below).1;
      alike = behind_alike (code_at parts c.in-Some.part) (joined parts (numbers_of others))
          c.loop-part.rest.now c.in-Some-behind.left.now whole c.args.code.now
          (c.in-Some-behind.ensures.some
          ∙ ap (λ part. part ++ c.in-Some-behind.left.now) c.code.ensures)
          (subst (λ ns. BeginAlike (joined parts ns) c.loop-part.rest.now whole c.args.code.now)
          some c.loop-part.invariant.alike);
    }
