use Rattle.std.proofs.Common.{◌++◌, length, sym, ap, subst, ◌∙◌}
use Rattle.std.specs.Str.{bytes_eq}
use Rattle.l4_explore.specs.Inner.Codes.{code_at}
use Rattle.l4_explore.specs.Inner.Rows.{numbers_of, joined, AreBelow}
use Rattle.l4_explore.proofs.Parted.{eq_behind}
use Rattle.l4_explore.proofs.rows.Rows.is_at.Goals as goal

pub loop-number-preserved : goal.loop-number-preserved
loop-number-preserved c =
    let parts = c.self.inside.pieces in
    let row = c.loop-number.row.now in
    let others = c.in-Some.others.now in
    let left = c.in-Some-behind.left.now in
    let some = c.in-Some.ensures.some in
    record {
      below = (subst (AreBelow (length parts)) some c.loop-number.invariant.below).1;
      same =
          sym (eq_behind (code_at parts c.in-Some.number) (joined parts (numbers_of others)) left)
          ∙ ap (λ ns. bytes_eq (joined parts ns) (code_at parts c.in-Some.number ++ left)) (sym some)
          ∙ ap (λ rest. bytes_eq (joined parts (numbers_of row)) rest)
          (sym (c.in-Some-behind.ensures.some))
          ∙ c.loop-number.invariant.same;
    }
