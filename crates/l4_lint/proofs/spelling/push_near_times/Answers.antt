use Rattle.std.specs.Prelude.{codes}
use Rattle.l4_lint.specs.Spelling.{counted_text}
use Rattle.l4_lint.proofs.Joining.{four_parts}
use Rattle.l4_lint.proofs.spelling.push_near_times.Goals as goal

pub returns : goal.returns
returns c =
    four_parts c.args.out.now.items (codes "no time means this; the nearest are ") (counted_text c.args.below) (codes " and ") (counted_text c.args.above) _ _ _ _
    c.in_ok-extend_from_slice.ensures.items c.in_ok-push_counted.ensures c.in_ok-extend_from_slice-2.ensures.items c.in_ok-push_counted-2.ensures
