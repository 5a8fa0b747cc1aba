use Rattle.std.proofs.Common.{◌/◌, ◌++◌, ap, subst, sym, ◌∙◌}
use Rattle.l4_codes.specs.Inner.Written.{IsLeft}
use Rattle.l4_codes.proofs.Writing.{begun, goes_on, over}
use Rattle.l4_codes.proofs.code.push_number.Goals as goal

pub loop-left-init : goal.loop-left-init
loop-left-init c =
    begun c.args.number c.args.bytes.now.items c.ranges.number.fits

pub loop-left-preserved : goal.loop-left-preserved
loop-left-preserved c =
    subst (IsLeft c.args.number (c.loop-left.left / 128) c.args.bytes.now.items) (sym
    c.in_ok-push.ensures.items)
    (goes_on c.args.number c.loop-left.left c.args.bytes.now.items c.loop-left.bytes.items
    c.loop-left-test.true c.loop-left.invariant)

pub returns : goal.returns
returns c =
    λ rest.
    ap (λ bs. bs ++ rest) c.in_ok-push-2.ensures.items
    ∙ over c.args.number c.loop-left.left c.args.bytes.now.items c.loop-left.bytes.items
    c.loop-left-test.false c.loop-left.invariant rest
