use Rattle.std.proofs.Common.{◌≡◌, length, ◌∙◌, ap, arith}
use Rattle.l4_core.specs.Inner.Opening.{lists_below}
use Rattle.l4_core.proofs.Opening.{none_below}
use Rattle.l4_core.proofs.known.opening_lists.Goals as goal

pub loop-place-init : goal.loop-place-init
loop-place-init c = none_below c.args.machine.now c.args.cpu _ c.in_ok-lists.lists (ap length c.threads-count.ensures.value) c.in_ok-lists.ensures

pub open_place-requires-clause-within : goal.open_place-requires-clause-within
open_place-requires-clause-within c = let e = ap length c.threads-count.ensures.value in omega (arith, e, c.loop-place-test.true)

pub returns : goal.returns
returns c =
    let place : c.loop-place.place ≡ length c.args.machine.now.threads = let e = ap length c.threads-count.ensures.value in omega (arith, e, c.loop-place.auto.place-end, c.loop-place-test.false) in
    c.loop-place.invariant ∙ ap (lists_below c.args.machine.now c.args.cpu) place
