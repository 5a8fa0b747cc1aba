use Rattle.std.proofs.Common.{◌≡◌, length, arith}
use Rattle.tcb_arena.proofs.Wheels.{shown-none, wheel-none}
use Rattle.tcb_arena.proofs.wheel.Wheel.new.Goals as goal

pub invariant_of-result : goal.invariant_of-result
invariant_of-result c =
    let l : length c.in_ok-deadlines.deadlines.items ≡ c.args.blocks = omega (arith, c.in_ok-deadlines.ensures.len) in
    let m : length c.in_ok-latest.latest.items ≡ c.args.blocks = omega (arith, c.in_ok-latest.ensures.len) in
    wheel-none c.args.blocks _ c.in_ok-deadlines.deadlines.items c.in_ok-latest.latest.items c.in_ok-rings.rings c.in_ok-order.order l m c.in_ok-rings.ensures c.in_ok-order.ensures

pub returns : goal.returns
returns c =
    let l : length c.in_ok-deadlines.deadlines.items ≡ c.args.blocks = omega (arith, c.in_ok-deadlines.ensures.len) in
    shown-none c.args.blocks c.in_ok-deadlines.deadlines.items c.in_ok-rings.rings l c.in_ok-rings.ensures
