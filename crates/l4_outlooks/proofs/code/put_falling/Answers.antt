use Rattle.std.proofs.Common.{arith, length}
use Rattle.l4_model.specs.World.{list_at}
use Rattle.l4_states.specs.Inner.Codes.{chained, number_code}
use Rattle.l4_worlds.specs.Bare.{in_order}
use Rattle.l4_outlooks.proofs.Coding.{falls_on, fallen}
use Rattle.l4_outlooks.proofs.code.put_falling.Goals as goal

pub loop-below-preserved : goal.loop-below-preserved
loop-below-preserved c =
    let a = c.args.world.now in
    let xs = list_at a.world.waiting c.args.receiver in
    falls_on c.loop-below.below _ xs c.args.code.now c.loop-below.code c.put_if_waiting.new.code (chained number_code (in_order (length a.machine.threads) xs))
    (omega (arith, c.loop-below-test.true)) c.in_ok-put_if_waiting.ensures c.loop-below.invariant

pub returns : goal.returns
returns c =
    let a = c.args.world.now in
    let xs = list_at a.world.waiting c.args.receiver in
    fallen c.put.result c.loop-below.below xs c.args.code.now c.loop-below.code c.put.new.self (chained number_code (in_order (length a.machine.threads) xs))
    (omega (arith, c.loop-below-test.false)) c.put.ensures c.loop-below.invariant
