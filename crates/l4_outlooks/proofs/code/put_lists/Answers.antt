use Rattle.std.proofs.Common.{ap, arith, length}
use Rattle.std.specs.Prelude.{[]}
use Rattle.l4_model.specs.Machine.{Machine}
use Rattle.l4_states.specs.Inner.Codes.{chained, number_code, sized}
use Rattle.l4_codes.proofs.Writing.{each_begun, each_on, each_over}
use Rattle.l4_worlds.specs.Bare.{bare}
use Rattle.l4_outlooks.proofs.Falling.{lists_counted}
use Rattle.l4_outlooks.proofs.code.put_lists.Goals as goal

pub loop-place-init : goal.loop-place-init
loop-place-init c =
    let a = c.args.world.now in
    let n = length a.machine.threads in
    each_begun (chained number_code) n (bare a.world).waiting c.args.code.now c.put.new.self (lists_counted a.world n c.facts.ensures.threads c.facts.ensures.lists) c.in_ok-put.ensures

pub loop-place-preserved : goal.loop-place-preserved
loop-place-preserved c =
    let a = c.args.world.now in
    let l = c.loop-place in
    let n = length a.machine.threads in
    let counted = lists_counted a.world n c.facts.ensures.threads c.facts.ensures.lists in
    each_on (chained number_code) (sized n (chained number_code) (bare a.world).waiting) (bare a.world).waiting l.place [] c.args.code.now l.code c.put_list.new.code
    (omega (arith, counted, c.loop-place-test.true, ap length c.threads-place-end.ensures.value, ap (λ (x : Machine). length x.threads) c.machine.ensures)) l.invariant c.in_ok-put_list.ensures

pub returns : goal.returns
returns c =
    let a = c.args.world.now in
    let l = c.loop-place in
    let n = length a.machine.threads in
    let counted = lists_counted a.world n c.facts.ensures.threads c.facts.ensures.lists in
    each_over (chained number_code) (sized n (chained number_code) (bare a.world).waiting) (bare a.world).waiting l.place c.args.code.now l.code
    (omega (arith, counted, c.loop-place-test.false, ap length c.threads-place-end.ensures.value, ap (λ (x : Machine). length x.threads) c.machine.ensures)) l.invariant
