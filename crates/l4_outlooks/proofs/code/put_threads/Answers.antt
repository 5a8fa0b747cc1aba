use Rattle.std.proofs.Common.{ap, arith, length}
use Rattle.l4_model.specs.World.{opening_thread}
use Rattle.l4_model.specs.Machine.{Machine}
use Rattle.l4_states.specs.Inner.Codes.{sized, thread_code}
use Rattle.l4_codes.proofs.Writing.{each_begun, each_on, each_over}
use Rattle.l4_worlds.specs.Bare.{bare}
use Rattle.l4_outlooks.proofs.Coding.{bare_counted}
use Rattle.l4_outlooks.proofs.code.put_threads.Goals as goal

pub loop-place-init : goal.loop-place-init
loop-place-init c =
    let a = c.args.world.now in
    let n = length a.machine.threads in
    each_begun thread_code n (bare a.world).threads c.args.code.now c.put.new.self (bare_counted a.world n c.facts.ensures.threads) c.in_ok-put.ensures

pub loop-place-preserved : goal.loop-place-preserved
loop-place-preserved c =
    let a = c.args.world.now in
    let l = c.loop-place in
    let n = length a.machine.threads in
    let counted = bare_counted a.world n c.facts.ensures.threads in
    each_on thread_code (sized n thread_code (bare a.world).threads) (bare a.world).threads l.place opening_thread c.args.code.now l.code c.put_found.new.code
    (omega (arith, counted, c.loop-place-test.true, ap length c.threads-place-end.ensures.value, ap (λ (x : Machine). length x.threads) c.machine.ensures)) l.invariant c.in_ok-put_found.ensures

pub returns : goal.returns
returns c =
    let a = c.args.world.now in
    let l = c.loop-place in
    let n = length a.machine.threads in
    let counted = bare_counted a.world n c.facts.ensures.threads in
    each_over thread_code (sized n thread_code (bare a.world).threads) (bare a.world).threads l.place c.args.code.now l.code
    (omega (arith, counted, c.loop-place-test.false, ap length c.threads-place-end.ensures.value, ap (λ (x : Machine). length x.threads) c.machine.ensures)) l.invariant
