use Rattle.std.proofs.Common.{◌≡◌, [], ◌∷◌, ◌++◌, length, ◌∙◌, ap, arith}
use Rattle.std.specs.Prelude.{replicate}
use Rattle.l4_core.proofs.Opening.{replicate-push, replicate-map}
use Rattle.l4_core.proofs.known.none_notified.Goals as goal

pub loop-preserved : goal.loop-preserved
loop-preserved c = c.in_ok-push.ensures.items ∙ ap (λ ns. ns ++ 0 ∷ []) c.loop.invariant ∙ replicate-push c.loop.counter 0

pub returns : goal.returns
returns c =
    let place : c.loop.counter ≡ length c.args.machine.now.threads = let e = ap length c.threads-declared.ensures.value in omega (arith, e, c.loop.auto.counter-end, c.loop-test.false) in
    c.loop.invariant ∙ ap (λ n. replicate n 0) place ∙ replicate-map 0 c.args.machine.now.threads
