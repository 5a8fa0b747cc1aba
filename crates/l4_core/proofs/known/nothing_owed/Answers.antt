use Rattle.std.proofs.Common.{◌≡◌, None, [], ◌∷◌, ◌++◌, length, sym, ◌∙◌, ap, arith}
use Rattle.std.specs.Prelude.{replicate}
use Rattle.l4_core.proofs.Keeping.{kept_fresh}
use Rattle.l4_core.proofs.Opening.{replicate-push}
use Rattle.l4_core.proofs.known.nothing_owed.Goals as goal

pub loop-preserved : goal.loop-preserved
loop-preserved c = c.in_ok-push.ensures.items ∙ ap (λ os. os ++ None ∷ []) c.loop.invariant ∙ replicate-push c.loop.counter None

pub returns : goal.returns
returns c =
    let place : c.loop.counter ≡ length c.args.machine.now.threads = let e = ap length c.threads-declared.ensures.value in omega (arith, e, c.loop.auto.counter-end, c.loop-test.false) in
    kept_fresh c.args.machine.now c.loop.owed.items (sym c.retargets.ensures ∙ c.if-not-retargets.false) (c.loop.invariant ∙ ap (λ n. replicate n None) place)
