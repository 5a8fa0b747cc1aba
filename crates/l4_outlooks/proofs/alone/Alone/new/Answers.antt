use Rattle.std.proofs.Common.{ap, arith, drop, map, [], ◌+◌, ◌++◌, ◌∙◌, ◌∷◌}
use Rattle.l4_model.specs.Machine.{Declaration}
use Rattle.l4_outlooks.specs.Inner.Standing.{left_alone, spared_of}
use Rattle.l4_outlooks.proofs.Coding.{mapped_on}
use Rattle.l4_outlooks.proofs.alone.Alone.new.Goals as goal

pub loop-declared-preserved : goal.loop-declared-preserved
loop-declared-preserved c =
    let m = c.args.machine.now in
    let l = c.loop-declared in
    let items = c.threads-declared-items.result.now in
    let f = λ (d : Declaration). spared_of m d.id in
    ap (λ xs. xs ++ map f (drop (l.declared-index + 1) items)) (c.in_ok-push.ensures.items ∙ ap (λ x. l.threads.items ++ x ∷ []) (c.spared_of.ensures ∙ ap (spared_of m) c.id.ensures))
    ∙ mapped_on f items l.declared-index c.declared-item.result l.threads.items (left_alone m) (omega (arith, c.loop-declared-test.true)) c.declared-item.is l.invariant
