use Rattle.std.proofs.Common.{ap, arith, drop, map, [], ◌+◌, ◌++◌, ◌∙◌, ◌∷◌}
use Rattle.l4_model.specs.Machine.{Declaration}
use Rattle.l4_outlooks.proofs.Coding.{mapped_on}
use Rattle.l4_condition_lines.specs.Inner.Reading.{reads_of}
use Rattle.l4_always.specs.Inner.Parts.{parts_of, parts_read}
use Rattle.l4_always.proofs.reading.parts_read.Goals as goal

pub loop-declared-preserved : goal.loop-declared-preserved
loop-declared-preserved c =
    let m = c.args.machine.now in
    let asked = c.args.condition.now in
    let l = c.loop-declared in
    let items = c.threads-declared-items.result.now in
    let f = λ (d : Declaration). parts_of (reads_of asked d.id) in
    ap (λ xs. xs ++ map f (drop (l.declared-index + 1) items)) (c.in_ok-push.ensures.items ∙ ap (λ x. l.parts.items ++ x ∷ []) (c.in_ok-parts_of.ensures ∙ ap (λ id. parts_of (reads_of asked id)) c.id.ensures))
    ∙ mapped_on f items l.declared-index c.declared-item.result l.parts.items (parts_read m asked) (omega (arith, c.loop-declared-test.true)) c.declared-item.is l.invariant
