use Rattle.std.proofs.Common.{ap, sym, ◌∙◌, subst, arith}
use Rattle.l4_types.specs.StepView.{seen}
use Rattle.l4_counts.specs.Counts.{with_step}
use Rattle.l4_counts.specs.Inner.Few.{AreFew}
use Rattle.l4_counts.proofs.Counting.{few, counts_begun, counts_more}
use Rattle.l4_counts.proofs.counts.Counts.of.Goals as goal

pub loop-place-init : goal.loop-place-init
loop-place-init c = counts_begun c.args.id c.args.history.now.steps _ (c.none-counts.ensures c.args.id)

pub add-requires : goal.add-requires
add-requires c =
    let l = c.loop-place in
    subst AreFew (sym l.invariant) (few c.args.id c.args.history.now.steps l.place (omega (arith, c.loop-place-test.true, c.len-place-end.ensures.value, c.len-place-end.ensures.fits)))

pub loop-place-preserved : goal.loop-place-preserved
loop-place-preserved c =
    let l = c.loop-place in
    let step = seen c.step.result in
    c.add.ensures ∙ ap (with_step c.args.id step) l.invariant ∙ counts_more c.args.id c.args.history.now.steps l.place step c.step.ensures
