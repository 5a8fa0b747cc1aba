use Rattle.std.proofs.Common.{◌≡◌, ℕ, List, ◌++◌, length, replicate, take, ap, sym, ◌∙◌, subst, arith}
use Rattle.std.specs.Prelude.{All}
use Rattle.std.proofs.lemmas.List.{take-append-le, take_all}
use Rattle.l4_model.specs.Machine.{Declaration}
use Rattle.l4_types.specs.StepView.{seen}
use Rattle.l4_counts.specs.declared.counts.Counts.{Counts}
use Rattle.l4_counts.specs.Inner.Few.{AreFew}
use Rattle.l4_counts.specs.Inner.Threads.{each_with_step}
use Rattle.l4_counts.proofs.Each.{each_begun, each_few, each_more}
use Rattle.l4_counts.proofs.threads.counts_of_each.Goals as goal

front : (xs ys : List Counts) (n : ℕ) → length xs ≡ n → take n (xs ++ ys) ≡ xs
front xs ys n long = take-append-le n xs ys (omega (arith, long)) ∙ take_all n xs (omega (arith, long))

pub loop-place-init : goal.loop-place-init
loop-place-init c =
    c.in_ok-counts.ensures.items_if_clones_equal (λ y same. same)
    ∙ ap (λ (ds : List Declaration). replicate (length ds) c.none.result) c.threads.ensures.value
    ∙ each_begun c.args.machine.now.threads c.none.result c.none.ensures

pub count_step-requires-clause-few : goal.count_step-requires-clause-few
count_step-requires-clause-few c =
    let l = c.loop-place in
    subst (All AreFew) (sym (c.deref_mut.ensures.value ∙ l.invariant))
    (each_few c.args.machine.now.threads c.args.history.now.steps l.place (omega (arith, c.loop-place-test.true, c.len-place-end.ensures.value, c.len-place-end.ensures.fits)))

pub loop-place-preserved : goal.loop-place-preserved
loop-place-preserved c =
    let l = c.loop-place in
    let step = seen c.step.result in
    let before = ap length c.deref_mut.ensures.value in
    let long : length c.count_step.new.counts ≡ l.counts.len = omega (arith, c.count_step.auto.counts, before, l.counts.ok.0) in
    front c.count_step.new.counts _ l.counts.len long
    ∙ c.count_step.ensures ∙ ap (each_with_step step c.args.machine.now.threads) (c.deref_mut.ensures.value ∙ l.invariant)
    ∙ each_more c.args.machine.now.threads c.args.history.now.steps l.place step c.step.ensures
