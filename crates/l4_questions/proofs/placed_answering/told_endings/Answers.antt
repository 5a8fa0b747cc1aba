use Rattle.std.proofs.Common.{◌≡◌, ◌≤◌, ◌<◌, ℕ, true, false, min, subst, sym, ap, ◌∙◌, arith}
use Rattle.std.specs.Option.{option_copied}
use Rattle.l4_endings.specs.Told.{entries_to, AreTold}
use Rattle.l4_endings.specs.declared.endings_of.Looked.{Looked}
use Rattle.l4_persistent.specs.Endings.{AreEndings}
use Rattle.l4_explore.specs.Tries.{deepest}
use Rattle.l4_questions.specs.Beside.{shown_as}
use Rattle.l4_questions.specs.Told.{BreaksOff, PlacedHasBegun}
use Rattle.l4_questions.specs.Inner.AllTold.{AreAllPlacedTold}
use Rattle.l4_questions.specs.Inner.Faults.{fault_of}
use Rattle.l4_questions.specs.declared.judged.Told.{Told}
use Rattle.l4_questions.proofs.Begun.{all_placed_told, placed_broke_off}
use Rattle.l4_questions.proofs.Some.{none_of, some_of}
use Rattle.l4_questions.proofs.placed_answering.told_endings.Goals as goal

pub returns-in-Ok-Some-clause-ok : goal.returns-in-Ok-Some-clause-ok
returns-in-Ok-Some-clause-ok g c =
    let m = c.args.machine.now in
    let q = c.args.question.now in
    let shown = shown_as c.args.beside.shown in
    let expected = option_copied c.args.beside.expected in
    let takes = g.T.Teller.takes c.args.teller.now in
    let o = c.in-Ok-Some.field-0 in
    let looked = c.in-Ok-Some.looked in
    let e = c.in-Ok-Some.ensures in
    let is = c.in-Ok-Some.field-0-is in
    let n = c.new-told.ensures in
    let listener = c.endings_telling.new.listener in
    let all = some_of o looked
    (λ (r : Looked). AreTold m _ r.states (min c.args.depth deepest) c.args.most r.depth r.is_whole)
    is e.all in
    let few = some_of o looked (λ (r : Looked). r.states ≤ c.args.most) is e.few in
    let whole = some_of o looked (λ (r : Looked). r.is_whole ≡ true → r.depth < c.args.depth)
    is e.whole in
    let entries = entries_to m all.ends in
    subst (λ t. AreAllPlacedTold (takes t) m q shown expected looked c.told-2-1.given.0)
    (sym (c.teller-1.given.1 (sym all.told.0.teller)))
    (subst (λ (t : Told). AreAllPlacedTold (takes listener.teller.now) m q shown expected looked t)
    (sym (c.told-2-1.given.1 (sym all.told.0.told)))
    (all_placed_told (takes listener.teller.now) m q shown expected c.new-told.result
    listener.told.now n.count n.unmet n.any looked all.ends
    (record {
      all = all.all;
      found =
          subst (λ (most : ℕ). AreEndings m entries looked.states q.depth most looked.depth
          looked.is_whole) c.requires.most
          (subst (λ (depth : ℕ). AreEndings m entries looked.states depth c.args.most looked.depth
          looked.is_whole) c.requires.depth all.found);
      few = subst (λ (most : ℕ). looked.states ≤ most) c.requires.most few;
      whole = λ yes. omega (arith, whole yes, c.requires.same_depth);
    })
    (all.told.1 n.whole)))

pub returns-in-Ok-None-clause-err : goal.returns-in-Ok-None-clause-err
returns-in-Ok-None-clause-err g c =
    let m = c.args.machine.now in
    let q = c.args.question.now in
    let shown = shown_as c.args.beside.shown in
    let takes = g.T.Teller.takes c.args.teller.now in
    let n = c.new-told.ensures in
    let listener = c.endings_telling.new.listener in
    let begun = none_of c.in-Ok-None.field-0 _ c.in-Ok-None.field-0-is
    c.in-Ok-None.ensures.stopped in
    let told = c.told-2-1.given.1 (sym begun.told.0.told) in
    subst (λ t. BreaksOff (takes t) q (PlacedHasBegun (takes t) m q shown) c.fault.result)
    (sym (c.teller-1.given.1 (sym begun.told.0.teller)))
    (subst (BreaksOff (takes listener.teller.now) q (PlacedHasBegun (takes listener.teller.now) m q shown))
    (sym (c.fault.ensures ∙ ap (λ (t : Told). fault_of t.is_refused) told))
    (placed_broke_off (takes listener.teller.now) m q shown (option_copied c.args.beside.expected)
    c.new-told.result listener.told.now n.count c.requires.lawful _ (λ ends more told. told.1 n.whole)
    false begun))

pub returns-in-Err-clause-err : goal.returns-in-Err-clause-err
returns-in-Err-clause-err g c =
    let m = c.args.machine.now in
    let q = c.args.question.now in
    let shown = shown_as c.args.beside.shown in
    let takes = g.T.Teller.takes c.args.teller.now in
    let n = c.new-told.ensures in
    let listener = c.endings_telling.new.listener in
    let refused = c.in-Err.ensures.refused in
    let begun = refused.1 in
    let told = c.told-2-1.given.1 (sym begun.told.0.told) in
    subst (λ t. BreaksOff (takes t) q (PlacedHasBegun (takes t) m q shown) c.fault-in-Err.result)
    (sym (c.teller-1.given.1 (sym begun.told.0.teller)))
    (subst (BreaksOff (takes listener.teller.now) q (PlacedHasBegun (takes listener.teller.now) m q shown))
    (sym (c.fault-in-Err.ensures ∙ ap (λ (t : Told). fault_of t.is_refused) told))
    (placed_broke_off (takes listener.teller.now) m q shown (option_copied c.args.beside.expected)
    c.new-told.result listener.told.now n.count c.requires.lawful _ (λ ends more told. told.1 n.whole)
    refused.0 begun))
