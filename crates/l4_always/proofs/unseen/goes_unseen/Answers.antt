use Rattle.std.proofs.Common.{Some, ap, length, sym, ◌∙◌}
use Rattle.std.proofs.lemmas.Bool.{ltb-true}
use Rattle.std.specs.Prelude.{slice_get}
use Rattle.l4_model.specs.Machine.{Machine}
use Rattle.l4_types.specs.StepView.{seen}
use Rattle.l4_outlooks.specs.Inner.Standing.{stands_by}
use Rattle.l4_always.specs.Inner.Parts.{writes_part}
use Rattle.l4_always.proofs.Seeing.{get_at, unseen}
use Rattle.l4_always.proofs.unseen.goes_unseen.Goals as goal

pub returns-then-has : goal.returns-then-has
returns-then-has c = λ is asked are.
    let m = c.args.machine.now in
    let w = c.args.outlook.now.world in
    let place = c.in-Some-place_of.place in
    let parts = c.in-Some-get.parts.now in
    let step = seen c.args.step.now in
    let lookup = c.in-Some-get.ensures.lookup in
    unseen m w asked c.in-Some.id place c.args.read.now parts step c.has.result c.is_visible.result
    (sym c.in-Some.ensures) (sym c.in-Some-place_of.ensures) (get_at c.args.read.now place parts (ltb-true place (length c.args.read.now) (sym lookup.0)) ∙ ap Some (sym lookup.1)) are
    (c.has.ensures ∙ ap (λ xs. stands_by (slice_get xs place) step) c.requires.alone)
    (c.is_visible.ensures ∙ ap (λ (n : Machine). writes_part n w parts step) c.requires.same)
    c.if-has.true is
