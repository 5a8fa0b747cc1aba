use Rattle.std.proofs.Common.{◌∙◌, List, [], ◌∷◌, ap, ap₂, map, refl, sym, take, arith}
use Rattle.std.proofs.lemmas.List.{length-take-le, map-append}
use Rattle.l4_history.proofs.Read.{take_next}
use Rattle.l4_types.specs.StepView.{seen}
use Rattle.std.specs.Prelude.{filter}
use Rattle.l4_chart.specs.Charts.{is_in, row_of}
use Rattle.l4_chart.specs.Told.{Watched, told_of}
use Rattle.l4_chart.proofs.Walking.{all_rows, begun, goes_on, last_reached, placed_here, possible_here}
use Rattle.l4_chart.proofs.chart.rows_of.Goals as goal
use Rattle.l4_chart.proofs.chart.rows_of.Goals.{then-is_in+in_ok-push, else-is_in}

pub loop-place-init : goal.loop-place-init
loop-place-init c =
    begun c.args.listing.now c.watched-watched.result (is_in c.args.window.now c.args.columns.now) (take c.args.count c.args.history.now.steps) c.args.world.now
    (map row_of c.new-rows.result.items) c.requires.opening c.requires.possible (ap (map row_of) c.new-rows.ensures.items)

pub told_at-requires-clause-placed : goal.told_at-requires-clause-placed
told_at-requires-clause-placed c = placed_here _ _ _ _ _ _ _ _ c.loop-place.invariant

pub told_at-requires-clause-possible : goal.told_at-requires-clause-possible
told_at-requires-clause-possible c =
    possible_here _ _ _ _ _ _ _ _ _ c.loop-place.invariant
    (take_next c.args.history.now.steps c.args.count c.loop-place.place (seen c.step-step.result) c.requires.within c.loop-place-test.true c.step-step.ensures)

pub loop-place-preserved : goal.loop-place-preserved
loop-place-preserved c =
    let l = c.loop-place in
    let m = c.args.world.now.machine in
    let listing = c.args.listing.now in
    let told = c.watched-watched.result in
    let shown = is_in c.args.window.now c.args.columns.now in
    let steps = take c.args.count c.args.history.now.steps in
    let step = seen c.step-step.result in
    let row = row_of c.in_ok-row.row in
    let old = map row_of l.rows.items in
    let here = take_next c.args.history.now.steps c.args.count l.place step c.requires.within c.loop-place-test.true c.step-step.ensures in
    elim c.if-is_in.branch [
      | then-is_in+in_ok-push w ↦
          goes_on m listing told shown steps l.place step l.world c.told_at.new.world row old (map row_of c.if-is_in.rows.items) l.invariant here c.in_ok-row.ensures.taken
          c.in_ok-row.ensures.told
          (rw (sym c.is_in.ensures ∙ w.if-is_in.true)
          (rw w.rows-is (ap (map row_of) w.in_ok-push.ensures.items ∙ map-append row_of l.rows.items (c.in_ok-row.row ∷ []))))
      | else-is_in w ↦
          goes_on m listing told shown steps l.place step l.world c.told_at.new.world row old (map row_of c.if-is_in.rows.items) l.invariant here c.in_ok-row.ensures.taken
          c.in_ok-row.ensures.told (rw (sym c.is_in.ensures ∙ w.if-is_in.false) (rw w.rows-is refl))
    ]

pub returns-clause-rows : goal.returns-clause-rows
returns-clause-rows c =
    let steps = take c.args.count c.args.history.now.steps in
    all_rows _ _ _ _ steps c.loop-place.place _ _ c.loop-place.invariant
    (omega (arith, length-take-le c.args.count c.args.history.now.steps c.requires.within, c.loop-place-test.false))
    ∙ ap (λ (ws : Watched). filter (is_in c.args.window.now c.args.columns.now) (told_of c.args.world.now.machine c.args.listing.now ws steps))
    c.watched-watched.ensures

pub returns-clause-world : goal.returns-clause-world
returns-clause-world c =
    let l = c.loop-place in
    let steps = take c.args.count c.args.history.now.steps in
    ap₂ (λ m w. record { machine = m; world = w }) l.invariant.machine
    (last_reached _ _ _ _ steps l.place _ _ l.invariant
    (omega (arith, length-take-le c.args.count c.args.history.now.steps c.requires.within, c.loop-place-test.false)))
