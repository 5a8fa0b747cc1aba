use Rattle.std.proofs.Common.{ℕ, None, ◌++◌, ◌∙◌, ap, append_assoc, map, sym}
use Rattle.std.specs.String.{string_bytes}
use Rattle.l4_chart.specs.Charts.{row_of}
use Rattle.l4_chart.specs.Pictures.{waits_from, waits_picture}
use Rattle.l4_chart.proofs.Shown.{flat_map-range_more}
use Rattle.l4_chart.proofs.svg.push_waits.Goals as goal

pub loop-place-preserved : goal.loop-place-preserved
loop-place-preserved c =
    let rows = map row_of c.args.rows.now in
    let one = λ (place : ℕ). waits_from c.args.scene.now place None 0 rows in
    let place = c.loop-place.place in
    let begun = string_bytes c.args.svg.now in
    c.in_ok-push_waits_of.ensures ∙ ap (λ l. l ++ one place) c.loop-place.invariant
    ∙ append_assoc begun (waits_picture c.args.scene.now place rows) (one place) ∙ ap (λ l. begun ++ l) (sym (flat_map-range_more one place))
