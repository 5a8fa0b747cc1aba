use Rattle.std.proofs.Common.{ap, ◌∙◌}
use Rattle.std.specs.String.{string_bytes}
use Rattle.l4_json.specs.Lines.{all_but_last}
use Rattle.l4_words.specs.Lines.{parts_of}
use Rattle.l4_chart.proofs.Pictured.{one_circle}
use Rattle.l4_chart.proofs.Listed.{but_first_line}
use Rattle.l4_chart.proofs.svg.push_circles.Goals as goal

pub loop-line-preserved : goal.loop-line-preserved
loop-line-preserved c =
    let l = c.loop-line in
    let line = c.in-Some.line.now in
    let rest = c.in-Some.rest.now in
    rw c.saturating_add-place.ensures (one_circle c.args.scene.now l.place line (all_but_last (parts_of l.left.now)) (all_but_last (parts_of rest)) (string_bytes l.svg) (string_bytes c.push_circle.new.svg)
    _ (but_first_line l.left.now line rest c.in-Some.ensures.parts) c.in_ok-push_circle.ensures l.invariant)
