use Rattle.std.specs.String.{string_bytes}
use Rattle.l4_json.specs.Lines.{all_but_last}
use Rattle.l4_words.specs.Lines.{parts_of}
use Rattle.l4_chart.specs.Diagrams.{circle_line}
use Rattle.l4_chart.proofs.Joined.{one_more}
use Rattle.l4_chart.proofs.Listed.{but_first_line}
use Rattle.l4_chart.proofs.mermaid.push_circles_over.Goals as goal

pub loop-line-preserved : goal.loop-line-preserved
loop-line-preserved c =
    let l = c.loop-line in
    let line = c.in-Some.line.now in
    let rest = c.in-Some.rest.now in
    one_more (circle_line c.args.first c.args.last) line (all_but_last (parts_of l.left.now)) (all_but_last (parts_of rest)) (string_bytes l.out)
    (string_bytes c.push_circle.new.out) _ l.invariant (but_first_line l.left.now line rest c.in-Some.ensures.parts) c.in_ok-push_circle.ensures
