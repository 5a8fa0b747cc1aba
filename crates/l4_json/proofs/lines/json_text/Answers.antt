use Rattle.l4_json.proofs.Texts.{next_line}
use Rattle.l4_json.proofs.lines.json_text.Goals as goal

pub loop-line-preserved : goal.loop-line-preserved
loop-line-preserved c =
    next_line c.loop-line.out.items _ c.loop-line.left.now c.in-Some.line.now c.in-Some.rest.now _ c.in_ok-push_line.ensures c.in-Some.ensures.parts c.loop-line.invariant
