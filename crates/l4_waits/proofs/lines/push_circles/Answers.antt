use Rattle.std.proofs.Common.{map}
use Rattle.std.specs.String.{string_bytes}
use Rattle.l4_types.specs.StepView.{step_of}
use Rattle.l4_waits.specs.Circles.{circle_at}
use Rattle.l4_waits.specs.Lines.{circle_line}
use Rattle.l4_waits.proofs.Ranges.{texts_more}
use Rattle.l4_waits.proofs.lines.push_circles.Goals as goal

pub loop-first-preserved : goal.loop-first-preserved
loop-first-preserved c =
    texts_more (λ first. circle_line c.args.waits.now (map step_of c.args.steps.now) (circle_at c.args.nexts.now first)) (string_bytes c.args.text.now) (string_bytes c.loop-first.text) _
    c.loop-first.first c.loop-first.invariant c.in_ok-push_circle_at.ensures
