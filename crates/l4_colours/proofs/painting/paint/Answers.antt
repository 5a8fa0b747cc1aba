use Rattle.std.proofs.Common.{◌++◌, ◌∙◌}
use Rattle.l4_colours.specs.Painted.{begin_of, end, painted}
use Rattle.l4_colours.proofs.Written.{broken, failed, further, regroup}
use Rattle.l4_colours.proofs.painting.paint.Goals as goal

pub returns-in_err-put_toned : goal.returns-in_err-put_toned
returns-in_err-put_toned g c =
    let t = c.in-Some.toned in
    failed _ c.from_residual.result _ _ _ c.from_residual.ensures.1
    (broken _ _ _ (painted c.args.text.now) (painted c.lines.left.now) (t.before.now ++ (begin_of t.tone ++ (t.line.now ++ end))) (painted t.behind.now) c.lines.invariant
    (c.in-Some.ensures.parts ∙ regroup t.before.now (begin_of t.tone) t.line.now end (painted t.behind.now)) c.in_err-put_toned.ensures)

pub lines-preserved : goal.lines-preserved
lines-preserved g c =
    let t = c.in-Some.toned in
    further _ _ _ (painted c.args.text.now) (painted c.lines.left.now) (t.before.now ++ (begin_of t.tone ++ (t.line.now ++ end))) (painted t.behind.now) c.lines.invariant
    (c.in-Some.ensures.parts ∙ regroup t.before.now (begin_of t.tone) t.line.now end (painted t.behind.now)) c.in_ok-put_toned.ensures
