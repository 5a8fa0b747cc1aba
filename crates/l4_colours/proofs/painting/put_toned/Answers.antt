use Rattle.std.proofs.Common.{◌++◌, true, false}
use Rattle.l4_colours.specs.Painted.{begin_of, end}
use Rattle.l4_colours.proofs.Written.{cut, failed, onward, same_all, then}
use Rattle.l4_colours.proofs.painting.put_toned.Goals as goal

pub returns-in_err-put : goal.returns-in_err-put
returns-in_err-put g c =
    let t = c.args.toned.now in
    failed _ c.from_residual.result _ _ _ c.from_residual.ensures.1 (cut _ _ t.before.now (begin_of t.tone ++ (t.line.now ++ end)) c.in_err-put.ensures)

pub returns-in_err-put-2 : goal.returns-in_err-put-2
returns-in_err-put-2 g c =
    let t = c.args.toned.now in
    failed _ c.from_residual-in_err-put-2.result _ _ _ c.from_residual-in_err-put-2.ensures.1
    (then _ _ _ t.before.now (begin_of t.tone ++ (t.line.now ++ end)) false c.in_ok-put.ensures
    (cut _ _ (begin_of t.tone) (t.line.now ++ end) (same_all _ _ _ _ false c.begin_of.ensures c.in_err-put-2.ensures)))

pub returns-in_err-put-3 : goal.returns-in_err-put-3
returns-in_err-put-3 g c =
    let t = c.args.toned.now in
    failed _ c.from_residual-in_err-put-3.result _ _ _ c.from_residual-in_err-put-3.ensures.1
    (then _ _ _ t.before.now (begin_of t.tone ++ (t.line.now ++ end)) false c.in_ok-put.ensures
    (then _ _ _ (begin_of t.tone) (t.line.now ++ end) false (same_all _ _ _ _ true c.begin_of.ensures c.in_ok-put-2.ensures)
    (cut _ _ t.line.now end c.in_err-put-3.ensures)))

pub returns : goal.returns
returns g c =
    let t = c.args.toned.now in
    onward c.put-4.result _ _ _ t.before.now (begin_of t.tone ++ (t.line.now ++ end)) c.in_ok-put.ensures
    (onward c.put-4.result _ _ _ (begin_of t.tone) (t.line.now ++ end) (same_all _ _ _ _ true c.begin_of.ensures c.in_ok-put-2.ensures)
    (onward c.put-4.result _ _ _ t.line.now end c.in_ok-put-3.ensures c.put-4.ensures))
