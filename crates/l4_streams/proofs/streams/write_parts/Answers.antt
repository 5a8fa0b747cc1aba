use Rattle.std.proofs.Common.{append-nil, arith, sym}
use Rattle.std.proofs.lemmas.Grind.{common_steps}
use Rattle.l4_streams.proofs.Appending.{further}
use Rattle.l4_streams.proofs.streams.write_parts.Goals as goal

pub returns-in_err-write_whole : goal.returns-in_err-write_whole
returns-in_err-write_whole g c =
    let e = c.in_err-write_whole.ensures in
    let h = further _ _ _ _ _ _ _ _ _ _ c.loop-part-test.true c.as_bytes.ensures.value c.loop-part.invariant e.1 in
    grind (arith, common_steps, h)

pub loop-part-preserved : goal.loop-part-preserved
loop-part-preserved g c =
    further _ _ _ _ _ _ _ _ _ _ c.loop-part-test.true c.as_bytes.ensures.value c.loop-part.invariant
    (_, sym (append-nil _), c.in_ok-write_whole.ensures)
