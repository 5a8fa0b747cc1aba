use Rattle.std.proofs.Common.{◌<◌, length, refl, arith}
use Rattle.l4_mail.proofs.Rows.{set_as_before}
use Rattle.l4_mail.proofs.Whole.{outlets_changed, moved_before}
use Rattle.l4_mail.proofs.ports.Port.flush.Goals as goal

pub loop-end-preserved : goal.loop-end-preserved
loop-end-preserved c =
    let lt : c.loop-end.end-index < length c.loop-end.end-items = (let t = c.loop-end-test.true in let e = c.loop-end.auto.end-items in omega arith) in
    record {
      same = set_as_before _ _ _ _ c.end-item.result c.flush.ensures.ring c.flush.ensures.posted c.flush.ensures.room c.loop-end.invariant.same;
      moved = moved_before _ _ _ lt c.flush.ensures.moved c.loop-end.invariant.moved;
    }

pub returns-clause-same : goal.returns-clause-same
returns-clause-same c = outlets_changed _ _ _ refl refl refl c.loop-end.invariant.same
