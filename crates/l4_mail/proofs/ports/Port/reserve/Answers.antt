use Rattle.std.proofs.Common.{◌<◌, length, refl, arith}
use Rattle.l4_mail.proofs.Rows.{set_as_before, room_before}
use Rattle.l4_mail.proofs.Whole.{outlets_changed}
use Rattle.l4_mail.proofs.Unlinked.{ways_before}
use Rattle.l4_mail.proofs.ports.Port.reserve.Goals as goal

pub returns-in_err-reserve-clause-same : goal.returns-in_err-reserve-clause-same
returns-in_err-reserve-clause-same c = outlets_changed _ _ _ refl refl refl
    (set_as_before _ _ _ _ c.end-item.result c.reserve.ensures.ring c.reserve.ensures.posted c.reserve.ensures.grown c.loop-end.invariant.same)

pub loop-end-preserved : goal.loop-end-preserved
loop-end-preserved c =
    let lt : c.loop-end.end-index < length c.loop-end.end-items = (let t = c.loop-end-test.true in let e = c.loop-end.auto.end-items in omega arith) in record {
      same = set_as_before _ _ _ _ c.end-item.result c.reserve.ensures.ring c.reserve.ensures.posted c.reserve.ensures.grown c.loop-end.invariant.same;
      room_so_far = room_before _ _ _ _ c.end-item.result c.reserve.ensures.ring c.reserve.ensures.grown c.in_ok-reserve.ensures.room lt c.loop-end.invariant.room_so_far;
    }

pub returns-clause-same : goal.returns-clause-same
returns-clause-same c = outlets_changed _ _ _ refl refl refl c.loop-end.invariant.same

pub invariant_of-self-in-Break-1 : goal.invariant_of-self-in-Break-1
invariant_of-self-in-Break-1 c = record {
  few = c.args.self.now.few;
  ways = ways_before c.args.self.now _
      (set_as_before _ _ _ _ c.end-item.result c.reserve.ensures.ring c.reserve.ensures.posted c.reserve.ensures.grown c.loop-end.invariant.same);
  prepared = λ yes. absurd cc;
  silent = c.args.self.now.silent;
}
