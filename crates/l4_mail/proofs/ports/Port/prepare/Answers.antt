use Rattle.std.proofs.Common.{◌<◌, ◌≤◌, ◌∙◌, ap, length, refl, sym, arith}
use Rattle.std.specs.List.{list_any}
use Rattle.l4_mail.specs.Ends.{waits}
use Rattle.l4_mail.proofs.Readying.{all_ready, not_true}
use Rattle.l4_mail.proofs.Unlinked.{ways_before}
use Rattle.l4_mail.proofs.Rows.{set_as_before, room_before}
use Rattle.l4_mail.proofs.Whole.{outlets_changed, rooms_reserved, moved_before}
use Rattle.l4_mail.proofs.ports.Port.prepare.Goals as goal

pub returns-in_err-make_ready-clause-same : goal.returns-in_err-make_ready-clause-same
returns-in_err-make_ready-clause-same c = outlets_changed _ _ _ refl refl refl
    (set_as_before _ _ _ _ c.end-item.result c.make_ready.ensures.ring c.make_ready.ensures.posted c.make_ready.ensures.grown c.loop-end.invariant.same)

pub loop-end-preserved : goal.loop-end-preserved
loop-end-preserved c =
    let lt : c.loop-end.end-index < length c.loop-end.end-items = (let t = c.loop-end-test.true in let e = c.loop-end.auto.end-items in omega arith) in record {
      same = set_as_before _ _ _ _ c.end-item.result c.make_ready.ensures.ring c.make_ready.ensures.posted c.make_ready.ensures.grown c.loop-end.invariant.same;
      room_so_far = room_before _ _ _ _ c.end-item.result c.make_ready.ensures.ring c.make_ready.ensures.grown c.in_ok-make_ready.ensures.room lt c.loop-end.invariant.room_so_far;
      moved = moved_before _ _ _ lt c.in_ok-make_ready.ensures.moved c.loop-end.invariant.moved;
    }

pub returns-clause-same : goal.returns-clause-same
returns-clause-same c = outlets_changed _ _ _ refl refl refl c.loop-end.invariant.same

pub returns-clause-room : goal.returns-clause-room
returns-clause-room c =
    let le : length c.loop-end.end-items ≤ c.loop-end.end-index = (let t = c.loop-end-test.false in let e = c.loop-end.auto.end-items in omega arith) in
    rooms_reserved c.args.self.now _ 2 _ c.loop-end.invariant.same c.loop-end.invariant.room_so_far le

pub invariant_of-self : goal.invariant_of-self
invariant_of-self c = record {
  few = c.args.self.now.few;
  ways = ways_before c.args.self.now _
      (set_as_before _ _ _ _ c.end-item.result c.make_ready.ensures.ring c.make_ready.ensures.posted c.make_ready.ensures.grown c.loop-end.invariant.same);
  prepared = λ yes. absurd cc;
  silent = c.args.self.now.silent;
}

pub invariant_of-self-2 : goal.invariant_of-self-2
invariant_of-self-2 c =
    let le : length c.loop-end.end-items ≤ c.loop-end.end-index = (let t = c.loop-end-test.false in let e = c.loop-end.auto.end-items in omega arith) in
    record {
      few = c.args.self.now.few;
      ways = ways_before c.args.self.now _ c.loop-end.invariant.same;
      prepared = λ yes. all_ready c.args.self.now _ _ c.loop-end.invariant.same c.loop-end.invariant.room_so_far le
          (ap (list_any waits) (sym c.deref.ensures.value) ∙ sym c.any_waits.ensures ∙ not_true c.any_waits.result yes);
      silent = c.args.self.now.silent;
    }
