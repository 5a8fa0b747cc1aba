use Rattle.std.proofs.Common.{sym, ◌∙◌, arith}
use Rattle.l4_replay.specs.Inner.Waiting.{sought}
use Rattle.l4_replay.proofs.Enough.{next_step, one_none, one_some}
use Rattle.l4_replay.proofs.waiting.Search.missing_after.Goals as goal
use Rattle.l4_replay.proofs.waiting.Search.missing_after.Goals.{then-is_some, else-is_some}

pub loop-place-preserved : goal.loop-place-preserved
loop-place-preserved c =
    let f = sought c.args.self.now in
    let next = next_step f c.args.history.now.steps c.args.end c.loop-place.place c.send_at.result c.requires.within c.loop-place-test.true c.send_at.ensures in
    elim c.if-is_some.branch [
      | then-is_some w ↦ rw w.missing-is (let one = one_some c.send_at.result (sym c.is_some.ensures ∙ w.if-is_some.true) in
          omega (arith, next, one, c.loop-place.invariant, w.saturating_sub-missing.ensures))
      | else-is_some w ↦ rw w.missing-is (let one = one_none c.send_at.result (sym c.is_some.ensures ∙ w.if-is_some.false) in omega (arith, next, one, c.loop-place.invariant))
    ]
