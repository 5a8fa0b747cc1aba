use Rattle.std.proofs.Common.{◌∙◌, arith}
use Rattle.l4_history.proofs.Read.{more_behind, next_behind}
use Rattle.l4_history.proofs.history.History.extend_between.Goals as goal

pub loop-place-preserved : goal.loop-place-preserved
loop-place-preserved c =
    let h = c.args.other.now.steps in
    let same = c.in_ok-reserve.ensures.steps in
    record {
      rest = next_behind h c.args.end c.loop-place.place c.loop-place.self c.reserve.new.self c.push_stored.new.self
          c.requires c.loop-place-test.true same c.push_stored.ensures ∙ c.loop-place.invariant.rest;
      more = more_behind h c.loop-place.place c.args.self.now c.loop-place.self c.reserve.new.self c.push_stored.new.self
          (omega (arith, c.requires, c.loop-place-test.true)) c.loop-place.invariant.more same c.push_stored.ensures;
    }
