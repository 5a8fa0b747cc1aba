use Rattle.std.proofs.Common.{[], sym, ◌∙◌}
use Rattle.l4_replay.specs.Inner.Waiting.{sought}
use Rattle.l4_replay.proofs.Sought.{more_found, none_found}
use Rattle.l4_replay.proofs.waiting.Search.finds_between.Goals as goal

pub loop-place-preserved : goal.loop-place-preserved
loop-place-preserved c =
    more_found (sought c.args.self.now) c.args.history.now.steps c.args.end c.loop-place.place [] [] c.send_at.result _ c.requires.within c.loop-place-test.true c.send_at.ensures
    (none_found c.send_at.result (sym c.is_some.ensures ∙ c.if-is_some.false)) c.loop-place.invariant
