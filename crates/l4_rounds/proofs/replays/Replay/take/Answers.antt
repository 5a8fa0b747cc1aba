use Rattle.std.proofs.Common.{arith}
use Rattle.l4_rounds.proofs.Replaying.{few_events, listed_in}
use Rattle.l4_rounds.proofs.replays.Replay.take.Goals as goal

pub take-requires-clause-few : goal.take-requires-clause-few
take-requires-clause-few c =
    let few = few_events c.args.self.now c.requires.replay in omega (arith, few, c.requires.few)

pub returns-clause-replay : goal.returns-clause-replay
returns-clause-replay c =
    listed_in c.args.self.now c.take.new.self c.push.new.self.items c.args.entry c.requires.replay
    c.in_ok-take.ensures c.requires.lawful c.in_ok-push.ensures.items
