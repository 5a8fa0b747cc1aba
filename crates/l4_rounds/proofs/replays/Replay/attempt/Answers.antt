use Rattle.std.proofs.Common.{refl, arith}
use Rattle.l4_rounds.proofs.Replaying.{event_in, few_events, listed_in, none_in}
use Rattle.l4_rounds.proofs.replays.Replay.attempt.Goals as goal

pub take-requires-clause-few : goal.take-requires-clause-few
take-requires-clause-few c =
    let few = few_events c.args.self.now c.requires.replay in omega (arith, few, c.requires.few)

pub returns-in_ok-push : goal.returns-in_ok-push
returns-in_ok-push c =
    let r = c.args.self.now in
    record {
      machine = refl;
      replay = listed_in r c.take.new.self c.push.new.self.items c.args.entry c.requires.replay
          c.in_ok-take.ensures c.requires.lawful c.in_ok-push.ensures.items;
      entries = event_in r c.take.new.self c.push.new.self.items c.args.entry c.requires.replay
          c.in_ok-take.ensures c.in_ok-push.ensures.items
          (omega (arith, c.if-events-before.true, c.events.ensures, c.events-before.ensures));
    }

pub returns-else-events-before : goal.returns-else-events-before
returns-else-events-before c =
    none_in c.args.self.now c.take.new.self c.args.entry c.requires.replay c.in_ok-take.ensures
    (omega (arith, c.if-events-before.false, c.events.ensures, c.events-before.ensures))
