use Rattle.l4_replay.specs.declared.entries.Entry.TheVariants.{Turn}
use Rattle.l4_steps.proofs.Named.{own_at}
use Rattle.l4_steps.proofs.possible.write_each.Goals as goal

pub write_choice-requires-clause-own : goal.write_choice-requires-clause-own
write_choice-requires-clause-own c =
    own_at c.args.machine.now c.args.choices.now c.loop-i.i (Turn 0) c.loop-i-test.true c.requires.own
