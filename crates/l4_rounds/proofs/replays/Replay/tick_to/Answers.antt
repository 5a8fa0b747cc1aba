use Rattle.std.proofs.Common.{arith}
use Rattle.l4_rounds.proofs.Replaying.{tick_gone, ticks_gone_few}
use Rattle.l4_rounds.proofs.replays.Replay.tick_to.Goals as goal

pub attempt-requires-clause-few : goal.attempt-requires-clause-few
attempt-requires-clause-few c =
    let few = ticks_gone_few c.args.self.now c.loop-cpu.self c.args.clock c.loop-cpu.cpu c.loop-cpu.invariant in
    omega (arith, few, c.requires.few, c.loop-cpu-test.true, c.cpus-cpu-end.ensures.limit)

pub loop-cpu-preserved : goal.loop-cpu-preserved
loop-cpu-preserved c =
    tick_gone c.args.self.now c.loop-cpu.self c.attempt.new.self c.args.clock c.loop-cpu.cpu
    c.loop-cpu.invariant c.in_ok-attempt.ensures
