use Rattle.std.proofs.Common.{None, arith}
use Rattle.l4_replay.specs.Inner.Waiting.{sought}
use Rattle.l4_machine.proofs.Enough.{next_log}
use Rattle.l4_machine.proofs.searching.begin_all.Goals as goal

pub loop-log-preserved : goal.loop-log-preserved
loop-log-preserved c =
    let next = next_log (sought c.args.search.now) c.args.processors.now c.args.most c.args.logs.now c.loop-log.log-index
    (record { place = 0; count = 0; left = 0; stamp = None }) c.loop-log-test.true in
    omega (arith, next, c.missing_after-missing.ensures, c.loop-log.invariant)
