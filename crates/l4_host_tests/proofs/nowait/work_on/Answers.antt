use Rattle.l4_proc.proofs.Going.{gone_trans}
use Rattle.l4_host_tests.proofs.nowait.work_on.Goals as goal

pub loop-preserved : goal.loop-preserved
loop-preserved c = gone_trans c.args.processor.now c.loop.processor c.work.new.processor c.loop.invariant c.work.ensures
