use Rattle.l4_machine.proofs.EventsLeft.{logs_rise}
use Rattle.l4_machine.proofs.logs.Logs.new.Goals as goal

pub invariant_of-result-clause-rising : goal.invariant_of-result-clause-rising
invariant_of-result-clause-rising c = logs_rise c.args.machine.now c.args.processors.items 0 c.args.machine.now.cpus c.requires.one
