use Rattle.l4_stuck.proofs.Walking.{coded}
use Rattle.l4_stuck.proofs.walks.Walks.new.Goals as goal

pub invariant_of-result-clause-same : goal.invariant_of-result-clause-same
invariant_of-result-clause-same c = c.in_ok-way.ensures

pub invariant_of-result-clause-coded : goal.invariant_of-result-clause-coded
invariant_of-result-clause-coded c = coded c.args.machine.now c.know_times.ensures
