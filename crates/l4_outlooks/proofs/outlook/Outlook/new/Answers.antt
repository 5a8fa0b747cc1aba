use Rattle.l4_outlooks.proofs.Leading.{none_yet}
use Rattle.l4_outlooks.proofs.outlook.Outlook.new.Goals as goal

pub invariant_of-result : goal.invariant_of-result
invariant_of-result c = rw c.in_ok-world.ensures (none_yet c.args.machine.now c.know_times.ensures)
