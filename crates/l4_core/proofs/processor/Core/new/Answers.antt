use Rattle.l4_core.proofs.Noting.{covered-opening}
use Rattle.l4_core.proofs.processor.Core.new.Goals as goal

pub invariant_of-result : goal.invariant_of-result
invariant_of-result c = covered-opening c.new-2.result c.new-3.result c.args.machine.now c.args.cpu c.in_ok-new.field-0 c.new-2.ensures c.in_ok-new.ensures
