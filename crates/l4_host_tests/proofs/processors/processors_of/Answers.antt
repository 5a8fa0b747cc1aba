use Rattle.l4_machine.proofs.InOneHand.{assembled}
use Rattle.l4_host_tests.proofs.processors.processors_of.Goals as goal

pub returns : goal.returns
returns c = assembled c.args.machine.now c.in-Ok.processors.items c.in-Ok.ensures
