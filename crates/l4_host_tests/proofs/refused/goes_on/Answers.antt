use Rattle.std.proofs.lemmas.Result.{IfOk-weaker}
use Rattle.l4_host_tests.proofs.refused.goes_on.Goals as goal

pub returns : goal.returns
returns c = IfOk-weaker c.take.result _ _ (λ done goes. (_, goes c.args.machine.now c.requires.0 c.requires.1)) c.take.ensures
