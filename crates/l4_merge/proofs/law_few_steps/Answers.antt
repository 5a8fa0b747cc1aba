use Rattle.l4_merge.proofs.FewSteps.{few_steps}
use Rattle.l4_merge.proofs.law_few_steps.Goals as goal

pub returns : goal.returns
returns c = few_steps
