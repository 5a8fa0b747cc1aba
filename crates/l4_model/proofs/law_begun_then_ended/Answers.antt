use Rattle.l4_model.proofs.Lawful.{begun_then_ended}
use Rattle.l4_model.proofs.law_begun_then_ended.Goals as goal

pub returns : goal.returns
returns c = λ m h is. begun_then_ended m h is.0 is.1
